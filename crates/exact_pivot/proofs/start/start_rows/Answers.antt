use Rattle.std.proofs.Common.{◌≡◌, ℕ, ◌+◌, ◌<◌, ◌≤◌, [], List, get_or, length, zip, map, arith, sym, ap, ◌∙◌, subst, subst₂}
use Rattle.std.proofs.lemmas.List.{get_or_read, take_all}
use Rattle.lk_model.specs.Lists.{up_to}
use Rattle.lk_model.specs.Linear.Rows.{Row, start_row, sign_of}
use Rattle.lk_model.proofs.Rising.{rising_count}
use Rattle.exact_rows.specs.Sparse.{AreEntries, row_of}
use Rattle.exact_rows.specs.declared.sparse.Entry.{Entry}
use Rattle.exact_pivot.specs.Small.{AreSmallEntries}
use Rattle.exact_pivot.specs.Scattered.{entries_in, lack_of, start_entries, sign_at}
use Rattle.exact_pivot.proofs.Beginnings.{variables_few}
use Rattle.exact_pivot.proofs.Pushes.{push_step, zip_get, zip_count}
use Rattle.exact_pivot.proofs.StartEntries.{variable_least, small_entries, entries_fit, row_is, lack_is}
use Rattle.exact_pivot.proofs.start.start_rows.Goals as goal

pub index-requires : goal.index-requires
index-requires c =
    let F = c.args.f.now in
    let S = c.args.kept.now in
    let j = c.loop-j.j in
    let count = ap (λ (vs : List ℕ). length vs) c.requires.vars in
    let least = variable_least F S j (get_or c.args.vars.now j 0) (omega (arith, count)) (ap (λ (vs : List ℕ). get_or vs j 0) c.requires.vars) in
    omega (arith, least, c.in_ok-incidences.ensures.size)

pub push_row-requires-clause-small : goal.push_row-requires-clause-small
push_row-requires-clause-small c =
    let F = c.args.f.now in
    let S = c.args.kept.now in
    let j = c.loop-j.j in
    let v = get_or c.args.vars.now j 0 in
    let count = ap (λ (vs : List ℕ). length vs) c.requires.vars in
    let least = variable_least F S j v (omega (arith, count)) (ap (λ (vs : List ℕ). get_or vs j 0) c.requires.vars) in
    let within : v < length c.in_ok-incidences.incidences.items = omega (arith, least, c.in_ok-incidences.ensures.size) in
    let found : c.as_slice-entries.result.now ≡ entries_in F S v = c.as_slice-entries.ensures ∙ get_or_read c.in_ok-incidences.incidences.items v c.index.result.now within c.index.ensures [] ∙ c.in_ok-incidences.ensures.each v within in
    let few : length S ≤ 4000000 = (let most = rising_count 0 (length F.clauses) S c.requires.kept (omega arith) in omega (arith, most, c.requires.limits.clauses)) in
    subst AreSmallEntries (sym found) (small_entries F S v few)

pub push_row-requires-clause-fit : goal.push_row-requires-clause-fit
push_row-requires-clause-fit c =
    let F = c.args.f.now in
    let S = c.args.kept.now in
    let j = c.loop-j.j in
    let v = get_or c.args.vars.now j 0 in
    let count = ap (λ (vs : List ℕ). length vs) c.requires.vars in
    let at = ap (λ (vs : List ℕ). get_or vs j 0) c.requires.vars in
    let least = variable_least F S j v (omega (arith, count)) at in
    let within : v < length c.in_ok-incidences.incidences.items = omega (arith, least, c.in_ok-incidences.ensures.size) in
    let found : c.as_slice-entries.result.now ≡ entries_in F S v = c.as_slice-entries.ensures ∙ get_or_read c.in_ok-incidences.incidences.items v c.index.result.now within c.index.ensures [] ∙ c.in_ok-incidences.ensures.each v within in
    let few : length S ≤ 4000000 = (let most = rising_count 0 (length F.clauses) S c.requires.kept (omega arith) in omega (arith, most, c.requires.limits.clauses)) in
    subst₂ (λ (n : ℕ) (es : List Entry). AreEntries (length S + n + 2) (start_entries es (length S + j + 1) (length S + n + 2))) (sym count) (sym found)
    (entries_fit F S j v (omega (arith, count)) at few)

pub push_row-requires-clause-column : goal.push_row-requires-clause-column
push_row-requires-clause-column c =
    let F = c.args.f.now in
    let S = c.args.kept.now in
    let count = ap (λ (vs : List ℕ). length vs) c.requires.vars in
    let few : length S ≤ 4000000 = (let most = rising_count 0 (length F.clauses) S c.requires.kept (omega arith) in omega (arith, most, c.requires.limits.clauses)) in
    omega (arith, few, count, variables_few F S, c.requires.limits.vars)

pub loop-j-preserved : goal.loop-j-preserved
unfolding start_row
loop-j-preserved c =
    let F = c.args.f.now in
    let S = c.args.kept.now in
    let vars = c.args.vars.now in
    let j = c.loop-j.j in
    let v = get_or vars j 0 in
    let count = ap (λ (vs : List ℕ). length vs) c.requires.vars in
    let at = ap (λ (vs : List ℕ). get_or vs j 0) c.requires.vars in
    let least = variable_least F S j v (omega (arith, count)) at in
    let within : v < length c.in_ok-incidences.incidences.items = omega (arith, least, c.in_ok-incidences.ensures.size) in
    let found : c.as_slice-entries.result.now ≡ entries_in F S v = c.as_slice-entries.ensures ∙ get_or_read c.in_ok-incidences.incidences.items v c.index.result.now within c.index.ensures [] ∙ c.in_ok-incidences.ensures.each v within in
    let es = c.as_slice-entries.result.now in
    let right = length S + length vars + 2 in
    let sign : sign_at (lack_of es) ≡ sign_of F S v = ap sign_at (ap lack_of found ∙ lack_is F S v) in
    let numbers : row_of right (start_entries es (length S + j + 1) right) ≡ (start_row F S (1 + j, v)).entries =
    (λ i. row_of (length S + count i + 2) (start_entries (found i) (length S + j + 1) (length S + count i + 2))) ∙ row_is F S j v (omega (arith, count)) at in
    let basic : length S + j + 1 ≡ length S + (1 + j) = omega arith in
    let row : Row = record { entries = row_of right (start_entries es (length S + j + 1) right); basic = length S + j + 1 } in
    let item : row ≡ start_row F S (1 + j, v) = λ i. record { entries = numbers i; basic = basic i } in
    record {
      signs = c.in_ok-push_row.ensures.signs ∙ push_step (sign_of F S) vars [] c.loop-j.signs.items j (sign_at (lack_of es)) 0 (omega arith) c.loop-j.invariant.signs sign;
      rows = c.in_ok-push_row.ensures.rows ∙ push_step (start_row F S) (zip (up_to (length vars)) vars) [] c.loop-j.rows.items j row (0, 0)
          (omega (arith, zip_count vars 1)) c.loop-j.invariant.rows (item ∙ ap (start_row F S) (sym (zip_get vars 1 j (omega arith))));
    }

pub returns-clause-rows : goal.returns-clause-rows
returns-clause-rows c =
    let F = c.args.f.now in
    let S = c.args.kept.now in
    let vars = c.args.vars.now in
    c.loop-j.invariant.rows ∙ ap (map (start_row F S)) (take_all c.loop-j.j (zip (up_to (length vars)) vars) (omega (arith, zip_count vars 1)))
    ∙ (λ i. map (start_row F S) (zip (up_to (length (c.requires.vars i))) (c.requires.vars i)))

pub overflow_add-right : goal.overflow_add-right
overflow_add-right c =
    let F = c.args.f.now in
    let S = c.args.kept.now in
    let count = ap (λ (vs : List ℕ). length vs) c.requires.vars in
    let few : length S ≤ 4000000 = (let most = rising_count 0 (length F.clauses) S c.requires.kept (omega arith) in omega (arith, most, c.requires.limits.clauses)) in
    record { fits = omega (arith, few, count, variables_few F S, c.requires.limits.vars) }

pub overflow_add-artificial : goal.overflow_add-artificial
overflow_add-artificial c =
    let F = c.args.f.now in
    let S = c.args.kept.now in
    let count = ap (λ (vs : List ℕ). length vs) c.requires.vars in
    let few : length S ≤ 4000000 = (let most = rising_count 0 (length F.clauses) S c.requires.kept (omega arith) in omega (arith, most, c.requires.limits.clauses)) in
    record { fits = omega (arith, few, count, variables_few F S, c.requires.limits.vars) }

pub returns-clause-signs : goal.returns-clause-signs
returns-clause-signs c =
    c.loop-j.invariant.signs ∙ ap (map (sign_of c.args.f.now c.args.kept.now)) (take_all c.loop-j.j c.args.vars.now (omega arith))
