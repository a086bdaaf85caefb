use Rattle.std.proofs.Common.{◌≡◌, ◌∙◌, ◌++◌, ◌∷◌, [], ℕ, ℤ, List, map, pos, ◌*ℤ◌, ap, subst, sym}
use Rattle.std.specs.Int.RustNames.{FitsSigned}
use mir.Syntax.{w128}
use Rattle.std.proofs.lemmas.Int.{to_z-of_z}
use Rattle.exact_rows.specs.declared.sparse.Entry.{Entry}
use Rattle.exact_rows.specs.Sparse.{AreEntries, row_of}
use Rattle.exact_pivot.specs.Scattered.{lack_of, sign_at, start_entries, times_sign, with_number}
use Rattle.exact_pivot.proofs.start.start_numbers.Goals as goal

-- the entries, one call after another
begun : (es : List Entry) (artificial right : ℕ) (lack sign last : ℤ) (none times more all : List Entry) → lack ≡ lack_of es → sign ≡ sign_at lack → none ≡ []
    → times ≡ none ++ map (times_sign sign) es → more ≡ times ++ record { column = artificial; value = pos 1 } ∷ [] → last ≡ sign *ℤ lack → all ≡ with_number more right last
    → all ≡ start_entries es artificial right
begun es artificial right lack sign last none times more all l s n t m x a = a ∙ (λ i. with_number (entries i) right (number i))
  where
    signed : sign ≡ sign_at (lack_of es)
    signed = s ∙ ap sign_at l

    entries : more ≡ map (times_sign (sign_at (lack_of es))) es ++ record { column = artificial; value = pos 1 } ∷ []
    entries = m ∙ ap (λ (fs : List Entry). fs ++ record { column = artificial; value = pos 1 } ∷ [])
        (t ∙ ap (λ (fs : List Entry). fs ++ map (times_sign sign) es) n ∙ ap (λ (x : ℤ). map (times_sign x) es) signed)

    number : last ≡ sign_at (lack_of es) *ℤ lack_of es
    number = x ∙ (λ i. signed i *ℤ l i)

pub with_entries-requires : goal.with_entries-requires
with_entries-requires c =
    let l : FitsSigned w128 c.lack-lack.result = record { sfits = c.lack-lack.type_inv } in
    let s : FitsSigned w128 c.sign_for-sign.result = record { sfits = c.sign_for-sign.type_inv } in
    let z : FitsSigned w128 c.signed.result = record { sfits = c.signed.type_inv } in
    let sign = simp to_z-of_z at (c.sign_for-sign.ensures.value) in
    let times = simp to_z-of_z at (c.in_ok-push_times.ensures) in
    let last = simp to_z-of_z at (c.signed.ensures.value) in
    let all = simp to_z-of_z at (c.in_ok-push_number.ensures) in
    subst (AreEntries c.args.right) (sym (begun c.args.entries.now c.args.artificial c.args.right c.lack-lack.result c.sign_for-sign.result c.signed.result
    c.in_ok-row.row.items c.push_times.new.row.items c.push.new.self.items c.push_number.new.row.items c.lack-lack.ensures.value sign c.in_ok-row.ensures.items times
    c.in_ok-push.ensures.items last all)) c.requires.fit

pub returns : goal.returns
returns c =
    let l : FitsSigned w128 c.lack-lack.result = record { sfits = c.lack-lack.type_inv } in
    let s : FitsSigned w128 c.sign_for-sign.result = record { sfits = c.sign_for-sign.type_inv } in
    let z : FitsSigned w128 c.signed.result = record { sfits = c.signed.type_inv } in
    let sign = simp to_z-of_z at (c.sign_for-sign.ensures.value) in
    let times = simp to_z-of_z at (c.in_ok-push_times.ensures) in
    let last = simp to_z-of_z at (c.signed.ensures.value) in
    let all = simp to_z-of_z at (c.in_ok-push_number.ensures) in
    c.of.ensures ∙ c.with_entries.ensures ∙ ap (row_of c.args.right) (begun c.args.entries.now c.args.artificial c.args.right c.lack-lack.result c.sign_for-sign.result c.signed.result
    c.in_ok-row.row.items c.push_times.new.row.items c.push.new.self.items c.push_number.new.row.items c.lack-lack.ensures.value sign c.in_ok-row.ensures.items times
    c.in_ok-push.ensures.items last all)
