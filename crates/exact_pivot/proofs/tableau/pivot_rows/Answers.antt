use Rattle.std.proofs.Common.{◌≡◌, Bool, cond, map, take, drop, ◌++◌, [], ◌-◌, get_or, List, ℤ, pos, ◌<ℤ◌, None, refl, length, arith, subst, subst₂, sym, ap, ◌∙◌}
use Rattle.std.specs.List.{All, remove, insert}
use Rattle.std.proofs.lemmas.List.{length-map}
use Rattle.std.proofs.lemmas.Result.{err_from_is_err_and}
use Rattle.std.proofs.lemmas.Grind.{common_steps}
use Rattle.lk_model.specs.Linear.Arithmetic.{first_wide}
use Rattle.lk_model.specs.Linear.Pivot.{in_first_phase, turned, cleared, made_to_clear}
use Rattle.lk_model.specs.Linear.Rows.{Row, entry}
use Rattle.exact_rows.specs.Sparse.{IsStop}
use Rattle.exact_pivot.specs.Moves.{cleared_row, made_to_clear_all}
use Rattle.exact_pivot.proofs.Pivoting.{by_is, others_width, cost_width, first_stops, second_is, second_stops, turned_is, pivoted_is, written_back}
use Rattle.exact_pivot.proofs.tableau.pivot_rows.Goals as goal

pub overflow_sub-row : goal.overflow_sub-row
overflow_sub-row c = c.requires.1.pivot.row.0

pub overflow_sub-row-2 : goal.overflow_sub-row-2
overflow_sub-row-2 c = c.requires.1.pivot.row.0

pub remove-by-requires : goal.remove-by-requires
remove-by-requires c =
    let h = c.requires.1 in
    let size = ap (λ (rs : List Row). length rs) h.rows_are in
    grind (arith, common_steps, h.pivot.row, size, h.shape.rows)

pub clear_all-requires-clause-lengths : goal.clear_all-requires-clause-lengths
clear_all-requires-clause-lengths c =
    let t = c.requires.0 in
    let h = c.requires.1 in
    let from = c.remove-by.ensures.value ∙ ap (λ (rs : List Row). get_or rs (c.args.row - 1) c.remove-by.result) h.rows_are in
    let by = by_is t c.args.row c.args.col h.shape h.pivot c.remove-by.result c.enter.new.self c.entries.result.now from c.enter.ensures c.entries.ensures in
    let rest = c.deref_mut.ensures.value ∙ c.remove-by.ensures.items ∙ ap (λ (rs : List Row). remove rs (c.args.row - 1)) h.rows_are in
    subst (All (λ (x : Row). length x.entries ≡ length c.entries.result.now)) (sym rest)
    (subst (λ (xs : List ℤ). All (λ (x : Row). length x.entries ≡ length xs) (remove t.rows (c.args.row - 1))) (sym by) (others_width t c.args.row c.args.col h.shape h.pivot))

pub clear_all-requires-clause-positive : goal.clear_all-requires-clause-positive
clear_all-requires-clause-positive c =
    let h = c.requires.1 in
    let from = c.remove-by.ensures.value ∙ ap (λ (rs : List Row). get_or rs (c.args.row - 1) c.remove-by.result) h.rows_are in
    let by = by_is c.requires.0 c.args.row c.args.col h.shape h.pivot c.remove-by.result c.enter.new.self c.entries.result.now from c.enter.ensures c.entries.ensures in
    subst (λ (xs : List ℤ). pos 0 <ℤ entry xs c.args.col) (sym by) h.pivot.positive

pub returns-in_err-clear_all-clause-made : goal.returns-in_err-clear_all-clause-made
returns-in_err-clear_all-clause-made c t h =
    let from = c.remove-by.ensures.value ∙ ap (λ (rs : List Row). get_or rs (c.args.row - 1) c.remove-by.result) h.rows_are in
    let by = by_is t c.args.row c.args.col h.shape h.pivot c.remove-by.result c.enter.new.self c.entries.result.now from c.enter.ensures c.entries.ensures in
    let rest = c.deref_mut.ensures.value ∙ c.remove-by.ensures.items ∙ ap (λ (rs : List Row). remove rs (c.args.row - 1)) h.rows_are in
    let stop = c.in_err-clear_all.field-0.0 in
    let ends = subst₂ (λ (xs : List ℤ) (rs : List Row). IsStop (made_to_clear_all xs c.args.col rs) stop) by rest c.in_err-clear_all.ensures.ends in
    let e = err_from_is_err_and c.from_residual.result c.from_residual.ensures.1 in
    rw (e.1, e.2) (first_stops t c.args.row c.args.col h.shape h.pivot stop ends)

pub clear_if-requires-clause-lengths : goal.clear_if-requires-clause-lengths
clear_if-requires-clause-lengths c =
    let t = c.requires.0 in
    let h = c.requires.1 in
    let from = c.remove-by.ensures.value ∙ ap (λ (rs : List Row). get_or rs (c.args.row - 1) c.remove-by.result) h.rows_are in
    let by = by_is t c.args.row c.args.col h.shape h.pivot c.remove-by.result c.enter.new.self c.entries-2.result.now from c.enter.ensures c.entries-2.ensures in
    ap (λ (xs : List ℤ). length xs) h.cost_is ∙ cost_width t c.args.row c.args.col h.shape h.pivot ∙ ap (λ (xs : List ℤ). length xs) (sym by)

pub clear_if-requires-clause-positive : goal.clear_if-requires-clause-positive
clear_if-requires-clause-positive c =
    let h = c.requires.1 in
    let from = c.remove-by.ensures.value ∙ ap (λ (rs : List Row). get_or rs (c.args.row - 1) c.remove-by.result) h.rows_are in
    let by = by_is c.requires.0 c.args.row c.args.col h.shape h.pivot c.remove-by.result c.enter.new.self c.entries-2.result.now from c.enter.ensures c.entries-2.ensures in
    subst (λ (xs : List ℤ). pos 0 <ℤ entry xs c.args.col) (sym by) h.pivot.positive

pub returns-in_err-clear_if-clause-made : goal.returns-in_err-clear_if-clause-made
returns-in_err-clear_if-clause-made c t h =
    let row = c.args.row in
    let col = c.args.col in
    let from = c.remove-by.ensures.value ∙ ap (λ (rs : List Row). get_or rs (row - 1) c.remove-by.result) h.rows_are in
    let by = by_is t row col h.shape h.pivot c.remove-by.result c.enter.new.self c.entries.result.now from c.enter.ensures c.entries.ensures in
    let by_again = by_is t row col h.shape h.pivot c.remove-by.result c.enter.new.self c.entries-2.result.now from c.enter.ensures c.entries-2.ensures in
    let rest = c.deref_mut.ensures.value ∙ c.remove-by.ensures.items ∙ ap (λ (rs : List Row). remove rs (row - 1)) h.rows_are in
    let none : first_wide (made_to_clear_all (turned t row col) col (remove t.rows (row - 1))) ≡ None = sym (λ j. first_wide (made_to_clear_all (by j) col (rest j))) ∙ c.in_ok-clear_all.ensures.ends in
    let stop = c.in_err-clear_if.field-0.0 in
    let ends = subst₂ (λ (xs : List ℤ) (cost : List ℤ). IsStop (cond (in_first_phase t) (made_to_clear xs col cost) []) stop) by_again h.cost_is
    (subst (λ (b : Bool). IsStop (cond b (made_to_clear c.entries-2.result.now col c.args.cost.now) []) stop) h.phase c.in_err-clear_if.ensures.ends) in
    let e = err_from_is_err_and c.from_residual-in_err-clear_if.result c.from_residual-in_err-clear_if.ensures.1 in
    rw (e.1, e.2) (second_stops t row col h.shape h.pivot stop none ends)

pub returns-clause-made : goal.returns-clause-made
returns-clause-made c t h =
    let row = c.args.row in
    let col = c.args.col in
    let from = c.remove-by.ensures.value ∙ ap (λ (rs : List Row). get_or rs (row - 1) c.remove-by.result) h.rows_are in
    let by = by_is t row col h.shape h.pivot c.remove-by.result c.enter.new.self c.entries.result.now from c.enter.ensures c.entries.ensures in
    let by_again = by_is t row col h.shape h.pivot c.remove-by.result c.enter.new.self c.entries-2.result.now from c.enter.ensures c.entries-2.ensures in
    let rest = c.deref_mut.ensures.value ∙ c.remove-by.ensures.items ∙ ap (λ (rs : List Row). remove rs (row - 1)) h.rows_are in
    let none : first_wide (made_to_clear_all (turned t row col) col (remove t.rows (row - 1))) ≡ None = sym (λ j. first_wide (made_to_clear_all (by j) col (rest j))) ∙ c.in_ok-clear_all.ensures.ends in
    let also : first_wide (cond (in_first_phase t) (made_to_clear (turned t row col) col t.cost) []) ≡ None =
    sym (λ j. first_wide (cond (h.phase j) (made_to_clear (by_again j) col (h.cost_is j)) [])) ∙ c.in_ok-clear_if.ensures.ends in
    (second_is t row col h.shape h.pivot none ∙ also, refl)

pub returns-clause-rows : goal.returns-clause-rows
returns-clause-rows c t h =
    let row = c.args.row in
    let col = c.args.col in
    let from = c.remove-by.ensures.value ∙ ap (λ (rs : List Row). get_or rs (row - 1) c.remove-by.result) h.rows_are in
    let by = by_is t row col h.shape h.pivot c.remove-by.result c.enter.new.self c.entries.result.now from c.enter.ensures c.entries.ensures in
    let by_again = by_is t row col h.shape h.pivot c.remove-by.result c.enter.new.self c.entries-2.result.now from c.enter.ensures c.entries-2.ensures in
    let rest = c.deref_mut.ensures.value ∙ c.remove-by.ensures.items ∙ ap (λ (rs : List Row). remove rs (row - 1)) h.rows_are in
    let back : take c.remove-by.new.self.len (c.clear_all.new.rows ++ drop (length c.clear_all.new.rows) c.remove-by.new.self.items) ≡ c.clear_all.new.rows =
    written_back c.clear_all.new.rows c.remove-by.new.self.items c.remove-by.new.self.len
    (ap (λ (rs : List Row). length rs) c.in_ok-clear_all.ensures.ok ∙ length-map c.deref_mut.result.now (cleared_row c.entries.result.now col) ∙ ap (λ (rs : List Row). length rs) c.deref_mut.ensures.value)
    (sym (ap (λ (rs : List Row). length rs) c.deref_mut.ensures.value) ∙ c.deref_mut.ensures.len) in
    let items : c.insert.new.self.items ≡ insert (map (cleared_row (turned t row col) col) (remove t.rows (row - 1))) (row - 1) (record { entries = turned t row col; basic = col }) =
    c.in_ok-insert.ensures.items ∙ ap (λ (rs : List Row). insert rs (row - 1) c.enter.new.self) back
    ∙ (λ j. insert ((c.in_ok-clear_all.ensures.ok ∙ (λ l. map (cleared_row (by l) col) (rest l))) j) (row - 1) ((c.enter.ensures ∙ turned_is t row col h.shape h.pivot c.remove-by.result from) j)) in
    let cost : c.clear_if.new.self ≡ cond (in_first_phase t) (cleared (turned t row col) col t.cost) t.cost = c.in_ok-clear_if.ensures.ok ∙ (λ j. cond (h.phase j) (cleared (by_again j) col (h.cost_is j)) (h.cost_is j)) in
    pivoted_is t row col h.shape h.pivot c.insert.new.self.items c.clear_if.new.self items cost
