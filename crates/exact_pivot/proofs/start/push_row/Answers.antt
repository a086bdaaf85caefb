use Rattle.std.proofs.Common.{◌≡◌, ◌∙◌, ◌++◌, ◌∷◌, [], ℤ, ap}
use Rattle.std.specs.Int.RustNames.{FitsSigned}
use mir.Syntax.{w128}
use Rattle.std.proofs.lemmas.Int.{to_z-of_z}
use Rattle.lk_model.specs.Linear.Rows.{Row}
use Rattle.exact_rows.specs.Sparse.{row_of}
use Rattle.exact_pivot.specs.Scattered.{sign_at, start_entries}
use Rattle.exact_pivot.proofs.start.push_row.Goals as goal

pub overflow_cast-artificial : goal.overflow_cast-artificial
overflow_cast-artificial c = record { fits = c.requires.column }

pub returns-clause-signs : goal.returns-clause-signs
returns-clause-signs c =
    let l : FitsSigned w128 c.lack.result = record { sfits = c.lack.type_inv } in
    let s : FitsSigned w128 c.sign_for.result = record { sfits = c.sign_for.type_inv } in
    let sign = simp to_z-of_z at (c.sign_for.ensures.value) in
    let pushed = simp to_z-of_z at (c.in_ok-push.ensures.items) in
    pushed ∙ ap (λ (x : ℤ). c.args.signs.now.items ++ x ∷ []) (sign ∙ ap sign_at c.lack.ensures.value)

pub returns-clause-rows : goal.returns-clause-rows
returns-clause-rows c =
    let row : Row = record { entries = row_of c.args.right (start_entries c.args.entries.now c.args.artificial c.args.right); basic = c.args.artificial } in
    let item : c.of.result ≡ row = λ i. record { entries = (c.of.ensures.entries ∙ c.in_ok-numbers.ensures) i; basic = c.of.ensures.basic i } in
    c.in_ok-push-2.ensures.items ∙ ap (λ (r : Row). c.args.rows.now.items ++ r ∷ []) item
