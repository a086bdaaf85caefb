use Rattle.std.proofs.Common.{◌≡◌, ◌≢◌, ◌-◌, ◌≤◌, ℕ, List, ℤ, length, get_or, sym, subst, arith, true}
use Rattle.lk_model.specs.Formulas.Literal.{mentions}
use Rattle.bipartite_match.proofs.Literals.{mentions_index}
use Rattle.match_edits.proofs.parts.variable_of.Goals as goal

pub returns-clause-none : goal.returns-clause-none
returns-clause-none c = λ v e.
    let items = c.clause-l-items.result.now in
    let w = mentions_index items v (subst (λ (xs : List ℤ). mentions xs v ≡ true) (sym c.clause-l-items.ensures.value) e) in
    let past : length items ≤ c.loop-l.l-index = omega arith in
    let b = w.1 in
    subst (λ (u : ℕ). get_or c.args.of_var.now (u - 1) 0 ≢ c.args.number) w.2 (c.loop-l.invariant w.0 (omega (arith, b, past)))
