use Rattle.std.proofs.Common.{◌≡◌, ◌∙◌, ◌-◌, ◌+◌, ◌||◌, ℕ, ℤ, Bool, List, take, sym, ap, subst, arith}
use Rattle.std.specs.Prelude.{nat_le, slice_set}
use Rattle.std.proofs.lemmas.Bool.{leb-true}
use Rattle.lk_model.specs.Formulas.Literal.{variable}
use Rattle.lk_model.proofs.Booleans.{and_true}
use Rattle.check_tables.proofs.LiteralSetLemmas.{item_literal}
use Rattle.check_linear.specs.Linear.{ClearsNumbers, is_unbalanced, is_unbalanced_clause}
use Rattle.check_linear.proofs.Clearing.{literal_cleared}
use Rattle.check_linear.proofs.SummedOnce.{literal_tested}
use Rattle.check_linear.proofs.units.clear_clause.Goals as goal

pub loop-l-preserved : goal.loop-l-preserved
loop-l-preserved c =
    let n = c.args.n in
    let occurring = c.args.occurring.now in
    let clause = c.args.clause.now in
    let i = c.loop-l.l-index in
    let l = c.l-item.result in
    let before = c.args.numbers.now.items in
    let mid = c.loop-l.numbers.items in
    let b = and_true (nat_le 1 (variable l)) (nat_le (variable l) n) (item_literal n clause i l c.requires.clause c.loop-l-test.true c.l-item.is) in
    let low = leb-true 1 (variable l) b.0 in
    let high = leb-true (variable l) n b.1 in
    let so_far = c.loop-l.invariant.1 in
    let found = is_unbalanced_clause occurring before (take i clause) in
    let here : c.is_unbalanced-unbalanced.result ≡ is_unbalanced occurring mid (variable l) =
    subst (λ (v : ℕ). c.is_unbalanced-unbalanced.result ≡ is_unbalanced occurring mid v) c.var.ensures.value
    (subst (λ (table : List (List ℤ)). c.is_unbalanced-unbalanced.result ≡ is_unbalanced occurring table c.var.result) c.deref.ensures.value c.is_unbalanced-unbalanced.ensures) in
    let cleared = subst (λ (v : ℕ). ClearsNumbers n (take (i + 1) clause) before (slice_set mid (v - 1) c.clear.new.self)) (sym c.var-in-loop-l.ensures.value)
    (subst (λ (xs : List ℤ). ClearsNumbers n (take (i + 1) clause) before (slice_set mid (variable l - 1) xs)) (sym c.clear.ensures)
    (literal_cleared n clause i l before mid c.loop-l-test.true c.l-item.is low (omega (arith, high, so_far.size, c.requires.size)) so_far)) in (
      ap (λ (x : Bool). x || c.is_unbalanced-unbalanced.result) c.loop-l.invariant.0 ∙ ap (λ (x : Bool). found || x) here
          ∙ literal_tested n occurring clause i l before mid c.loop-l-test.true c.l-item.is low high so_far,
      cleared,
    )
