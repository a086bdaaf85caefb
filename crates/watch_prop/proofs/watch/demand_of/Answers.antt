use Rattle.std.proofs.Common.{◌≡◌, ◌||◌, ℤ, pos, true, refl, sym, subst, arith, inl, inr}
use Rattle.std.specs.Ordering.{int_eq}
use Rattle.lk_model.proofs.Booleans.{or_true}
use Rattle.lk_model.proofs.Literals.{same_int}
use Rattle.lk_model.proofs.ListTests.{all_weaker}
use Rattle.watch_prop.specs.Trail.{false_in}
use Rattle.watch_prop.proofs.Demands.{all_from}
use Rattle.watch_prop.proofs.watch.demand_of.Goals as goal

pub returns-in-None : goal.returns-in-None
returns-in-None c =
    let trail = c.args.trail.now.entries in
    let b = c.args.other in
    let others = all_from (λ k. int_eq k b || false_in trail k) c.args.lits.now (pos 0) (λ i lt. c.in-None.ensures i (omega arith) lt) in
    all_weaker (λ k. int_eq k b || false_in trail k) (false_in trail)
    (λ k h. elim (or_true (int_eq k b) (false_in trail k) h) [
      | inl y ↦ subst (λ (x : ℤ). false_in trail x ≡ true) (sym (same_int k b y)) (sym c.if-is_false.ensures)
      | inr y ↦ y
    ]) c.args.lits.now others

pub returns-in-None-2 : goal.returns-in-None-2
returns-in-None-2 c =
    let trail = c.args.trail.now.entries in
    let b = c.args.other in (
      refl,
      rw (sym c.if-is_false.ensures) refl,
      all_from (λ k. int_eq k b || false_in trail k) c.args.lits.now (pos 0) (λ i lt. c.in-None-2.ensures i (omega arith) lt),
    )
