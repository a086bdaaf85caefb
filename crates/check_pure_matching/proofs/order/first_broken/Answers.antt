use Rattle.std.proofs.Common.{◌≡◌, ◌<◌, ◌∙◌, ℤ, List, length, ap, get_or, [], arith, add-one}
use Rattle.lk_model.specs.Formulas.Formula.{clause_at}
use Rattle.check_pure_matching.specs.Order.{broken_place}
use Rattle.check_pure_matching.proofs.OrderPlaces.{first_small, first_next}
use Rattle.check_pure_matching.proofs.order.first_broken.Goals as goal

pub loop-i-init : goal.loop-i-init
loop-i-init c = record { small = omega arith; rest = omega (arith, first_small c.args.order.now c.args.f.now.clauses) }

pub loop-i-preserved : goal.loop-i-preserved
loop-i-preserved c =
    let order = c.args.order.now in
    let cs = c.args.f.now.clauses in
    let i = c.loop-i.i in
    let inside : i < length cs = omega (arith, c.loop-i-test.true, c.len-i-end.ensures.value) in
    let next = first_next order cs i inside in
    let broken : c.broken_place.result ≡ broken_place order (get_or cs i []) = c.broken_place.ensures ∙ ap (λ (k : List ℤ). broken_place order k) (c.clause.ensures.value ∙ ap (clause_at c.args.f.now) (add-one i)) in
    record {
      small = omega (arith, c.min-first.ensures, c.loop-i.invariant.small);
      rest = omega (arith, c.min-first.ensures, c.loop-i.invariant.rest, next, broken);
    }
