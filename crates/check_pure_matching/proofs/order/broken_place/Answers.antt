use Rattle.std.proofs.Common.{◌≡◌, ◌∙◌, ◌+◌, List, ℤ, drop, map, min, ap, arith}
use Rattle.lk_model.specs.Formulas.Literal.{complement, is_literal}
use Rattle.lk_model.proofs.Lists.{drop_read}
use Rattle.check_tables.proofs.LiteralSetLemmas.{item_literal}
use Rattle.lk_model.proofs.Literals.{complement_literal}
use Rattle.check_pure_matching.specs.Order.{least_place, place_in}
use Rattle.check_pure_matching.proofs.OrderPlaces.{least_small, least_next, read_is}
use Rattle.check_pure_matching.proofs.order.broken_place.Goals as goal

pub loop-l-init : goal.loop-l-init
loop-l-init c = record {
  with_small = omega arith;
  against_small = omega arith;
  with_rest = omega (arith, least_small c.args.order.now c.args.clause.now);
  against_rest = omega (arith, least_small c.args.order.now (map complement c.args.clause.now));
}

pub loop-l-preserved : goal.loop-l-preserved
loop-l-preserved c =
    let order = c.args.order.now in
    let clause = c.args.clause.now in
    let i = c.loop-l.l-index in
    let l = c.l-item.result in
    let inside = c.loop-l-test.true in
    let h = c.loop-l.invariant in
    let literal = item_literal c.args.n clause i l c.requires.clause inside c.l-item.is in
    let own : c.index.result.now ≡ place_in order l = read_is c.args.n order c.args.places.now l c.index.result.now c.requires.places literal c.index.ensures in
    let negated = ap (is_literal c.args.n) c.negated.ensures ∙ complement_literal c.args.n l literal in
    let other : c.index-in-loop-l.result.now ≡ place_in order (complement l) =
    read_is c.args.n order c.args.places.now c.negated.result c.index-in-loop-l.result.now c.requires.places negated c.index-in-loop-l.ensures ∙ ap (place_in order) c.negated.ensures in
    let own_next = least_next order clause i l l inside c.l-item.is in
    let other_next : least_place order (map complement (drop i clause)) ≡ min (place_in order (complement l)) (least_place order (map complement (drop (i + 1) clause))) =
    ap (λ (ls : List ℤ). least_place order (map complement ls)) (drop_read clause i l inside c.l-item.is) in
    record {
      with_small = omega (arith, c.min-with.ensures, h.with_small);
      against_small = omega (arith, c.min-against.ensures, h.against_small);
      with_rest = omega (arith, c.min-with.ensures, own, own_next, h.with_rest);
      against_rest = omega (arith, c.min-against.ensures, other, other_next, h.against_rest);
    }
