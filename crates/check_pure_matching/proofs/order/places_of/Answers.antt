use Rattle.std.proofs.Common.{◌≡◌, ◌∙◌, ◌+◌, ◌-◌, ◌<◌, ℕ, length, drop, ap, arith}
use Rattle.std.proofs.lemmas.List.{length-replicate, length-set}
use Rattle.lk_model.specs.Formulas.Literal.{rank_of}
use Rattle.lk_model.proofs.Ranks.{rank_small}
use Rattle.check_tables.proofs.LiteralSetLemmas.{item_literal}
use Rattle.check_pure_matching.specs.Order.{place_in}
use Rattle.check_pure_matching.proofs.OrderPlaces.{places_none, places_more}
use Rattle.check_pure_matching.proofs.order.places_of.Goals as goal

pub loop-i-init : goal.loop-i-init
loop-i-init c = record {
  size = ap length c.in_ok-places.ensures ∙ length-replicate _ _;
  told = places_none c.args.n c.args.order.now c.in_ok-places.places c.in_ok-places.ensures;
}

pub index_mut-requires : goal.index_mut-requires
index_mut-requires c =
    let inside : c.loop-i.i - 1 < length c.args.order.now = omega arith in
    omega (arith, c.loop-i.invariant.size, rank_small c.args.n c.index-order-i.result (item_literal c.args.n c.args.order.now (c.loop-i.i - 1) c.index-order-i.result c.requires.order inside c.index-order-i.is))

pub loop-i-preserved : goal.loop-i-preserved
loop-i-preserved c =
    let order = c.args.order.now in
    let i = c.loop-i.i - 1 in
    let l = c.index-order-i.result in
    let inside : i < length order = omega arith in
    let next : c.loop-i.i ≡ i + 1 = omega arith in
    let literal = item_literal c.args.n order i l c.requires.order inside c.index-order-i.is in
    record {
      size = length-set c.loop-i.places (rank_of l) (i + 1) ∙ c.loop-i.invariant.size;
      told = places_more c.args.n order i c.loop-i.i l c.loop-i.places next inside c.index-order-i.is literal c.loop-i.invariant.size c.loop-i.invariant.told;
    }

pub returns : goal.returns
returns c =
    let order = c.args.order.now in
    let none : c.loop-i.i ≡ 0 = omega (arith, c.loop-i-test.false) in
    record {
      size = c.loop-i.invariant.size;
      told = λ k literal. c.loop-i.invariant.told k literal ∙ ap (λ (m : ℕ). m + place_in (drop m order) k) none ∙ (let sum : 0 + place_in order k ≡ place_in order k = omega arith in sum);
    }
