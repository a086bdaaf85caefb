use Rattle.std.proofs.Common.{◌≡◌, ◌∙◌, ℕ, ◌+◌, ◌<◌, Bool, true, false, not, ◌||◌, List, ℤ, pos, length, get_or, take, ap, sym, subst, arith, inl, inr}
use Rattle.std.specs.List.{list_all}
use Rattle.std.proofs.lemmas.Bool.{cases_lt}
use Rattle.std.proofs.lemmas.List.{get_or_default}
use Rattle.lk_model.specs.Formulas.Literal.{is_literal}
use Rattle.check_tables.specs.LiteralSets.{has_literal, IsSetOf}
use Rattle.check_tables.proofs.LiteralSetLemmas.{item_literal, rank_within, set_next}
use Rattle.check_pure_matching.specs.Order.{is_unsound}
use Rattle.check_pure_matching.proofs.order.sound_front.Goals as goal

-- what the flags tell of the literal at a place
told : (n i : ℕ) (literals order : List ℤ) (set earlier : List Bool) (l : ℤ) (bad v : Bool) → list_all (is_literal n) order ≡ true → i < length order → l ≡ get_or order i l
    → IsSetOf n literals set → IsSetOf n (take i order) earlier → bad ≡ (has_literal earlier l || not (has_literal set l)) → bad ≡ v → is_unsound literals (take i order) (get_or order i (pos 0)) ≡ v
told n i literals order set earlier l bad v all inside is s e test answer =
    let lit = item_literal n order i l all inside is in
    let at : l ≡ get_or order i (pos 0) = is ∙ get_or_default order i l (pos 0) inside in
    ap (is_unsound literals (take i order)) (sym at) ∙ sym (λ j. e.told l lit j || not (s.told l lit j)) ∙ sym test ∙ answer

pub is_unsound-requires-clause-set : goal.is_unsound-requires-clause-set
is_unsound-requires-clause-set c =
    rank_within c.args.n c.index-order-i.result c.args.set.now c.requires.set (item_literal c.args.n c.args.order.now c.loop-i.i c.index-order-i.result c.requires.order c.loop-i-test.true c.index-order-i.is)

pub is_unsound-requires-clause-earlier : goal.is_unsound-requires-clause-earlier
is_unsound-requires-clause-earlier c =
    rank_within c.args.n c.index-order-i.result c.loop-i.earlier c.loop-i.invariant.earlier.size
    (item_literal c.args.n c.args.order.now c.loop-i.i c.index-order-i.result c.requires.order c.loop-i-test.true c.index-order-i.is)

pub add-requires : goal.add-requires
add-requires c =
    rank_within c.args.n c.index-order-i.result c.loop-i.earlier c.loop-i.invariant.earlier.size
    (item_literal c.args.n c.args.order.now c.loop-i.i c.index-order-i.result c.requires.order c.loop-i-test.true c.index-order-i.is)

pub loop-i-preserved : goal.loop-i-preserved
loop-i-preserved c =
    let n = c.args.n in
    let order = c.args.order.now in
    let i = c.loop-i.i in
    let l = c.index-order-i.result in
    let inside = c.loop-i-test.true in
    let before = c.loop-i.invariant.earlier in
    record {
      earlier = subst (λ (flags : List Bool). IsSetOf n (take (i + 1) order) flags) (sym c.add.ensures) (set_next n order i l c.loop-i.earlier c.requires.order inside c.index-order-i.is before);
      sound = λ literals s k less. elim (cases_lt k i) [
        | inl early ↦ c.loop-i.invariant.sound literals s k early
        | inr late ↦
            let same : i ≡ k = omega (arith, less, late) in
            subst (λ (j : ℕ). is_unsound literals (take j order) (get_or order j (pos 0)) ≡ false) same
            (told n i literals order c.args.set.now c.loop-i.earlier l c.is_unsound.result false c.requires.order inside c.index-order-i.is s before c.is_unsound.ensures c.if-is_unsound.false)
      ];
    }

pub returns-then-is_unsound : goal.returns-then-is_unsound
returns-then-is_unsound c = λ literals s. record {
  within = omega (arith, c.loop-i-test.true);
  sound = c.loop-i.invariant.sound literals s;
  stops = λ inside. told c.args.n c.loop-i.i literals c.args.order.now c.args.set.now c.loop-i.earlier c.index-order-i.result c.is_unsound.result true c.requires.order inside c.index-order-i.is s c.loop-i.invariant.earlier
      c.is_unsound.ensures c.if-is_unsound.true;
}
