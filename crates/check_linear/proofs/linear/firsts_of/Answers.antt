use Rattle.std.proofs.Common.{◌≡◌, ◌∙◌, ◌+◌, ◌-◌, ◌<◌, ℕ, ℤ, List, pos, length, get_or, drop, ap, sym, subst, arith}
use Rattle.std.specs.Prelude.{replicate}
use Rattle.std.proofs.lemmas.List.{get_or-replicate, length-replicate}
use Rattle.lk_model.specs.Limits.{is_in_range}
use Rattle.lk_model.specs.declared.document.Stage.{Stage}
use Rattle.lk_model.specs.declared.document.Weight.{Weight}
use Rattle.check_linear.specs.Linear.{AreFirsts, NotesStage}
use Rattle.check_linear.proofs.StageChecks.{firsts_none, firsts_more}
use Rattle.check_linear.proofs.linear.firsts_of.Goals as goal

pub loop-k-init : goal.loop-k-init
loop-k-init c =
    let n = c.args.n in
    let stages = c.args.stages.now in
    let places = c.in_ok-vec.field-0.items in
    let weights = c.in_ok-vec-2.field-0.items in
    let late : places ≡ replicate n (length stages) = c.in_ok-vec.ensures.items_if_clones_equal (λ y e. e) in
    let zero : weights ≡ replicate n (pos 0) = c.in_ok-vec-2.ensures.items_if_clones_equal (λ y e. e) in
    record {
      firsts = firsts_none n (length stages) stages places weights (ap length late ∙ length-replicate n (length stages)) (ap length zero ∙ length-replicate n (pos 0))
          (λ v low high. ap (λ (t : List ℕ). get_or t (v - 1) 0) late ∙ get_or-replicate n (v - 1) (length stages) 0 (omega (arith, low, high)))
          (λ v low high. ap (λ (t : List ℤ). get_or t (v - 1) (pos 0)) zero ∙ get_or-replicate n (v - 1) (pos 0) (pos 0) (omega (arith, low, high))) (omega arith);
      range = λ k d inside. ap is_in_range (ap (λ (t : List ℤ). get_or t k d) zero ∙ get_or-replicate n k (pos 0) d (omega (arith, inside, ap length zero, length-replicate n (pos 0))));
    }

pub loop-k-preserved : goal.loop-k-preserved
loop-k-preserved c =
    let n = c.args.n in
    let stages = c.args.stages.now in
    let k = c.loop-k.k - 1 in
    let s = c.index-stages-k.result in
    let before = c.loop-k.firsts in
    let after = c.note.new.self in
    let inside : k < length stages = omega arith in
    let next : c.loop-k.k ≡ k + 1 = omega arith in
    let is = c.as_slice.ensures ∙ ap (λ (st : Stage). st.weights) (sym c.index-stages-k.is) in
    let noted = subst (λ (ws : List Weight). NotesStage n k ws before.places.items before.weights.items after.places.items after.weights.items) is c.note.ensures.noted in
    record {
      firsts = firsts_more n k c.loop-k.k stages s before.places.items before.weights.items after.places.items after.weights.items next inside c.index-stages-k.is noted c.loop-k.invariant.firsts;
      range = c.note.ensures.range;
    }

pub returns : goal.returns
returns c =
    let firsts = c.loop-k.firsts in
    let none : c.loop-k.k ≡ 0 = omega (arith, c.loop-k-test.false) in
    record {
      firsts = subst (λ (k : ℕ). AreFirsts c.args.n k (drop k c.args.stages.now) firsts.places.items firsts.weights.items) none c.loop-k.invariant.firsts;
      range = c.loop-k.invariant.range;
    }
