use Rattle.std.proofs.Common.{◌∙◌, ◌<◌, sym, arith}
use Rattle.std.specs.Prelude.{filter}
use Rattle.lk_model.specs.Formulas.Formula.{positions_of}
use Rattle.pure_strip.specs.Live.{is_live}
use Rattle.pure_strip.proofs.PairLemmas.{listed-variable, listed-complement, pairs-add, pairs-without_variable, pairs-without_complement}
use Rattle.pure_strip.proofs.pairs.pairs_of.Goals as goal
use Rattle.pure_strip.proofs.pairs.pairs_of.Goals.{in-Some-first_live+in-Some-first_live-2+in_ok-push, in-Some-first_live+in_default-first_live-2, in_default-first_live}

pub first_live-requires : goal.first_live-requires
first_live-requires c =
    let lt : c.loop-i.i < c.args.f.now.vars = omega (arith, c.vars-i-end.ensures.value) in
    (listed-variable c.args.f.now c.args.holders.now c.args.live.now c.loop-i.i _ _ c.requires.holders c.requires.size c.vars-i-end.ensures.limits lt c.in-Some.ensures.value
    c.positions.ensures).within

pub first_live-requires-in-Some-first_live : goal.first_live-requires-in-Some-first_live
first_live-requires-in-Some-first_live c =
    let lt : c.loop-i.i < c.args.f.now.vars = omega (arith, c.vars-i-end.ensures.value) in
    (listed-complement c.args.f.now c.args.holders.now c.args.live.now c.loop-i.i _ _ _ c.requires.holders c.requires.size c.vars-i-end.ensures.limits lt c.in-Some.ensures.value
    c.negated.ensures c.positions-in-Some-first_live.ensures).within

pub loop-i-preserved : goal.loop-i-preserved
loop-i-preserved c =
    let F = c.args.f.now in
    let table = c.args.holders.now in
    let live = c.args.live.now in
    let kept = filter (is_live live) (positions_of F) in
    let i = c.loop-i.i in
    let lt : i < F.vars = omega (arith, c.vars-i-end.ensures.value) in
    let variable = listed-variable F table live i _ _ c.requires.holders c.requires.size c.vars-i-end.ensures.limits lt c.in-Some.ensures.value
    c.positions.ensures in
    elim c.match-first_live.branch [
      | in-Some-first_live+in-Some-first_live-2+in_ok-push w ↦
          let complement = listed-complement F table live i _ _ _ c.requires.holders c.requires.size c.vars-i-end.ensures.limits lt c.in-Some.ensures.value
          w.negated.ensures w.positions-in-Some-first_live.ensures in
          w.pairs-is ∙ w.in_ok-push.ensures.ok
          ∙ pairs-add F kept i _ _ c.loop-i.pairs c.requires.lean lt c.loop-i.invariant (sym variable.first ∙ sym w.in-Some-first_live.ensures) (sym complement.first ∙ sym w.in-Some-first_live-2.ensures)
      | in-Some-first_live+in_default-first_live-2 w ↦
          let complement = listed-complement F table live i _ _ _ c.requires.holders c.requires.size c.vars-i-end.ensures.limits lt c.in-Some.ensures.value
          w.negated.ensures w.positions-in-Some-first_live.ensures in
          w.pairs-is ∙ c.loop-i.invariant ∙ pairs-without_complement F kept i c.requires.lean lt (sym complement.first ∙ sym w.in_default-first_live-2.ensures)
      | in_default-first_live w ↦
          w.pairs-is ∙ c.loop-i.invariant ∙ pairs-without_variable F kept i c.requires.lean lt (sym variable.first ∙ sym w.in_default-first_live.ensures)
    ]
