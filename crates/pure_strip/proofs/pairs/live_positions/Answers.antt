use Rattle.std.proofs.Common.{◌≡◌, ◌∙◌, ◌+◌, ◌-◌, ℕ, ap, arith, get_or, false}
use Rattle.pure_strip.specs.Live.{is_live}
use Rattle.pure_strip.proofs.ListLemmas.{kept-more, kept-same}
use Rattle.pure_strip.proofs.pairs.live_positions.Goals as goal
use Rattle.pure_strip.proofs.pairs.live_positions.Goals.{then-up+in_ok-push, else-up}

pub loop-i-preserved : goal.loop-i-preserved
loop-i-preserved c =
    let live = c.args.live.now in
    let i = c.loop-i.i in
    let at : (i + 1) - 1 ≡ i = omega arith in
    let flag = ap (λ (k : ℕ). get_or live k false) at in
    elim c.if-up.branch [
      | then-up+in_ok-push w ↦ w.kept-is ∙ w.in_ok-push.ensures.ok ∙ kept-more (is_live live) i c.loop-i.kept c.loop-i.invariant (flag ∙ w.if-up.true)
      | else-up w ↦ w.kept-is ∙ kept-same (is_live live) i c.loop-i.kept c.loop-i.invariant (flag ∙ w.if-up.false)
    ]
