use Rattle.std.proofs.Common.{◌<◌, ◌∙◌, ◌++◌, [], List, ℤ, length, sym, subst, arith}
use Rattle.lk_model.proofs.Ranks.{rank_small}
use Rattle.lk_model.specs.Formulas.PureRun.{untouched, RunsOn}
use Rattle.pure_laws.proofs.PureLiterals.{least_literal}
use Rattle.pure_strip.specs.Live.{AreUntouched}
use Rattle.pure_strip.proofs.PairLemmas.{listed}
use Rattle.pure_strip.proofs.Runs.{least_is, listed_within, Untouched-more, fewer_untouched, runs_more, runs_end}
use Rattle.pure_strip.proofs.run.order_by.Goals as goal

pub positions-requires : goal.positions-requires
positions-requires c =
    let e = sym (least_is _ _ _ _ c.loop-l.invariant.counted c.loop-l.invariant.untouched) ∙ sym c.least_lone.ensures.value ∙ c.in-Some.is in
    omega (arith, c.requires.holders.size, rank_small c.args.f.now.vars c.in-Some.l (least_literal c.args.f.now (untouched c.args.f.now c.loop-l.order) c.in-Some.l e))

pub touch_all-requires-clause-within : goal.touch_all-requires-clause-within
touch_all-requires-clause-within c =
    let e = sym (least_is _ _ _ _ c.loop-l.invariant.counted c.loop-l.invariant.untouched) ∙ sym c.least_lone.ensures.value ∙ c.in-Some.is in
    listed_within c.args.f.now c.in-Some.l _ (listed c.args.f.now c.args.holders.now c.in-Some.l _ c.requires.holders (least_literal c.args.f.now (untouched c.args.f.now c.loop-l.order) c.in-Some.l e) c.positions.ensures)

pub loop-l-smaller : goal.loop-l-smaller
loop-l-smaller c =
    let e = sym (least_is _ _ _ _ c.loop-l.invariant.counted c.loop-l.invariant.untouched) ∙ sym c.least_lone.ensures.value ∙ c.in-Some.is in
    subst (λ (ls : List ℤ). length (untouched c.args.f.now ls) < length (untouched c.args.f.now c.loop-l.order)) (sym c.in_ok-push.ensures.ok) (fewer_untouched c.args.f.now c.loop-l.order c.in-Some.l e)

pub loop-l-preserved : goal.loop-l-preserved
loop-l-preserved c =
    let e = sym (least_is _ _ _ _ c.loop-l.invariant.counted c.loop-l.invariant.untouched) ∙ sym c.least_lone.ensures.value ∙ c.in-Some.is in
    let list = listed c.args.f.now c.args.holders.now c.in-Some.l _ c.requires.holders (least_literal c.args.f.now (untouched c.args.f.now c.loop-l.order) c.in-Some.l e) c.positions.ensures in
    record {
      counted = c.in_ok-touch_all.ensures.counted;
      untouched = subst (λ (ls : List ℤ). AreUntouched c.args.f.now ls c.touch_all.new.live.items) (sym c.in_ok-push.ensures.ok)
          (Untouched-more c.args.f.now c.loop-l.order _ _ c.in-Some.l _ c.loop-l.invariant.untouched e list c.in_ok-touch_all.ensures.down);
      run = subst (λ (ls : List ℤ). (later : List ℤ) → RunsOn c.args.f.now ls later → RunsOn c.args.f.now [] (ls ++ later)) (sym c.in_ok-push.ensures.ok)
          (runs_more c.args.f.now c.loop-l.order c.in-Some.l e c.loop-l.invariant.run);
    }

pub returns-clause-run : goal.returns-clause-run
returns-clause-run c =
    let e = sym (least_is _ _ _ _ c.loop-l.invariant.counted c.loop-l.invariant.untouched) ∙ sym c.least_lone.ensures.value ∙ c.in_default.is in
    runs_end c.args.f.now c.loop-l.order e c.loop-l.invariant.run
