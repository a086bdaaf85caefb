use Rattle.std.proofs.Common.{◌^◌, ◌≡◌, suc, true, subst, sym, arith}
use Rattle.std.proofs.lemmas.Grind.{common_steps}
use Rattle.std.proofs.lemmas.Bool.{leb-true}
use Rattle.lk_model.specs.declared.document.Turn.{Turn}
use Rattle.lk_model.proofs.ListTests.{all_at}
use Rattle.refutation_log.specs.ShortTurns.{is_short}
use Rattle.refutation_log.proofs.turns.shortened.Goals as goal

pub of-requires : goal.of-requires
of-requires c =
    leb-true (suc c.turn-item.result.with) (2 ^ 32)
    (subst (λ (t : Turn). is_short t ≡ true) (sym c.turn-item.is) (all_at is_short c.args.turns.now c.loop-turn.turn-index c.turn-item.result c.requires (omega arith)))

pub loop-turn-preserved : goal.loop-turn-preserved
loop-turn-preserved c = grind (arith, common_steps)

pub returns : goal.returns
returns c = grind (arith, common_steps)
