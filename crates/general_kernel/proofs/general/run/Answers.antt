use Rattle.general_kernel.proofs.UnitRounds.{same_blocked}
use Rattle.general_kernel.proofs.general.run.Goals as goal

pub round_after_round-requires-clause-kept : goal.round_after_round-requires-clause-kept
round_after_round-requires-clause-kept c = same_blocked c.args.f.now c.in_ok-units.units _ _ c.requires.begun.blocked c.in_ok-units.ensures.kept
