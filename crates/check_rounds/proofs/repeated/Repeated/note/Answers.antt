use Rattle.std.proofs.Common.{refl, inl}
use Rattle.check_rounds.proofs.repeated.Repeated.note.Goals as goal

pub returns-then-clause-lt-LONG : goal.returns-then-clause-lt-LONG
returns-then-clause-lt-LONG c = inl (record { number = refl; literals = refl; set = refl }, refl)

pub returns-else-self-number : goal.returns-else-self-number
returns-else-self-number c = inl (record { number = refl; literals = refl; set = refl }, refl)
