use Rattle.std.proofs.Common.{◌≡◌}
use Rattle.unit_refutations.proofs.agenda.Agenda.note_all.Given as goal

abbrev pub invariant-loop-position : goal.invariant-loop-position
invariant-loop-position l = l.self.inside ≡ l.initial.self.inside
