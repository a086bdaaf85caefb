use Rattle.std.proofs.Common.{Bool, List, length, ap, arith}
use Rattle.lk_model.proofs.Rising.{rising_bounds}
use Rattle.unit_refutations.proofs.agenda.Agenda.note_all.Goals as goal

pub note-requires-clause-first : goal.note-requires-clause-first
note-requires-clause-first c = (rising_bounds 0 _ _ c.loop-position.position-index c.requires c.loop-position-test.true).0

pub note-requires-clause-last : goal.note-requires-clause-last
note-requires-clause-last c =
    let most = (rising_bounds 0 _ _ c.loop-position.position-index c.requires c.loop-position-test.true).1 in
    let same = ap (λ (x : List Bool). length x) c.loop-position.invariant in
    omega (arith, most, same)
