use Rattle.std.proofs.lemmas.Grind.{common_steps}
use Rattle.std.proofs.Common.{refl, sym, arith}
use Rattle.std.proofs.lemmas.Result.{err_from_is_err_and}
use Rattle.dimacs_reader.proofs.Refusals.{settled_stop}
use Rattle.dimacs_reader.proofs.reading.take.Goals as goal

pub returns-in_err-fault_of_step-clause-fault : goal.returns-in_err-fault_of_step-clause-fault
returns-in_err-fault_of_step-clause-fault c fed h =
    let p = err_from_is_err_and c.from_residual.result c.from_residual.ensures.1 in
    rw (p.1, p.2)
    (settled_stop fed c.args.byte c.args.reading.now.bytes c.args.reading.now.line c.step-taken.result c.step-taken.new.stage c.in_err-fault_of_step.field-0.0 (sym h.size) c.requires.few h.line
    c.in_err-fault_of_step.ensures.fault (c.step-taken.ensures.ok fed (sym h.size) h.stands) (c.step-taken.ensures.fault fed (sym h.size) h.stands))

pub step-taken-requires-clause-room : goal.step-taken-requires-clause-room
step-taken-requires-clause-room c = omega (arith, c.requires.few)

pub step-taken-requires-clause-sound : goal.step-taken-requires-clause-sound
step-taken-requires-clause-sound c = c.requires.stage

pub overflow_add-reading : goal.overflow_add-reading
overflow_add-reading c = record { fits = omega (arith, c.requires.few) }

pub returns-in_err-fault_of_step-clause-line : goal.returns-in_err-fault_of_step-clause-line
returns-in_err-fault_of_step-clause-line c = let p = err_from_is_err_and c.from_residual.result c.from_residual.ensures.1 in rw p.1 refl

pub fault_of_step-requires : goal.fault_of_step-requires
fault_of_step-requires c = grind (arith, common_steps)

pub returns-in_err-fault_of_step-clause-sound : goal.returns-in_err-fault_of_step-clause-sound
returns-in_err-fault_of_step-clause-sound c = grind (arith, common_steps)

pub returns-in_err-fault_of_step-clause-ok : goal.returns-in_err-fault_of_step-clause-ok
returns-in_err-fault_of_step-clause-ok c = grind (arith, common_steps)

pub overflow_add-reading-then-byte-eq10 : goal.overflow_add-reading-then-byte-eq10
overflow_add-reading-then-byte-eq10 c = grind (arith, common_steps)

pub returns-then-byte-eq10-clause-sound : goal.returns-then-byte-eq10-clause-sound
returns-then-byte-eq10-clause-sound c = grind (arith, common_steps)

pub returns-then-byte-eq10-clause-ok : goal.returns-then-byte-eq10-clause-ok
returns-then-byte-eq10-clause-ok c = grind (arith, common_steps)

pub returns-then-byte-eq10-clause-fault : goal.returns-then-byte-eq10-clause-fault
returns-then-byte-eq10-clause-fault c = grind (arith, common_steps)

pub returns-then-byte-eq10-clause-line : goal.returns-then-byte-eq10-clause-line
returns-then-byte-eq10-clause-line c = grind (arith, common_steps)

pub returns-else-byte-eq10-clause-sound : goal.returns-else-byte-eq10-clause-sound
returns-else-byte-eq10-clause-sound c = grind (arith, common_steps)

pub returns-else-byte-eq10-clause-ok : goal.returns-else-byte-eq10-clause-ok
returns-else-byte-eq10-clause-ok c = grind (arith, common_steps)

pub returns-else-byte-eq10-clause-fault : goal.returns-else-byte-eq10-clause-fault
returns-else-byte-eq10-clause-fault c = grind (arith, common_steps)

pub returns-else-byte-eq10-clause-line : goal.returns-else-byte-eq10-clause-line
returns-else-byte-eq10-clause-line c = grind (arith, common_steps)
