use Rattle.std.proofs.Common.{map, refl}
use Rattle.workbench.specs.Endings.{shelved, sunk}
use Rattle.workbench.proofs.EndingLaws.{memory_runs, memory_cut, memory_quiet, written_runs, ends_quietly}
use Rattle.workbench.proofs.program.run.Goals as goal

pub returns-in-Err-clause-runs : goal.returns-in-Err-clause-runs
returns-in-Err-clause-runs g c =
    let shelf = g.H.Shelf in
    let out = g.O.Sink in
    let say = g.E.Sink in
    let done = c.write_ending-in-Err.ensures in
    memory_runs (map (λ w. w.now) c.args.words.now)
    (shelved (shelf.told c.args.shelf.now) (shelf.faults c.args.shelf.now) (shelf.faults c.ending.new.shelf) (shelf.ailing c.ending.new.shelf) (shelf.current c.ending.new.shelf))
    (sunk (out.written c.args.out.now) (out.written c.write_ending-in-Err.new.out) (out.faults c.args.out.now) (out.faults c.write_ending-in-Err.new.out))
    (sunk (say.written c.args.say.now) (say.written c.write_ending-in-Err.new.say) (say.faults c.args.say.now) (say.faults c.write_ending-in-Err.new.say))
    c.write_ending-in-Err.result done.ended done.cut

pub returns-in-Err-clause-cut : goal.returns-in-Err-clause-cut
returns-in-Err-clause-cut g c four =
    let shelf = g.H.Shelf in
    let out = g.O.Sink in
    let say = g.E.Sink in
    memory_cut (map (λ w. w.now) c.args.words.now)
    (shelved (shelf.told c.args.shelf.now) (shelf.faults c.args.shelf.now) (shelf.faults c.ending.new.shelf) (shelf.ailing c.ending.new.shelf) (shelf.current c.ending.new.shelf))
    (sunk (out.written c.args.out.now) (out.written c.write_ending-in-Err.new.out) (out.faults c.args.out.now) (out.faults c.write_ending-in-Err.new.out))
    (sunk (say.written c.args.say.now) (say.written c.write_ending-in-Err.new.say) (say.faults c.args.say.now) (say.faults c.write_ending-in-Err.new.say))
    (c.write_ending-in-Err.ensures.cut four) (c.write_ending-in-Err.ensures.out_unused refl)

pub returns-in-Ok-clause-runs : goal.returns-in-Ok-clause-runs
returns-in-Ok-clause-runs g c =
    let shelf = g.H.Shelf in
    let out = g.O.Sink in
    let say = g.E.Sink in
    let done = c.write_ending.ensures in
    written_runs (map (λ w. w.now) c.args.words.now)
    (shelved (shelf.told c.args.shelf.now) (shelf.faults c.args.shelf.now) (shelf.faults c.ending.new.shelf) (shelf.ailing c.ending.new.shelf) (shelf.current c.ending.new.shelf))
    (sunk (out.written c.args.out.now) (out.written c.write_ending.new.out) (out.faults c.args.out.now) (out.faults c.write_ending.new.out))
    (sunk (say.written c.args.say.now) (say.written c.write_ending.new.say) (say.faults c.args.say.now) (say.faults c.write_ending.new.say))
    c.in-Ok.ending.status c.in-Ok.ending.written.items c.in-Ok.ending.said.items c.as_slice.result.now c.as_slice-in-Ok.result.now c.write_ending.result c.in-Ok.ensures.allowed c.in-Ok.ensures.well
    c.as_slice.ensures.value c.as_slice-in-Ok.ensures.value done.ended done.cut c.in-Ok.ensures.decided

pub returns-in-Err-clause-quiet : goal.returns-in-Err-clause-quiet
returns-in-Err-clause-quiet g c four =
    let shelf = g.H.Shelf in
    let out = g.O.Sink in
    let say = g.E.Sink in
    let e = c.write_ending-in-Err.ensures.ended four in
    memory_quiet (map (λ w. w.now) c.args.words.now)
    (shelved (shelf.told c.args.shelf.now) (shelf.faults c.args.shelf.now) (shelf.faults c.ending.new.shelf) (shelf.ailing c.ending.new.shelf) (shelf.current c.ending.new.shelf))
    (sunk (out.written c.args.out.now) (out.written c.write_ending-in-Err.new.out) (out.faults c.args.out.now) (out.faults c.write_ending-in-Err.new.out))
    (sunk (say.written c.args.say.now) (say.written c.write_ending-in-Err.new.say) (say.faults c.args.say.now) (say.faults c.write_ending-in-Err.new.say))
    c.write_ending-in-Err.result e.0 e.1 (c.write_ending-in-Err.ensures.out_unused refl) c.write_ending-in-Err.ensures.say_unused

pub returns-in-Ok-clause-quiet : goal.returns-in-Ok-clause-quiet
returns-in-Ok-clause-quiet g c four =
    let shelf = g.H.Shelf in
    let out = g.O.Sink in
    let say = g.E.Sink in
    let done = c.write_ending.ensures in
    ends_quietly (map (λ w. w.now) c.args.words.now)
    (shelved (shelf.told c.args.shelf.now) (shelf.faults c.args.shelf.now) (shelf.faults c.ending.new.shelf) (shelf.ailing c.ending.new.shelf) (shelf.current c.ending.new.shelf))
    (sunk (out.written c.args.out.now) (out.written c.write_ending.new.out) (out.faults c.args.out.now) (out.faults c.write_ending.new.out))
    (sunk (say.written c.args.say.now) (say.written c.write_ending.new.say) (say.faults c.args.say.now) (say.faults c.write_ending.new.say))
    c.in-Ok.ending.status c.in-Ok.ending.written.items c.in-Ok.ending.said.items c.as_slice.result.now c.as_slice-in-Ok.result.now c.write_ending.result c.in-Ok.ensures.allowed c.in-Ok.ensures.well
    c.as_slice.ensures.value c.as_slice-in-Ok.ensures.value (done.ended four) done.out_unused done.say_unused
