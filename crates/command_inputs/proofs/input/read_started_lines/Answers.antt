use Rattle.std.proofs.Common.{◌∙◌, [], refl, take, arith, length-take}
use Rattle.std.proofs.KnownBytes.{Consumes-trans}
use Rattle.line_text.specs.LineReading.{IsAdmitted}
use Rattle.command_inputs.proofs.Streams.{Tells-then, nothing_taken}
use Rattle.command_inputs.proofs.LineStreams.{fewer, read_at_end, stops_in_midst}
use Rattle.command_inputs.proofs.input.read_started_lines.Goals as goal

pub returns-in-Err-clause-read : goal.returns-in-Err-clause-read
returns-in-Err-clause-read g c =
    let unread = g.H.Shelf.unread in
    let was = c.pieces.invariant in
    let fed = Consumes-trans (unread c.args.shelf.now) (unread c.pieces.shelf) (unread c.read_piece.new.shelf) was.fed _ was.taken.consumed c.in_ok-count.ensures.bytes.0 in
    stops_in_midst (IsAdmitted (g.R.LineReader.completes c.args.reader)) (unread c.args.shelf.now) (unread c.read_piece.new.shelf) _ c.in-Err.stop fed (c.in-Err.ensures.stop c.args.reader was.fed was.been)

pub returns-in_err-count-clause-told : goal.returns-in_err-count-clause-told
returns-in_err-count-clause-told g c = Tells-then _ _ _ c.pieces.invariant.taken.tells c.in_err-count.ensures.told

pub returns-in-Err-clause-told : goal.returns-in-Err-clause-told
returns-in-Err-clause-told g c = Tells-then _ _ _ c.pieces.invariant.taken.tells c.in_ok-count.ensures.told

pub returns-clause-told : goal.returns-clause-told
returns-clause-told g c = Tells-then _ _ _ c.pieces.invariant.taken.tells c.in_ok-count.ensures.told

pub pieces-preserved : goal.pieces-preserved
pieces-preserved g c =
    let unread = g.H.Shelf.unread in
    let was = c.pieces.invariant.taken in
    let read = c.in_ok-count.ensures in
    record {
      fed = _;
      been = c.in_default.ensures.fed c.args.reader c.pieces.invariant.fed c.pieces.invariant.been;
      taken = record {
        tells = Tells-then _ _ _ was.tells read.told;
        consumed = Consumes-trans (unread c.args.shelf.now) (unread c.pieces.shelf) (unread c.read_piece.new.shelf) c.pieces.invariant.fed _ was.consumed read.bytes.0;
        open_text = read.started;
        same = read.current ∙ was.same;
        later = (let a = was.later in let b = read.cause in omega (arith, a, b.later));
      };
    }

pub pieces-smaller : goal.pieces-smaller
pieces-smaller g c =
    let bound = c.in_ok-count.ensures.bound in
    let some = c.if-count-eq0.false in
    let was = c.pieces.invariant in
    fewer g.R.LineReader.completes c.args.reader was.fed (take c.in_ok-count.count c.read_piece.new.piece) c.pieces.pieces c.feed.new.self was.been
    (c.in_default.ensures.fed c.args.reader was.fed was.been) (c.in_default.ensures.limit c.args.reader was.fed was.been)
    (omega (arith, length-take c.in_ok-count.count c.read_piece.new.piece, bound, some))

pub returns-clause-read : goal.returns-clause-read
returns-clause-read g c =
    let was = c.pieces.invariant in
    read_at_end (g.R.LineReader.completes c.args.reader) (g.H.Shelf.unread c.args.shelf.now) (g.H.Shelf.unread c.pieces.shelf) was.fed c.finish.result was.taken.consumed
    (c.in_ok-count.ensures.bytes.1 c.if-count-eq0.true) (c.finish.ensures.value c.args.reader was.fed was.been) (c.finish.ensures.stop c.args.reader was.fed was.been)

pub pieces-init : goal.pieces-init
pieces-init g c = record {
  fed = [];
  been = c.new-pieces.ensures;
  taken = record {
    tells = λ name. refl;
    consumed = nothing_taken (g.H.Shelf.unread c.args.shelf.now);
    open_text = c.requires.started;
    same = refl;
    later = omega arith;
  };
}
