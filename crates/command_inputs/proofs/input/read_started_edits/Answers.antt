use Rattle.std.proofs.Common.{◌∙◌, [], refl, take, arith, length-take}
use Rattle.std.proofs.lemmas.Result.{err_from_is_err_and}
use Rattle.std.proofs.KnownBytes.{Consumes-trans}
use Rattle.command_inputs.proofs.Streams.{Tells-then, nothing_taken}
use Rattle.command_inputs.proofs.EditReads.{fewer, edits_at_end, stops_at_end, stops_in_midst}
use Rattle.command_inputs.proofs.input.read_started_edits.Goals as goal

pub returns-in_err-finish-clause-stop : goal.returns-in_err-finish-clause-stop
returns-in_err-finish-clause-stop g c =
    let p = err_from_is_err_and c.from_residual-in_err-finish.result c.from_residual-in_err-finish.ensures.1 in
    rw (p.1, p.2) (stops_at_end c.args.formula.now (g.H.Shelf.unread c.args.shelf.now) (g.H.Shelf.unread c.pieces.shelf) c.pieces.invariant.fed (g.H.Shelf.ailing c.read_piece.new.shelf) c.in_err-finish.field-0.0 c.pieces.invariant.taken.consumed
    (c.in_ok-count.ensures.bytes.1 c.if-count-eq0.true) (c.in_err-finish.ensures.cause c.args.formula.now c.pieces.invariant.fed c.pieces.invariant.been))

pub returns-in_err-feed-clause-stop : goal.returns-in_err-feed-clause-stop
returns-in_err-feed-clause-stop g c =
    let unread = g.H.Shelf.unread in
    let p = err_from_is_err_and c.from_residual-in_err-feed.result c.from_residual-in_err-feed.ensures.1 in
    let fed = Consumes-trans (unread c.args.shelf.now) (unread c.pieces.shelf) (unread c.read_piece.new.shelf) c.pieces.invariant.fed _ c.pieces.invariant.taken.consumed c.in_ok-count.ensures.bytes.0 in
    rw (p.1, p.2) (stops_in_midst c.args.formula.now (unread c.args.shelf.now) (unread c.read_piece.new.shelf) _ (g.H.Shelf.ailing c.read_piece.new.shelf) c.in_err-feed.field-0.0 fed (c.in_err-feed.ensures.cause c.args.formula.now c.pieces.invariant.fed c.pieces.invariant.been))

pub returns-in_err-count-clause-told : goal.returns-in_err-count-clause-told
returns-in_err-count-clause-told g c = Tells-then _ _ _ c.pieces.invariant.taken.tells c.in_err-count.ensures.told

pub returns-in_err-feed-clause-told : goal.returns-in_err-feed-clause-told
returns-in_err-feed-clause-told g c = Tells-then _ _ _ c.pieces.invariant.taken.tells c.in_ok-count.ensures.told

pub returns-in_err-finish-clause-told : goal.returns-in_err-finish-clause-told
returns-in_err-finish-clause-told g c = Tells-then _ _ _ c.pieces.invariant.taken.tells c.in_ok-count.ensures.told

pub returns-clause-told : goal.returns-clause-told
returns-clause-told g c = Tells-then _ _ _ c.pieces.invariant.taken.tells c.in_ok-count.ensures.told

pub pieces-preserved : goal.pieces-preserved
pieces-preserved g c =
    let unread = g.H.Shelf.unread in
    let was = c.pieces.invariant.taken in
    let read = c.in_ok-count.ensures in
    record {
      fed = _;
      been = c.in_ok-feed.ensures.ok c.args.formula.now c.pieces.invariant.fed c.pieces.invariant.been;
      taken = record {
        tells = Tells-then _ _ _ was.tells read.told;
        consumed = Consumes-trans (unread c.args.shelf.now) (unread c.pieces.shelf) (unread c.read_piece.new.shelf) c.pieces.invariant.fed _ was.consumed read.bytes.0;
        open_text = read.started;
        same = read.current ∙ was.same;
        later = (let a = was.later in let b = read.cause in omega (arith, a, b.later));
      };
    }

pub pieces-smaller : goal.pieces-smaller
pieces-smaller g c =
    let bound = c.in_ok-count.ensures.bound in
    let some = c.if-count-eq0.false in
    fewer c.args.formula.now c.pieces.invariant.fed (take c.in_ok-count.count c.read_piece.new.piece) c.pieces.reader c.feed.new.self c.pieces.invariant.been (c.in_ok-feed.ensures.ok c.args.formula.now c.pieces.invariant.fed c.pieces.invariant.been)
    (omega (arith, length-take c.in_ok-count.count c.read_piece.new.piece, bound, some))

pub returns-clause-edits : goal.returns-clause-edits
returns-clause-edits g c =
    edits_at_end c.args.formula.now (g.H.Shelf.unread c.args.shelf.now) (g.H.Shelf.unread c.pieces.shelf) c.pieces.invariant.fed _ c.pieces.invariant.taken.consumed
    (c.in_ok-count.ensures.bytes.1 c.if-count-eq0.true) (c.in_ok-finish.ensures.ok c.args.formula.now c.pieces.invariant.fed c.pieces.invariant.been)

pub returns-clause-made : goal.returns-clause-made
returns-clause-made g c = c.in_ok-finish.ensures.made c.args.formula.now c.pieces.invariant.fed c.pieces.invariant.been

pub pieces-init : goal.pieces-init
pieces-init g c = record {
  fed = [];
  been = c.in_ok-reader.ensures;
  taken = record {
    tells = λ name. refl;
    consumed = nothing_taken (g.H.Shelf.unread c.args.shelf.now);
    open_text = c.requires.started;
    same = refl;
    later = omega arith;
  };
}
