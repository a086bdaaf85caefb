use Rattle.std.proofs.Common.{◌∙◌, ℕ, [], refl, subst, take, arith, length-take}
use Rattle.std.proofs.KnownBytes.{Consumes-trans}
use Rattle.model_text.specs.Fed.{HasBeenFed}
use Rattle.command_inputs.proofs.Streams.{Tells-then, nothing_taken}
use Rattle.command_inputs.proofs.ModelReads.{fewer, model_at_end, stops_at_end, stops_in_midst}
use Rattle.command_inputs.proofs.input.read_started_model.Goals as goal

pub returns-in-Err-clause-stop : goal.returns-in-Err-clause-stop
returns-in-Err-clause-stop g c =
    let unread = g.H.Shelf.unread in
    let was = c.pieces.invariant in
    let fed = Consumes-trans (unread c.args.shelf.now) (unread c.pieces.shelf) (unread c.read_piece.new.shelf) was.fed _ was.taken.consumed c.in_ok-count.ensures.bytes.0 in
    rw c.of_model.ensures (stops_in_midst c.args.formula.now (unread c.args.shelf.now) (unread c.read_piece.new.shelf) _ (g.H.Shelf.ailing c.read_piece.new.shelf) c.in-Err.stop fed
    (c.in-Err.ensures.stop c.args.formula.now.vars was.fed was.been))

pub returns-in_err-count-clause-told : goal.returns-in_err-count-clause-told
returns-in_err-count-clause-told g c = Tells-then _ _ _ c.pieces.invariant.taken.tells c.in_err-count.ensures.told

pub returns-in-Err-clause-told : goal.returns-in-Err-clause-told
returns-in-Err-clause-told g c = Tells-then _ _ _ c.pieces.invariant.taken.tells c.in_ok-count.ensures.told

pub pieces-preserved : goal.pieces-preserved
pieces-preserved g c =
    let unread = g.H.Shelf.unread in
    let was = c.pieces.invariant.taken in
    let read = c.in_ok-count.ensures in
    record {
      fed = _;
      been = c.in_default.ensures.fed c.args.formula.now.vars c.pieces.invariant.fed c.pieces.invariant.been;
      taken = record {
        tells = Tells-then _ _ _ was.tells read.told;
        consumed = Consumes-trans (unread c.args.shelf.now) (unread c.pieces.shelf) (unread c.read_piece.new.shelf) c.pieces.invariant.fed _ was.consumed read.bytes.0;
        open_text = read.started;
        same = read.current ∙ was.same;
        later = (let a = was.later in let b = read.cause in omega (arith, a, b.later));
      };
    }

pub pieces-smaller : goal.pieces-smaller
pieces-smaller g c =
    let bound = c.in_ok-count.ensures.bound in
    let some = c.if-count-eq0.false in
    let was = c.pieces.invariant in
    let n = c.args.formula.now.vars in
    fewer n was.fed (take c.in_ok-count.count c.read_piece.new.piece) c.pieces.reader c.feed.new.self was.been
    (c.in_default.ensures.fed n was.fed was.been) (c.in_default.ensures.limit n was.fed was.been)
    (omega (arith, length-take c.in_ok-count.count c.read_piece.new.piece, bound, some))

pub pieces-init : goal.pieces-init
pieces-init g c = record {
  fed = [];
  been = subst (λ (n : ℕ). HasBeenFed n [] c.in_ok-reader.reader) c.vars.ensures.value c.in_ok-reader.ensures;
  taken = record {
    tells = λ name. refl;
    consumed = nothing_taken (g.H.Shelf.unread c.args.shelf.now);
    open_text = c.requires.started;
    same = refl;
    later = omega arith;
  };
}

pub returns-in-Ok-clause-model : goal.returns-in-Ok-clause-model
returns-in-Ok-clause-model g c =
    let was = c.pieces.invariant in
    model_at_end (g.H.Shelf.unread c.args.shelf.now) (g.H.Shelf.unread c.pieces.shelf) was.fed c.args.formula.now c.in-Ok.model was.taken.consumed
    (c.in_ok-count.ensures.bytes.1 c.if-count-eq0.true) (c.in-Ok.ensures.model c.args.formula.now.vars was.fed was.been)

pub returns-in-Err-finish-clause-stop : goal.returns-in-Err-finish-clause-stop
returns-in-Err-finish-clause-stop g c =
    let was = c.pieces.invariant in
    rw c.of_model-in-Err-finish.ensures (stops_at_end c.args.formula.now (g.H.Shelf.unread c.args.shelf.now) (g.H.Shelf.unread c.pieces.shelf) was.fed (g.H.Shelf.ailing c.read_piece.new.shelf) c.in-Err-finish.stop was.taken.consumed
    (c.in_ok-count.ensures.bytes.1 c.if-count-eq0.true) (c.in-Err-finish.ensures.stop c.args.formula.now.vars was.fed was.been))
