use Rattle.std.proofs.Common.{◌∙◌, ◌++◌, sym, subst}
use Rattle.line_pieces.specs.Fed.{HasBeenFed}
use Rattle.line_pieces.proofs.PieceLines.{limit_taken}
use Rattle.line_pieces.proofs.piece_reader.PieceReader.feed.Goals as goal

pub returns-in_default-clause-limit : goal.returns-in_default-clause-limit
returns-in_default-clause-limit g c = λ first fed h.
    let completes = g.R.LineReader.completes in
    let call = c.take_piece-taken in
    limit_taken completes first g.R.LineReader.fits g.R.LineReader.count (fed ++ c.args.piece.now) call.new.progress call.result
    (call.ensures.taken first fed (subst (λ held. HasBeenFed completes first fed held) (sym c.self.view_is ∙ c.in-Going.is) h)) call.ensures.sound
