use Rattle.std.proofs.Common.{◌++◌, sym, ◌∙◌, subst}
use Rattle.model_text.specs.Fed.{HasBeenFed}
use Rattle.model_text.proofs.Standing.{limit_taken}
use Rattle.model_text.proofs.reader.ModelReader.feed.Goals as goal

pub returns-in_default-clause-limit : goal.returns-in_default-clause-limit
returns-in_default-clause-limit c = λ n fed h.
    let call = c.take_all-taken in
    limit_taken n (fed ++ c.args.piece.now) call.new.progress call.result
    (call.ensures.taken n fed (subst (λ held. HasBeenFed n fed held) (sym c.self.view_is ∙ c.in-Going.is) h)) call.ensures.sound
