use Rattle.std.proofs.Common.{◌++◌, sym, ◌∙◌, subst}
use Rattle.edit_text.specs.Fed.{HasBeenFed}
use Rattle.edit_text.proofs.Standing.{fits_when_taken}
use Rattle.edit_text.proofs.reader.EditsReader.feed.Goals as goal

pub returns-in-Err-clause-cause : goal.returns-in-Err-clause-cause
returns-in-Err-clause-cause c = λ F fed h. c.in-Err.ensures.cause F fed (subst (λ held. HasBeenFed F fed held) (sym c.self.view_is ∙ c.in-Going.is) h)

pub returns-in_default-clause-fits : goal.returns-in_default-clause-fits
returns-in_default-clause-fits c = λ F fed h.
    fits_when_taken F (fed ++ c.args.piece.now) c.take_all-taken.new.progress c.take_all-taken.result (c.take_all-taken.ensures.ok F fed (subst (λ held. HasBeenFed F fed held) (sym c.self.view_is ∙ c.in-Going.is) h))
