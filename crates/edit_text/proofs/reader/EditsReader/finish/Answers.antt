use Rattle.std.proofs.Common.{◌∙◌, sym, subst}
use Rattle.edit_text.specs.Fed.{HasTaken, HasBeenFed}
use Rattle.edit_text.proofs.reader.EditsReader.finish.Goals as goal

pub returns-in-Going-clause-cause : goal.returns-in-Going-clause-cause
returns-in-Going-clause-cause c = λ F fed h.
    c.edits_of.ensures.cause F fed (subst (λ p. HasTaken F fed p) (sym c.in-Going.progress-is) (subst (λ held. HasBeenFed F fed held) (sym c.self.view_is ∙ c.in-Going.is) h))
