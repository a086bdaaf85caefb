use Rattle.std.proofs.Common.{subst}
use Rattle.edit_text.specs.Fed.{Stands}
use Rattle.edit_text.proofs.Standing.{faulty_text}
use Rattle.edit_text.proofs.progress.edits_of.Goals as goal

pub returns-in-Faulty-clause-cause : goal.returns-in-Faulty-clause-cause
returns-in-Faulty-clause-cause c = λ F fed h.
    faulty_text F fed c.in-Faulty.line c.in-Faulty.fault h.few (subst (λ st. Stands F fed c.args.progress.line st) c.in-Faulty.is h.stands)
