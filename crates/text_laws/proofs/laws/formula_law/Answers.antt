use Rattle.text_laws.proofs.SpelledFormulas.{spelled_form}
use Rattle.text_laws.proofs.laws.formula_law.Goals as goal

pub returns : goal.returns
returns c = spelled_form
