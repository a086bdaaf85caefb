-- What the checker reports, and the line that states it.
use Rattle.std.specs.Prelude.{◌≡◌, ℕ, ◌-◌, List, [], ◌∷◌, ◌++◌, codes, decimal, length, replicate, Option, Some, None}
use Rattle.lk_model.specs.Formulas.Formula.{Cnf}
use Rattle.lk_model.specs.Texts.Lines.{Word}
use Rattle.lk_model.specs.Checks.Checks.{first_failure}
use Rattle.lk_model.specs.Documents.KindWords.{refused_words}
use Rattle.lk_model.specs.declared.document.Document.{Document}
use Rattle.lk_model.specs.declared.document.Document.TheVariants.{Done, Unfinished}
use Rattle.lk_model.specs.declared.verdict.Why.{Why}
use Rattle.lean_checker.specs.declared.verdict.Verdict.{Verdict}
use Rattle.lean_checker.specs.declared.verdict.Verdict.TheVariants as verdict
use Rattle.lean_checker.specs.declared.verdict.VerdictText.{VerdictText}

-- what is said of a document of which this check is the first that fails
abbrev pub verdict_by : Document → Option Why → Verdict
verdict_by d (Some why) = verdict.No why
verdict_by (Done d) None = verdict.Accepted
verdict_by (Unfinished d) None = verdict.Unfinished d.learned

-- what is said of a document and a formula
abbrev pub verdict_of : Cnf → Document → Verdict
verdict_of F d = verdict_by d (first_failure F d)

abbrev pub verdict_words : Verdict → List Word
verdict_words verdict.Accepted = codes "accepted" ∷ []
verdict_words (verdict.Unfinished learned) = codes "unfinished" ∷ decimal learned ∷ []
verdict_words (verdict.No why) = refused_words why

-- the text has this line at its front, and zeros behind it
pub record HasLine (text : VerdictText) (bytes : List ℕ) : Type 0 where
  pub count : text.len ≡ length bytes
  pub bytes_are : text.bytes ≡ bytes ++ replicate (64 - length bytes) 0
