-- The command `check`.
use Rattle.std.specs.Prelude.{◌≡◌, ℕ, List, [], None}
use Rattle.lk_model.specs.Formulas.Formula.{Cnf}
use Rattle.lk_model.specs.Texts.PlainText.{line}
use Rattle.lk_model.specs.Checks.Checks.{first_failure, Accepts, IsSound}
use Rattle.lk_model.specs.Reduction.{IsReduction}
use Rattle.lk_model.specs.declared.document.Document.{Document as AnyDocument}
use Rattle.lk_model.specs.declared.document.Document.TheVariants.{Done as Finished, Unfinished}
use Rattle.lean_checker.specs.Verdicts.{verdict_of, verdict_words}
use Rattle.status_lines.specs.Verdicts.{verdict_status}
use Rattle.status_lines.specs.declared.status.Status.{Status}

-- A finished document of which no check fails is a reduction of the formula, whoever made it: it keeps the kernel of its
-- class, its set line is an autarky of the class that touches exactly the removed clauses, and every model of the kept ones
-- extends. An unfinished one is sound: each step states the clause of its chain, and each learned clause is new.
abbrev pub IsProvedDocument : Cnf → AnyDocument → Type 0
IsProvedDocument F (Finished d) = Accepts F d × IsReduction F d
IsProvedDocument F (Unfinished d) = IsSound F d

-- It writes the verdict on the document: accepted, unfinished, or the first check that fails.
pub record Answers (F : Cnf) (d : AnyDocument) (status : Status) (written said : List ℕ) : Type 0 where
  pub status_is : status ≡ verdict_status (verdict_of F d)
  pub writes : written ≡ line (verdict_words (verdict_of F d))
  pub silent : said ≡ []
  pub proved : first_failure F d ≡ None → IsProvedDocument F d

-- the status is that of the verdict
abbrev pub Decides : Cnf → AnyDocument → Status → Type 0
Decides F d status = status ≡ verdict_status (verdict_of F d)
