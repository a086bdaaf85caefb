-- The command `demo`.
use Rattle.std.specs.Prelude.{◌≡◌, ℕ, List, [], ◌∷◌, ◌++◌, codes, length, flat_map, None}
use Rattle.lk_model.specs.Formulas.Formula.{Cnf}
use Rattle.lk_model.specs.Formulas.Crossed.{no_variable}
use Rattle.lk_model.specs.Chains.Rounds.{AreNeeded}
use Rattle.lk_model.specs.Texts.PlainText.{line}
use Rattle.lk_model.specs.Documents.Documents.{class_of, rounds_in}
use Rattle.lk_model.specs.declared.class.Class.TheVariants.{Matching, General}
use Rattle.lk_model.specs.declared.document.Document.TheVariants.{Done as Finished}
use Rattle.lk_model.specs.declared.document.DoneDocument.{DoneDocument}
use Rattle.lean_checker.specs.Verdicts.{verdict_of, verdict_words}
use Rattle.lean_checker.specs.declared.verdict.Verdict.TheVariants.{Accepted}
use Rattle.demo_formula.specs.Demo.{demo_formula}
use Rattle.lk_model.specs.Chains.Budgets.{AreWithinBudget}
use Rattle.status_lines.specs.RunLines.{conflicts_line}
use Rattle.command_endings.specs.Commands.ReduceGeneral.{WritesUnfinishedKernel}
use Rattle.command_endings.specs.Commands.Report.{IsKernelSize, Row, row, row_line}
use Rattle.status_lines.specs.declared.status.Status.{Status}
use Rattle.status_lines.specs.declared.status.Status.TheVariants.{Done, Budget}

-- the budget of the general kernel
abbrev pub conflicts : ℕ
conflicts = 100000

-- WHAT IS WRITTEN

-- The checks accept a document of the class general, which keeps `size` clauses. Of its rounds each step is used and
-- each blocks a new variable, and those over each part are within the budget.
pub record IsCheckedSize (F : Cnf) (size : ℕ) : Type 0 where
  pub document : DoneDocument
  pub class_is : class_of document.body ≡ General
  pub accepted : verdict_of F (Finished document) ≡ Accepted
  pub size_is : size ≡ length document.kept
  pub needed : AreNeeded F no_variable (rounds_in document.body)
  pub budget : AreWithinBudget no_variable F conflicts (rounds_in document.body)

-- the rows before the verdict
abbrev pub demo_rows : ℕ → ℕ → ℕ → List Row
demo_rows number matching general =
    row (codes "demo") number
    ∷ row (codes "variables") 2200
    ∷ row (codes "clauses") 6400
    ∷ row (codes "matching") matching
    ∷ row (codes "general") general
    ∷ []

-- It is the text of these rows, with the sizes of the two kernels of the number's formula, and of the verdict on a document of
-- its general kernel.
pub record WritesDemo (number : ℕ) (written : List ℕ) : Type 0 where
  pub matching : ℕ
  pub general : ℕ
  pub matching_is : IsKernelSize Matching (demo_formula number) matching
  pub general_is : IsKernelSize General (demo_formula number) general
  pub checked : IsCheckedSize (demo_formula number) general
  pub written_is : written ≡ flat_map row_line (demo_rows number matching general) ++ line (verdict_words Accepted)

-- It writes these rows, or, where its budget is used up, the unfinished document of the formula's general kernel.
pub data Answers (number : ℕ) (written said : List ℕ) : Status → Type 0 where
  finished : WritesDemo number written → said ≡ [] → Answers number written said Done
  stopped : WritesUnfinishedKernel None conflicts (demo_formula number) written → said ≡ conflicts_line conflicts → Answers number written said Budget

-- nothing decides between these two beforehand
abbrev pub Decides : Status → Type 0
Decides status = ⊥
