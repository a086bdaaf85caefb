-- The command `reduce linear`.
use Rattle.std.specs.Prelude.{◌≡◌, ℕ, Bool, true, false, List, [], length}
use Rattle.lk_model.specs.Formulas.Formula.{Cnf, occurring_count}
use Rattle.lk_model.specs.Formulas.Crossed.{Variables, formula_without, protected_by, protect_line_of}
use Rattle.lk_model.specs.Linear.LinearRun.{LinearEnd, RunDone, RunWide, RunBudget, linear_run_under, is_too_large_under}
use Rattle.lk_model.specs.Reduction.{WritesReduction}
use Rattle.lk_model.specs.declared.class.Class.TheVariants.{Linear}
use Rattle.command_words.specs.Settings.{Options}
use Rattle.status_lines.specs.RunLines.{budget_line, too_large_line, too_wide_line}
use Rattle.status_lines.specs.declared.status.Status.{Status}
use Rattle.status_lines.specs.declared.status.Status.TheVariants.{Done, Budget, TooWide, TooLarge}

-- the protected variables: those of the formula that are listed
abbrev pub protected : Options → Cnf → Variables
protected options F = protected_by (protect_line_of F options.protect)

-- THE STATUS

-- too large, by the size of the rows alone; or else as the run ends
abbrev pub status_by : Bool → LinearEnd → Status
status_by true end = TooLarge
status_by false (RunDone kept stages dual units made) = Done
status_by false (RunWide made wide) = TooWide
status_by false RunBudget = Budget

abbrev pub status_of : Options → Cnf → Status
status_of options F = status_by (is_too_large_under (protected options F) F) (linear_run_under (protected options F) F options.pivots)

-- THE LINE

-- nothing where the run ends done; else why it did not
abbrev pub line_by : ℕ → Cnf → Bool → LinearEnd → List ℕ
line_by pivots rest true end = too_large_line (occurring_count rest) (length rest.clauses)
line_by pivots rest false (RunDone kept stages dual units made) = []
line_by pivots rest false (RunWide made wide) = too_wide_line made wide
line_by pivots rest false RunBudget = budget_line pivots

abbrev pub line_of : Options → Cnf → List ℕ
line_of options F = line_by options.pivots (formula_without F (protected options F)) (is_too_large_under (protected options F) F)
    (linear_run_under (protected options F) F options.pivots)

-- WHAT IS WRITTEN

-- the document of a reduction of the formula for the class, in which the listed variables are protected; else nothing
abbrev pub Writes : Options → Cnf → Status → List ℕ → Type 0
Writes options F Done written = WritesReduction F Linear options.protect options.pivots written
Writes options F _ written = written ≡ []

-- It writes the document that the linear run gives, or says why there is none.
pub record Answers (options : Options) (F : Cnf) (status : Status) (written said : List ℕ) : Type 0 where
  pub status_is : status ≡ status_of options F
  pub writes : Writes options F status written
  pub says : said ≡ line_of options F

-- the status is as the size and the run are
abbrev pub Decides : Options → Cnf → Status → Type 0
Decides options F status = status ≡ status_of options F
