-- The command `report`.
use Rattle.std.specs.Prelude.{◌≡◌, ℕ, ◌==◌, Bool, List, [], ◌∷◌, codes, decimal, length, count_by, flat_map, ℤ}
use Rattle.lk_model.specs.Lists.{is_empty}
use Rattle.lk_model.specs.Formulas.Literal.{is_tautology}
use Rattle.lk_model.specs.Formulas.Formula.{Cnf, literal_count, occurring_count}
use Rattle.lk_model.specs.Formulas.Lean.{Kernel}
use Rattle.lk_model.specs.Texts.Lines.{Word}
use Rattle.lk_model.specs.Texts.PlainText.{line}
use Rattle.lk_model.specs.declared.class.Class.{Class}
use Rattle.lk_model.specs.declared.class.Class.TheVariants.{Pure, Matching}

-- THE NUMBERS

-- how many clauses pass the test, where two equal ones are two
abbrev pub count_of : (List ℤ → Bool) → Cnf → ℕ
count_of test F = count_by test F.clauses

abbrev pub is_unit_clause : List ℤ → Bool
is_unit_clause c = length c == 1

-- the formula has a kernel of the class, and each one of the class is of this size
pub record IsKernelSize (class : Class) (F : Cnf) (size : ℕ) : Type 0 where
  pub kept : List ℕ
  pub kernel : Kernel class F kept
  pub each : (others : List ℕ) → Kernel class F others → size ≡ length others

-- WHAT IS WRITTEN

-- a word, and a number
pub record Row : Type 0 where
  pub word : Word
  pub number : ℕ

abbrev pub row : Word → ℕ → Row
row word number = record { word = word; number = number }

abbrev pub row_line : Row → List ℕ
row_line r = line (r.word ∷ decimal r.number ∷ [])

-- the nine rows, of which the last two state the sizes of kernels
abbrev pub report_rows : Cnf → ℕ → ℕ → List Row
report_rows F pure matching =
    row (codes "variables") F.vars
    ∷ row (codes "occurring") (occurring_count F)
    ∷ row (codes "clauses") (length F.clauses)
    ∷ row (codes "literals") (literal_count F)
    ∷ row (codes "empty") (count_of is_empty F)
    ∷ row (codes "units") (count_of is_unit_clause F)
    ∷ row (codes "tautologies") (count_of is_tautology F)
    ∷ row (codes "pure") pure
    ∷ row (codes "matching") matching
    ∷ []

-- it is the text of these rows, a line for each
pub record WritesReport (F : Cnf) (written : List ℕ) : Type 0 where
  pub pure : ℕ
  pub matching : ℕ
  pub pure_is : IsKernelSize Pure F pure
  pub matching_is : IsKernelSize Matching F matching
  pub written_is : written ≡ flat_map row_line (report_rows F pure matching)
