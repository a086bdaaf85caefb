-- How a model text is read: what some lines give, and what becomes of one more.
use Rattle.std.specs.Prelude.{◌≡◌, ◌≢◌, ℕ, Bool, true, false, not, ◌&&◌, if◌then◌else◌, List, ◌++◌, length, filter, filter_map, ℤ, Ok, Err, nat_le, IsTrue}
use Rattle.std.specs.List.{list_any, list_all, slice_split}
use Rattle.std.specs.declared.option.Option.{Option}
use Rattle.std.specs.declared.option.Option.TheVariants.{Some, None}
use Rattle.lk_model.specs.Lists.{is_empty, is_zero}
use Rattle.lk_model.specs.Formulas.Literal.{variable, is_positive}
use Rattle.lk_model.specs.Formulas.Assignment.{Assignment, assignment_of}
use Rattle.lk_model.specs.Held.PartialValues.{assignment_by}
use Rattle.lk_model.specs.Texts.Lines.{Word, is_blank}
use Rattle.lk_model.specs.Texts.NumberWords.{number}
use Rattle.lk_model.specs.Texts.ModelText.{is_model_number, is_model_line, line_numbers, ends_at_zero, literals_among, is_consistent, model_of}
use Rattle.lk_model.specs.declared.verdict.ReadStop.{ReadStop}
use Rattle.lk_model.specs.declared.verdict.ReadStop.TheVariants.{Line, OutOfMemory}
use Rattle.model_text.specs.declared.reading.ModelDraft.{ModelDraft}

-- WHAT IS READ

-- the text gives literals, and the partial assignment of the variables from 1 to n makes these true and sets nothing else
pub record IsModelRead (bytes : List ℕ) (n : ℕ) (partial : List (Option Bool)) : Type 0 where
  pub literals : List ℤ
  pub text : model_of bytes n ≡ Ok literals
  pub vars : length partial ≡ n
  pub values : assignment_by partial ≡ assignment_of literals

-- the stop is at the first faulty line; memory may run out anywhere
abbrev pub IsModelStop : List ℕ → ℕ → ReadStop → Type 0
IsModelStop bytes n (Line line) = model_of bytes n ≡ Err line
IsModelStop bytes n OutOfMemory = Unit {0}

-- NUMBERS

-- the words of a line
abbrev pub words_in : List ℕ → List Word
words_in line = filter (λ word. not (is_empty word)) (slice_split is_blank line)

-- the number, if it is 0 or a literal of a variable up to n
abbrev pub number_up_to : ℕ → Option ℤ → Option ℤ
number_up_to n None = None
number_up_to n (Some x) = if nat_le (variable x) n then Some x else None

-- nothing stands after a 0, and no literal beside its complement
abbrev pub may_stand : List ℤ → Bool
may_stand numbers = ends_at_zero numbers && is_consistent (literals_among numbers)

-- the numbers of the lines so far may stand, and gave these values; a 0 closed them or not
pub record Gives (numbers : List ℤ) (draft : ModelDraft) : Type 0 where
  pub fine : IsTrue (may_stand numbers)
  pub values : assignment_by draft.values ≡ assignment_of (literals_among numbers)
  pub closed : draft.closed ≡ list_any is_zero numbers

-- STEPS

-- the assignment ψ makes the literal true and is φ elsewhere, which did not make it false
pub record MakesTrue (φ : Assignment) (l : ℤ) (ψ : Assignment) : Type 0 where
  pub free : φ (variable l) ≢ Some (not (is_positive l))
  pub own : ψ (variable l) ≡ Some (is_positive l)
  pub others : (v : ℕ) → v ≢ variable l → ψ v ≡ φ v

-- the literal was made true, or was false
abbrev pub TakesLiteral : Assignment → ℤ → Bool → Assignment → Type 0
TakesLiteral φ l true ψ = MakesTrue φ l ψ
TakesLiteral φ l false ψ = φ (variable l) ≡ Some (not (is_positive l))

-- the words after a `v` were taken, or may not stand after these numbers
abbrev pub TakesWords : ℕ → List ℤ → List Word → Bool → ModelDraft → Type 0
TakesWords n numbers words true next = IsTrue (list_all (is_model_number n) words) × Gives (numbers ++ filter_map number words) next
TakesWords n numbers words false next = (list_all (is_model_number n) words && may_stand (numbers ++ filter_map number words)) ≡ false

-- the line of these words was taken, or may not stand after lines with these numbers
abbrev pub TakesLine : ℕ → List ℤ → List Word → Bool → ModelDraft → Type 0
TakesLine n numbers words true next = IsTrue (is_model_line n words) × Gives (numbers ++ line_numbers words) next
TakesLine n numbers words false next = (is_model_line n words && may_stand (numbers ++ line_numbers words)) ≡ false
