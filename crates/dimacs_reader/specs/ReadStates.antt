-- What was read of the numbers so far.
use Rattle.std.specs.Prelude.{◌≡◌, ◌≤◌, ◌<◌, ◌+◌, ℕ, Bool, nat_lt, List, [], ◌∷◌, ◌++◌, map, ℤ, Option, Some, None, IsTrue, nat_le, count_by, if◌then◌else◌, length}
use Rattle.std.specs.List.{slice_split, list_all}
use Rattle.lk_model.specs.Lists.{is_empty, is_zero, is_nonzero}
use Rattle.lk_model.specs.Limits.{max_clauses, max_literals}
use Rattle.lk_model.specs.Formulas.Literal.{variable, contains}
use Rattle.lk_model.specs.Formulas.Formula.{Cnf, with_clause, literal_count}
use Rattle.lk_model.specs.Texts.Lines.{Piece, texts}
use Rattle.lk_model.specs.Texts.NumberWords.{number}
use Rattle.lk_model.specs.Texts.Dimacs.{without_repeats, runs_of}
use Rattle.lk_model.specs.Texts.Fault.{numbers_of}
use Rattle.lk_model.specs.declared.text_fault.Fault.{Fault}
use Rattle.dimacs_reader.specs.Contents.{IsWritten}
use Rattle.dimacs_reader.specs.FirstFaults.{fault_among, fault_at_end}
use Rattle.dimacs_reader.specs.declared.clauses.ReadState.{ReadState}

-- The words write numbers whose closed runs are the clauses so far, and whose open one is the growing clause.
pub record HasRead (words : List Piece) (state : ReadState) : Type 0 where
  pub numbers : List ℤ
  pub runs : List (List ℤ)
  pub last : List ℤ
  pub read : map number (texts words) ≡ map Some numbers
  pub split : slice_split is_zero numbers ≡ runs ++ last ∷ []
  pub closed : state.formula.clauses ≡ map without_repeats runs
  pub growing : state.growing.literals ≡ without_repeats last
  pub variables : IsTrue (list_all (λ l. nat_le (variable l) state.formula.vars) numbers)
  pub written : state.written ≡ count_by is_nonzero numbers

-- The clause that grows is one of the formula's variables, and what was read lies within the limits and within what the
-- problem line states.
pub record Fits (state : ReadState) : Type 0 where
  pub one_size : state.growing.vars ≡ state.formula.vars
  pub stated : state.stated ≤ max_clauses
  pub clauses : length state.formula.clauses ≤ state.stated
  pub open_clause : 0 < length state.growing.literals → length state.formula.clauses < state.stated
  pub literals : literal_count state.formula + length state.growing.literals ≤ state.written
  pub written : state.written ≤ max_literals

-- the first fault of words after earlier ones, over what the problem line of the state states
abbrev pub fault_in : ReadState → List Piece → List Piece → Option Fault
fault_in state earlier words = fault_among state.formula.vars state.stated earlier words

-- the words lead from one state to the other, after whatever words the first one stands, and have no fault there
pub record Leads (words : List Piece) (before after : ReadState) : Type 0 where
  pub vars : after.formula.vars ≡ before.formula.vars
  pub stated : after.stated ≡ before.stated
  pub fits : Fits after
  pub goes_on : (earlier : List Piece) → HasRead earlier before → HasRead (earlier ++ words) after
  pub silent : (earlier : List Piece) → HasRead earlier before → fault_in before earlier words ≡ None

-- after whatever words of which this is the state, the words have this first fault
abbrev pub HasFault : List Piece → ReadState → Fault → Type 0
HasFault words state fault = (earlier : List Piece) → HasRead earlier state → fault_in state earlier words ≡ Some fault

-- the open clause closed
abbrev pub closed : ReadState → ReadState
closed state = record { formula = with_clause state.formula state.growing.literals; growing = record { vars = state.growing.vars; literals = [] }; stated = state.stated; written = state.written }

-- one literal more, unless the clause has it
abbrev pub with_literal : ℤ → ReadState → ReadState
with_literal l state =
    record { formula = state.formula; growing = record { vars = state.growing.vars; literals = (if contains state.growing.literals l then state.growing.literals else state.growing.literals ++ l ∷ []) }; stated = state.stated; written = state.written + 1 }

-- there are fewer clauses than are stated, with the open one closed if it has a literal
abbrev pub is_short_of : ReadState → Bool
is_short_of state = nat_lt (length state.formula.clauses + (if is_empty state.growing.literals then 0 else 1)) state.stated

-- what the words of which this is the state write, with the last clause closed
pub record Closes (state : ReadState) (F : Cnf) : Type 0 where
  pub few : length F.clauses ≤ state.stated
  pub runs : (words : List Piece) → HasRead words state → length (runs_of (numbers_of words)) ≡ length F.clauses
  pub written : (words : List Piece) → HasRead words state → IsWritten state.formula.vars (texts words) F

-- the words of which this is the state, which end at a place, write this formula, and have no fault
pub record Writes (state : ReadState) (end : ℕ) (F : Cnf) : Type 0 where
  pub whole : length F.clauses ≡ state.stated
  pub written : (words : List Piece) → HasRead words state → IsWritten state.formula.vars (texts words) F
  pub silent : (words : List Piece) → HasRead words state → fault_at_end state.stated words end ≡ None

-- the words of which this is the state, which end at a place, have this fault
abbrev pub HasFaultAtEnd : ReadState → ℕ → Fault → Type 0
HasFaultAtEnd state end fault = (words : List Piece) → HasRead words state → fault_at_end state.stated words end ≡ Some fault
