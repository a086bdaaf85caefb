-- The clause lines of a formula inside a text, and what one of them leads to.
use Rattle.std.specs.Prelude.{◌≡◌, ℕ, ◌+◌, Bool, true, false, ◌&&◌, nat_lt, nat_le, if◌then◌else◌, List, [], length, ℤ, Option, Some, None, option_and_then}
use Rattle.lk_model.specs.Limits.{max_literals}
use Rattle.lk_model.specs.Formulas.Formula.{Cnf, literal_count, with_clause}
use Rattle.lk_model.specs.Held.Growing.{Growing}
use Rattle.lk_model.specs.Texts.Lines.{Word}
use Rattle.line_text.specs.FieldLists.{clause_from}

-- fewer clauses than there are to be, and the limit leaves room for the literals
abbrev pub has_room : ℕ → Cnf → List ℤ → Bool
has_room count texts clause = nat_lt (length texts.clauses) count && nat_le (literal_count texts + length clause) max_literals

abbrev pub put_clause : ℕ → Cnf → List ℤ → Option Cnf
put_clause count texts clause = if has_room count texts clause then Some (with_clause texts clause) else None

-- what a line of these words leads to, where there are to be `count` clauses
abbrev pub next_clause : ℕ → Cnf → List Word → Option Cnf
next_clause count texts words = option_and_then (put_clause count texts) (clause_from texts.vars [] words)

-- a clause that grows, over n variables, with no literal yet
abbrev pub IsReady : ℕ → Growing → Type 0
IsReady n growing = growing ≡ record { vars = n; literals = [] }

-- where the line was taken, the clause has no literal again
abbrev pub IsReadyAgain : Bool → ℕ → Growing → Type 0
IsReadyAgain true n growing = IsReady n growing
IsReadyAgain false n growing = Unit {0}
