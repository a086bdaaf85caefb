-- Texts of edits: a line adds a clause, removes one, or is passed over.
use Rattle.std.specs.Prelude.{◌≡◌, ℕ, ◌+◌, Bool, true, ◌&&◌, if◌then◌else◌, List, [], ◌∷◌, length, filter_map, ℤ, Option, Some, None, Result, Ok, Err, codes, ◌==◌, nat_lt, slice_index, option_map, option_and_then}
use Rattle.std.specs.List.{list_any, list_all}
use Rattle.std.specs.Str.{bytes_eq}
use Rattle.lk_model.specs.Lists.{is_zero, with_earlier}
use Rattle.lk_model.specs.Limits.{max_bytes}
use Rattle.lk_model.specs.Formulas.Formula.{Cnf}
use Rattle.lk_model.specs.Texts.Lines.{Word, line_number}
use Rattle.lk_model.specs.Texts.Dimacs.{without_repeats}
use Rattle.lk_model.specs.Texts.ModelText.{word_lines, is_model_number, ends_at_zero, literals_among}
use Rattle.lk_model.specs.Texts.NumberWords.{number, natural}
use Rattle.edit_text.specs.LiveClauses.{LiveClauses, live_of}
use Rattle.edit_text.specs.Edits.{edit_fault, after_all}
use Rattle.edit_text.specs.declared.edit.Edit.{Edit}
use Rattle.edit_text.specs.declared.edit.Edit.TheVariants.{Add, Remove}
use Rattle.edit_text.specs.declared.edit.EditFault.{EditFault}
use Rattle.edit_text.specs.declared.edit.EditFault.TheVariants.{NotAnEdit, NoSuchClause, PastLimit}

-- WHAT A LINE SAYS

-- the words write literals of variables up to n, and then a 0 that is the only one
abbrev pub is_closed : ℕ → List Word → Bool
is_closed n words =
    list_all (is_model_number n) words
    && (let numbers = filter_map number words in list_any is_zero numbers && ends_at_zero numbers)

-- the clause that the words after `a` write; repeats are dropped
abbrev pub added : ℕ → List Word → Option (List ℤ)
added n words = if is_closed n words then Some (without_repeats (literals_among (filter_map number words))) else None

-- the number, at least 1, that the one word after `d` writes
abbrev pub removed : List Word → Option ℕ
removed (word ∷ []) = option_and_then (λ k. if k == 0 then None else Some k) (natural word)
removed _ = None

-- A line without words, and one whose first word begins with `c`, is passed over.
abbrev pub is_passed : List Word → Bool
is_passed [] = true
is_passed (first ∷ words) = slice_index first 0 == 99

-- the edit that another line writes, if it does
abbrev pub edit_by : ℕ → List Word → Option Edit
edit_by n [] = None
edit_by n (first ∷ words) = if bytes_eq first (codes "a")
    then option_map Add (added n words)
    else (if bytes_eq first (codes "d") then option_map Remove (removed words) else None)

abbrev pub edit_in : ℕ → List Word → Option Edit
edit_in n words = if is_passed words then None else edit_by n words

-- the edits of lines
abbrev pub edits_in : ℕ → List (List Word) → List Edit
edits_in n lines = filter_map (edit_in n) lines

-- WHAT IS WRONG WITH IT

-- a line that is not passed over is an edit that can be made
abbrev pub fault_by : LiveClauses → Option Edit → Option EditFault
fault_by s None = Some NotAnEdit
fault_by s (Some e) = edit_fault s e

abbrev pub line_fault : LiveClauses → List Word → Option EditFault
line_fault s words = if is_passed words then None else fault_by s (edit_by s.held.vars words)

-- what is live after lines
abbrev pub live_behind : Cnf → List (List Word) → LiveClauses
live_behind F lines = after_all (live_of F) (edits_in F.vars lines)

-- the fault of a line after these, with its number
abbrev pub fault_behind : Cnf → List (List Word) × List Word → Option (ℕ × EditFault)
fault_behind F (earlier, words) = option_map (λ (fault : EditFault). (length earlier + 1, fault)) (line_fault (live_behind F earlier) words)

-- the faults of all lines, in their order; what stands after the first one is not reported
abbrev pub line_faults : Cnf → List (List Word) → List (ℕ × EditFault)
line_faults F lines = filter_map (fault_behind F) (with_earlier [] lines)

-- THE TEXT

-- A text that is too long is refused at the line of its first byte past the limit, whatever stands before it.
abbrev pub faults : Cnf → List ℕ → List (ℕ × EditFault)
faults F text = if nat_lt max_bytes (length text)
    then (line_number text (max_bytes + 1), PastLimit) ∷ []
    else line_faults F (word_lines text)

-- the first fault, or else the edits
abbrev pub unless_faulty : List (ℕ × EditFault) → List Edit → Result (List Edit) (ℕ × EditFault)
unless_faulty [] edits = Ok edits
unless_faulty (fault ∷ others) edits = Err fault

abbrev pub edits_of : Cnf → List ℕ → Result (List Edit) (ℕ × EditFault)
edits_of F text = unless_faulty (faults F text) (edits_in F.vars (word_lines text))

-- the text is one of these edits of the formula
abbrev pub IsEdits : Cnf → List Edit → List ℕ → Type 0
IsEdits F edits text = edits_of F text ≡ Ok edits

-- the text is no text of edits of the formula, with this fault at this line
abbrev pub IsFaultyAt : Cnf → List ℕ → ℕ → EditFault → Type 0
IsFaultyAt F text line fault = edits_of F text ≡ Err (line, fault)

-- what the program says of a fault
abbrev pub fault_text : EditFault → List ℕ
fault_text NotAnEdit = codes ": not an edit\n"
fault_text NoSuchClause = codes ": no such clause\n"
fault_text PastLimit = codes ": past a limit\n"
