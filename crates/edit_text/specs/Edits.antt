-- What edits of live clauses are, and what they lead to.
use Rattle.std.specs.Prelude.{◌≡◌, ℕ, ◌+◌, Bool, ◌&&◌, if◌then◌else◌, List, [], ◌∷◌, length, ℤ, Option, Some, None, nat_le, nat_lt, fold, IsTrue}
use Rattle.lk_model.specs.Lists.{among}
use Rattle.lk_model.specs.Limits.{max_clauses, max_literals}
use Rattle.lk_model.specs.Formulas.Literal.{is_clause}
use Rattle.lk_model.specs.Formulas.Formula.{literal_count}
use Rattle.edit_text.specs.LiveClauses.{LiveClauses, with_added, with_removed}
use Rattle.edit_text.specs.declared.edit.Edit.{Edit}
use Rattle.edit_text.specs.declared.edit.Edit.TheVariants.{Add, Remove}
use Rattle.edit_text.specs.declared.edit.EditFault.{EditFault}
use Rattle.edit_text.specs.declared.edit.EditFault.TheVariants.{NoSuchClause, PastLimit}

-- the clauses that were ever held, and this one, keep the limits
abbrev pub has_room : LiveClauses → List ℤ → Bool
has_room s c = nat_lt (length s.held.clauses) max_clauses && nat_le (literal_count s.held + length c) max_literals

-- why an edit cannot be made, if it cannot
abbrev pub edit_fault : LiveClauses → Edit → Option EditFault
edit_fault s (Add c) = if has_room s c then None else Some PastLimit
edit_fault s (Remove k) = if among s.live k then None else Some NoSuchClause

-- what is live after it
abbrev pub after : LiveClauses → Edit → LiveClauses
after s (Add c) = with_added s c
after s (Remove k) = with_removed s k

abbrev pub after_all : LiveClauses → List Edit → LiveClauses
after_all s edits = fold after s edits

-- what is live at first and after each edit
abbrev pub states : LiveClauses → List Edit → List LiveClauses
states s [] = s ∷ []
states s (e ∷ edits) = s ∷ states (after s e) edits

-- an added clause is one over the variables from 1 to n
abbrev pub is_edit_over : ℕ → Edit → Bool
is_edit_over n (Add c) = is_clause n c
is_edit_over n (Remove k) = nat_le 1 k

-- the edits can be made, one after the other
abbrev pub CanBeMade : LiveClauses → List Edit → Type 0
CanBeMade s [] = Unit {0}
CanBeMade s (e ∷ edits) = IsTrue (is_edit_over s.held.vars e) × (edit_fault s e ≡ None) × CanBeMade (after s e) edits
