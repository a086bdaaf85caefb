-- What texts of edits are, as a law.
use Rattle.std.specs.Prelude.{◌≡◌, ◌≤◌, ◌⊎◌, ℕ, List, length}
use Rattle.lk_model.specs.Limits.{max_bytes}
use Rattle.lk_model.specs.Formulas.Formula.{Cnf}
use Rattle.edit_text.specs.LiveClauses.{live_of}
use Rattle.edit_text.specs.Edits.{CanBeMade}
use Rattle.edit_text.specs.EditText.{IsEdits, IsFaultyAt}
use Rattle.edit_text.specs.declared.edit.Edit.{Edit}
use Rattle.edit_text.specs.declared.edit.EditFault.{EditFault}

-- Each text is one of edits or has a first fault, and never both; the edits are these alone, and so is the fault. The edits of
-- a text can be made one after the other.
pub record EditsLaw : Type 0 where
  pub either : (F : Cnf) (text : List ℕ) → ((edits : List Edit) × IsEdits F edits text) ⊎ ((line : ℕ) × (fault : EditFault) × IsFaultyAt F text line fault)
  pub never_both : (F : Cnf) (text : List ℕ) (edits : List Edit) (line : ℕ) (fault : EditFault) → IsEdits F edits text → IsFaultyAt F text line fault → ⊥
  pub one : (F : Cnf) (text : List ℕ) (edits others : List Edit) → IsEdits F edits text → IsEdits F others text → edits ≡ others
  pub one_fault : (F : Cnf) (text : List ℕ) (line other : ℕ) (fault another : EditFault) → IsFaultyAt F text line fault → IsFaultyAt F text other another
      → (line ≡ other) × (fault ≡ another)
  pub short : (F : Cnf) (text : List ℕ) (edits : List Edit) → IsEdits F edits text → length text ≤ max_bytes
  pub made : (F : Cnf) (text : List ℕ) (edits : List Edit) → IsEdits F edits text → CanBeMade (live_of F) edits
