-- What the reader of a clause line asks of a draft, and leaves.
use Rattle.std.proofs.Common.{◌≡◌, ℕ, ◌≤◌, Bool, true, false, cond, List, length, ap, subst, Option, Some, None, Result, Ok, Err, IfOk}
use Rattle.std.specs.Prelude.{option_map}
use Rattle.lk_model.specs.Limits.{max_clauses}
use Rattle.lk_model.specs.Formulas.Formula.{Cnf}
use Rattle.lk_model.specs.Held.Growing.{Growing}
use Rattle.lk_model.specs.Texts.Lines.{Word}
use Rattle.lk_model.specs.declared.list.OutOfMemory.{OutOfMemory}
use Rattle.line_text.specs.Taking.{IsTaken}
use Rattle.formula_text.specs.FormulaLines.{next_clause, IsReady, IsReadyAgain}
use Rattle.cert_text.specs.declared.draft.Draft.{Draft}
use Rattle.cert_text.specs.Drafts.{clause_count, next_text}
use Rattle.cert_text.specs.Taking.{IsSmall}
use Rattle.cert_text.specs.Parts.{is_finished}

-- there are to be no more clauses than there may be
pub few_clauses : (d : Draft) → IsSmall d → clause_count d ≤ max_clauses
few_clauses d small = either (is_finished d.part)
  where
    either : (b : Bool) → cond b (length d.kept) d.clauses ≤ max_clauses
    either true = small.kept
    either false = small.clauses

mapped : {X Y : Type 0} (f : X → Y) (o : Option X) (taken : Bool) (now : X) → IsTaken o taken now → IsTaken (option_map f o) taken (f now)
mapped f None taken now h = h
mapped f (Some next) taken now h = (h.0, ap f h.1)

pub text_taken : (d : Draft) (count : ℕ) (words : List Word) (texts : Cnf) (r : Result Bool OutOfMemory) → count ≡ clause_count d
    → IfOk r (λ taken. IsTaken (next_clause count d.texts words) taken texts) → IfOk r (λ taken. IsTaken (next_text d words) taken (record d { texts = texts }))
text_taken d count words texts (Ok taken) is h =
    mapped (λ (F : Cnf). record d { texts = F }) (next_clause (clause_count d) d.texts words) taken texts (subst (λ (k : ℕ). IsTaken (next_clause k d.texts words) taken texts) is h)
text_taken d count words texts (Err e) is h = tt

-- the clause that grows has no literal again, over as many variables
pub ready_again : (n m : ℕ) (growing : Growing) (r : Result Bool OutOfMemory) → n ≡ m → IfOk r (λ taken. IsReadyAgain taken n growing) → IfOk r (λ taken. IsReadyAgain taken m growing)
ready_again n m growing (Ok true) same h = subst (λ (k : ℕ). IsReady k growing) same h
ready_again n m growing (Ok false) same h = tt
ready_again n m growing (Err f) same h = tt
