-- The parts of a formula, which share no variable.
use Rattle.std.specs.Prelude.{◌≡◌, ◌↔◌, ℕ, Bool, not, ◌&&◌, List, [], ◌∷◌, length, IsTrue, map, ℤ}
use Rattle.std.specs.List.{list_any, AllByRecursion}
use Rattle.lk_model.specs.Lists.{among, rises_within}
use Rattle.lk_model.specs.Formulas.Literal.{variable, mentions}
use Rattle.lk_model.specs.Formulas.Formula.{Cnf, clause_at}
use Rattle.lk_model.specs.Formulas.Crossed.{Variables}
use Rattle.lk_model.specs.Formulas.Lean.{are_positions, all_of}

-- a variable of the one clause is a variable of the other
abbrev pub share_variable : List ℤ → List ℤ → Bool
share_variable c d = list_any (λ l. mentions d (variable l)) c

-- the chain leads from p to q, and neighbours share a variable
abbrev pub Leads : Cnf → ℕ → List ℕ → ℕ → Type 0
Leads F p [] q = p ≡ q
Leads F p (r ∷ chain) q = IsTrue (share_variable (clause_at F p) (clause_at F r)) × Leads F r chain q

abbrev pub InOnePart : Cnf → ℕ → ℕ → Type 0
InOnePart F p q = (chain : List ℕ) × Leads F p chain q

-- all positions in one part with its least one, ascending
abbrev pub IsPart : Cnf → List ℕ → Type 0
IsPart F [] = ⊥
IsPart F (least ∷ more) = IsTrue (are_positions F (least ∷ more))
    × ((p : ℕ) → IsTrue (all_of F p) → IsTrue (among (least ∷ more) p) ↔ InOnePart F least p)

-- the least position of a part
abbrev pub least_of : List ℕ → ℕ
least_of [] = 0
least_of (p ∷ ps) = p

-- each position stands in a part, and the parts are ordered by their least positions
pub record AreParts (F : Cnf) (parts : List (List ℕ)) : Type 0 where
  pub each : AllByRecursion (IsPart F) parts
  pub whole : (p : ℕ) → IsTrue (all_of F p) → IsTrue (list_any (λ part. among part p) parts)
  pub order : IsTrue (rises_within 0 (length F.clauses) (map least_of parts))

-- UNDER A SET P OF PROTECTED VARIABLES

-- a variable of the one clause, outside P, is a variable of the other
abbrev pub share_outside : Variables → List ℤ → List ℤ → Bool
share_outside P c d = list_any (λ l. not (P (variable l)) && mentions d (variable l)) c

-- the chain leads from p to q, and neighbours share a variable outside P
abbrev pub LeadsUnder : Variables → Cnf → ℕ → List ℕ → ℕ → Type 0
LeadsUnder P F p [] q = p ≡ q
LeadsUnder P F p (r ∷ chain) q = IsTrue (share_outside P (clause_at F p) (clause_at F r)) × LeadsUnder P F r chain q

abbrev pub InOnePartUnder : Variables → Cnf → ℕ → ℕ → Type 0
InOnePartUnder P F p q = (chain : List ℕ) × LeadsUnder P F p chain q

-- all positions in one part with its least one, ascending
abbrev pub IsPartUnder : Variables → Cnf → List ℕ → Type 0
IsPartUnder P F [] = ⊥
IsPartUnder P F (least ∷ more) = IsTrue (are_positions F (least ∷ more))
    × ((p : ℕ) → IsTrue (all_of F p) → IsTrue (among (least ∷ more) p) ↔ InOnePartUnder P F least p)

-- each position stands in a part, and the parts are ordered by their least positions
pub record ArePartsUnder (P : Variables) (F : Cnf) (parts : List (List ℕ)) : Type 0 where
  pub each : AllByRecursion (IsPartUnder P F) parts
  pub whole : (p : ℕ) → IsTrue (all_of F p) → IsTrue (list_any (λ part. among part p) parts)
  pub order : IsTrue (rises_within 0 (length F.clauses) (map least_of parts))
