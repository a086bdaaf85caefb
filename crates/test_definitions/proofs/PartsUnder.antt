-- The clauses {1,3} and {2,3}: one part, and two with 3 protected.
use Rattle.std.specs.Prelude.{◌≡◌, ◌↔◌, refl, ℕ, zero, suc, List, [], ◌∷◌, pos, Some, IsTrue}
use Rattle.std.specs.List.{list_any}
use Rattle.std.proofs.Common.{arith}
use Rattle.lk_model.specs.Lists.{among}
use Rattle.lk_model.specs.Formulas.Formula.{Cnf}
use Rattle.lk_model.specs.Formulas.Crossed.{Variables, formula_without, protected_by}
use Rattle.lk_model.specs.Formulas.Lean.{all_of}
use Rattle.lk_model.specs.Formulas.Parts.{IsPart, InOnePart, AreParts, IsPartUnder, InOnePartUnder, LeadsUnder, ArePartsUnder}

abbrev joint : Cnf
joint = record { vars = 3; clauses = (pos 1 ∷ pos 3 ∷ []) ∷ (pos 2 ∷ pos 3 ∷ []) ∷ [] }

-- ONE PART

both : IsPart joint (1 ∷ 2 ∷ [])
both = (refl, at)
  where
    at : (p : ℕ) → IsTrue (all_of joint p) → IsTrue (among (1 ∷ 2 ∷ []) p) ↔ InOnePart joint 1 p
    at zero h = absurd (let f : ⊥ = cc in f)
    at (suc zero) h = (λ _. ([], refl), λ _. refl)
    at (suc (suc zero)) h = (λ _. (2 ∷ [], (refl, refl)), λ _. refl)
    at (suc (suc (suc p))) h = absurd (let f : ⊥ = grind (arith, h) in f)

one_part : AreParts joint ((1 ∷ 2 ∷ []) ∷ [])
one_part = record { each = (both, tt); whole = in_it; order = refl }
  where
    in_it : (p : ℕ) → IsTrue (all_of joint p) → IsTrue (list_any (λ part. among part p) ((1 ∷ 2 ∷ []) ∷ []))
    in_it zero h = absurd (let f : ⊥ = cc in f)
    in_it (suc zero) h = refl
    in_it (suc (suc zero)) h = refl
    in_it (suc (suc (suc p))) h = absurd (let f : ⊥ = grind (arith, h) in f)

-- TWO PARTS

abbrev three : Variables
three = protected_by (Some (3 ∷ []))

apart : formula_without joint three ≡ record { vars = 3; clauses = (pos 1 ∷ []) ∷ (pos 2 ∷ []) ∷ [] }
apart = refl

-- no chain leads from a position to another one
from_first : (chain : List ℕ) (q : ℕ) → LeadsUnder three joint 1 chain q → 1 ≡ q
from_first [] q h = h
from_first (zero ∷ chain) q h = absurd (let e = h.0 in let f : ⊥ = cc in f)
from_first (suc zero ∷ chain) q h = from_first chain q h.1
from_first (suc (suc zero) ∷ chain) q h = absurd (let e = h.0 in let f : ⊥ = cc in f)
from_first (suc (suc (suc r)) ∷ chain) q h = absurd (let e = h.0 in let f : ⊥ = cc in f)

from_second : (chain : List ℕ) (q : ℕ) → LeadsUnder three joint 2 chain q → 2 ≡ q
from_second [] q h = h
from_second (zero ∷ chain) q h = absurd (let e = h.0 in let f : ⊥ = cc in f)
from_second (suc zero ∷ chain) q h = absurd (let e = h.0 in let f : ⊥ = cc in f)
from_second (suc (suc zero) ∷ chain) q h = from_second chain q h.1
from_second (suc (suc (suc r)) ∷ chain) q h = absurd (let e = h.0 in let f : ⊥ = cc in f)

first_alone : IsPartUnder three joint (1 ∷ [])
first_alone = (refl, at)
  where
    at : (p : ℕ) → IsTrue (all_of joint p) → IsTrue (among (1 ∷ []) p) ↔ InOnePartUnder three joint 1 p
    at zero h = absurd (let f : ⊥ = cc in f)
    at (suc zero) h = (λ _. ([], refl), λ _. refl)
    at (suc (suc zero)) h = (λ t. absurd (let f : ⊥ = cc in f), λ l. absurd (let e = from_first l.0 2 l.1 in let f : ⊥ = omega arith in f))
    at (suc (suc (suc p))) h = absurd (let f : ⊥ = grind (arith, h) in f)

second_alone : IsPartUnder three joint (2 ∷ [])
second_alone = (refl, at)
  where
    at : (p : ℕ) → IsTrue (all_of joint p) → IsTrue (among (2 ∷ []) p) ↔ InOnePartUnder three joint 2 p
    at zero h = absurd (let f : ⊥ = cc in f)
    at (suc zero) h = (λ t. absurd (let f : ⊥ = cc in f), λ l. absurd (let e = from_second l.0 1 l.1 in let f : ⊥ = omega arith in f))
    at (suc (suc zero)) h = (λ _. ([], refl), λ _. refl)
    at (suc (suc (suc p))) h = absurd (let f : ⊥ = grind (arith, h) in f)

two_parts : ArePartsUnder three joint ((1 ∷ []) ∷ (2 ∷ []) ∷ [])
two_parts = record { each = (first_alone, (second_alone, tt)); whole = in_one; order = refl }
  where
    in_one : (p : ℕ) → IsTrue (all_of joint p) → IsTrue (list_any (λ part. among part p) ((1 ∷ []) ∷ (2 ∷ []) ∷ []))
    in_one zero h = absurd (let f : ⊥ = cc in f)
    in_one (suc zero) h = refl
    in_one (suc (suc zero)) h = refl
    in_one (suc (suc (suc p))) h = absurd (let f : ⊥ = grind (arith, h) in f)
