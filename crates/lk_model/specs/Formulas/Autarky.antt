-- Autarkies and their classes (Handbook of Satisfiability, Kleine Büning and Kullmann; Kullmann 2000 for linear
-- autarkies by one weighting, Kullmann 2003 for matching autarkies; the list of weightings is this project's own).
use Rattle.std.specs.Prelude.{◌≡◌, ℕ, zero, suc, Bool, true, false, if◌then◌else◌, ◌&&◌, ◌↔◌, ⊤, List, [], ◌∷◌, ℤ, pos, negsuc, ◌≤ℤ◌, Option, Some, None, IfSome, IsTrue, ◌==◌}
use Rattle.std.specs.List.{list_any}
use Rattle.lk_model.specs.declared.class.Class.{Class}
use Rattle.lk_model.specs.declared.class.Class.TheVariants.{Pure, Matching, Linear, General}
use Rattle.lk_model.specs.Lists.{is_nonzero}
use Rattle.lk_model.specs.Formulas.Literal.{variable, complement, contains, is_distinct}
use Rattle.lk_model.specs.Formulas.Formula.{Cnf, clause_at}
use Rattle.lk_model.specs.Formulas.Balance.{Weighting, balance}
use Rattle.lk_model.specs.Formulas.Assignment.{Assignment, makes_true, touches, satisfies}

-- a set of positions, as a test
abbrev pub Positions : Type 0
Positions = ℕ → Bool

-- each position of the one set is in the other
abbrev pub Within : Positions → Positions → Type 0
Within T S = (p : ℕ) → IsTrue (T p) → IsTrue (S p)

-- General: each clause of S that is touched is satisfied.
abbrev pub IsAutarky : Cnf → Positions → Assignment → Type 0
IsAutarky F S φ = (p : ℕ) → IsTrue (S p) → IsTrue (touches φ (clause_at F p)) → IsTrue (satisfies φ (clause_at F p))

-- Each clause of S that contains the complement of a literal of the order also contains an earlier literal of it.
abbrev pub HasEarlier : Cnf → Positions → List ℤ → List ℤ → Type 0
HasEarlier F S earlier [] = ⊤
HasEarlier F S earlier (l ∷ order) =
    ((p : ℕ) → IsTrue (S p) → IsTrue (contains (clause_at F p) (complement l)) → IsTrue (list_any (contains (clause_at F p)) earlier))
    × HasEarlier F S (l ∷ earlier) order

-- Pure: the true literals, each once, have such an order.
pub record IsPureAutarky (F : Cnf) (S : Positions) (φ : Assignment) : Type 0 where
  pub order : List ℤ
  pub once : IsTrue (is_distinct order)
  pub true_literals : (l : ℤ) → IsTrue (contains order l) ↔ IsTrue (makes_true φ l)
  pub earlier : HasEarlier F S [] order

-- Matching: each touched clause of S has a variable of its own, with a true literal in the clause.
pub record IsMatchingAutarky (F : Cnf) (S : Positions) (φ : Assignment) : Type 0 where
  pub own : ℕ → ℕ
  pub is_true : (p : ℕ) → IsTrue (S p) → IsTrue (touches φ (clause_at F p))
      → IsTrue (list_any (λ l. makes_true φ l && (variable l == own p)) (clause_at F p))
  pub differ : (p q : ℕ) → IsTrue (S p) → IsTrue (S q)
      → IsTrue (touches φ (clause_at F p)) → IsTrue (touches φ (clause_at F q)) → own p ≡ own q → p ≡ q

-- the sign of the first weighting that is not 0 on the variable: true above 0, false below, none where all are 0
abbrev pub first_sign : List Weighting → ℕ → Option Bool
first_sign [] v = None
first_sign (x ∷ xs) v = elim (x v) [ pos zero ↦ first_sign xs v | pos (suc _) ↦ Some true | negsuc _ ↦ Some false ]

-- the balance of the first weighting that is not 0 on at least one variable of the clause
abbrev pub first_balance : List Weighting → List ℤ → Option ℤ
first_balance [] c = None
first_balance (x ∷ xs) c = if list_any (λ l. is_nonzero (x (variable l))) c then Some (balance x c) else first_balance xs c

-- Linear: the assignment has the signs of some weightings, and none of those balances is below 0 on S.
pub record IsLinearAutarky (F : Cnf) (S : Positions) (φ : Assignment) : Type 0 where
  pub weightings : List Weighting
  pub signs : (v : ℕ) → φ v ≡ first_sign weightings v
  pub balances : (p : ℕ) → IsTrue (S p) → IfSome (first_balance weightings (clause_at F p)) (λ b. pos 0 ≤ℤ b)

-- an autarky of the class on S
abbrev pub IsClassAutarky : Class → Cnf → Positions → Assignment → Type 0
IsClassAutarky Pure = IsPureAutarky
IsClassAutarky Matching = IsMatchingAutarky
IsClassAutarky Linear = IsLinearAutarky
IsClassAutarky General = IsAutarky
