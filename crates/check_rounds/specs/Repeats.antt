-- A clause that is kept since a chain joins it again and again.
use Rattle.std.specs.Prelude.{◌≡◌, ◌<◌, ℕ, true, ◌||◌, List, [], ◌∷◌, ℤ, Some, IsTrue, ◌⊎◌}
use Rattle.std.specs.List.{list_all}
use Rattle.lk_model.specs.Formulas.Literal.{contains, is_literal}
use Rattle.lk_model.specs.Chains.Chain.{Premises, clause_named}
use Rattle.check_rounds.specs.declared.repeated.Repeated.{Repeated}
use Rattle.check_rounds.specs.declared.work.Work.{Work}
use Rattle.check_tables.specs.LiteralSets.{has_literal, IsSetOf}

-- the clause so far has each literal of the kept clause that is not listed as lost, and these are literals of it
pub record IsRepeated (n : ℕ) (w : Work) (r : Repeated) : Type 0 where
  pub set : IsSetOf n r.literals.items r.held
  pub literals : IsTrue (list_all (is_literal n) r.literals.items)
  pub left : (l : ℤ) → contains r.literals.items l ≡ true → (has_literal w.flags l || contains r.lost.items l) ≡ true
  pub lost : (l : ℤ) → contains r.lost.items l ≡ true → contains r.literals.items l ≡ true

-- no clause is kept
pub record IsIdle (n : ℕ) (r : Repeated) : Type 0 where
  pub set : IsSetOf n [] r.held
  pub number : r.number ≡ 0
  pub literals : r.literals.items ≡ []
  pub lost : r.lost.items ≡ []

-- the number of the kept clause stands for it
abbrev pub IsNamed : Premises → Repeated → Type 0
IsNamed from r = 0 < r.number → clause_named from r.number ≡ Some r.literals.items

-- the same clause is kept
pub record HasSame (before after : Repeated) : Type 0 where
  pub number : after.number ≡ before.number
  pub literals : after.literals.items ≡ before.literals.items
  pub set : after.held ≡ before.held

-- a clause is kept that was joined without a literal
pub record HasKept (n k : ℕ) (clause : List ℤ) (but : ℤ) (r : Repeated) : Type 0 where
  pub number : r.number ≡ k
  pub literals : r.literals.items ≡ clause
  pub set : IsSetOf n clause r.held
  pub lost : r.lost.items ≡ but ∷ []

-- each literal of the one clause but one is in the other
abbrev pub KeepsBut : ℕ → ℤ → Work → Work → Type 0
KeepsBut n t w v = (l : ℤ) → is_literal n l ≡ true → has_literal w.flags l ≡ true → (l ≡ t) ⊎ (has_literal v.flags l ≡ true)
