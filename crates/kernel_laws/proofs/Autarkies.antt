-- Laws of the definitions alone.
use Rattle.std.proofs.Common.{ℕ, not, ◌&&◌, List, [], ◌∷◌, ℤ, IsTrue}
use Rattle.lk_model.specs.declared.class.Class.{Class}
use Rattle.lk_model.specs.declared.class.Class.TheVariants.{Pure, Matching, Linear, General}
use Rattle.lk_model.specs.Formulas.Formula.{Cnf, clause_at}
use Rattle.lk_model.specs.Formulas.Assignment.{Assignment, touches}
use Rattle.lk_model.specs.Formulas.Autarky.{Positions, Within, IsClassAutarky, HasEarlier}
use Rattle.lk_model.specs.Formulas.Lean.{IsLean}

HasEarlier-within : (F : Cnf) (S T : Positions) → Within T S → (earlier order : List ℤ) → HasEarlier F S earlier order → HasEarlier F T earlier order
HasEarlier-within F S T w earlier [] h = tt
HasEarlier-within F S T w earlier (l ∷ order) h = (λ p t k. h.0 p (w p t) k, HasEarlier-within F S T w (l ∷ earlier) order h.1)

-- an autarky of a class on a set is one on every subset of it
pub autarky-within : (class : Class) (F : Cnf) (S T : Positions) (φ : Assignment) → Within T S → IsClassAutarky class F S φ → IsClassAutarky class F T φ
autarky-within Pure F S T φ w a = record {
  order = a.order;
  once = a.once;
  true_literals = a.true_literals;
  earlier = HasEarlier-within F S T w [] a.order a.earlier;
}
autarky-within Matching F S T φ w a = record {
  own = a.own;
  is_true = λ p t. a.is_true p (w p t);
  differ = λ p q t u. a.differ p q (w p t) (w q u);
}
autarky-within Linear F S T φ w a = record {
  weightings = a.weightings;
  signs = a.signs;
  balances = λ p t. a.balances p (w p t);
}
autarky-within General F S T φ w a = λ p t. a p (w p t)

-- so an autarky on a set that touches a position forbids a lean subset with it
pub untouched_by : (class : Class) (F : Cnf) (S T : Positions) (φ : Assignment) → Within T S → IsClassAutarky class F S φ → IsLean class F T
    → (p : ℕ) → IsTrue (T p) → IsTrue (touches φ (clause_at F p)) → ⊥
untouched_by class F S T φ w a lean = lean φ (autarky-within class F S T φ w a)

-- the positions of S that an assignment does not touch
unfoldable pub untouched_in : Cnf → Positions → Assignment → Positions
untouched_in F S φ q = S q && not (touches φ (clause_at F q))
