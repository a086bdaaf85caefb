-- The order in which variables are decided, and how far they are set.
use Rattle.std.specs.Prelude.{◌≡◌, ℕ, ◌<◌, ◌≤◌, Bool, not, ◌&&◌, List, take, length, ℤ, is_some, nat_le, nat_lt, slice_index_or, IsTrue}
use Rattle.std.specs.List.{list_all}
use Rattle.lk_model.specs.Lists.{among}
use Rattle.lk_model.specs.Formulas.Literal.{variable, contains}
use Rattle.lk_model.specs.Held.VariableSets.{is_in}
use Rattle.lk_model.specs.declared.crossed.Crossed.{Crossed}
use Rattle.watch_prop.specs.declared.entry.Entry.{Entry}
use Rattle.watch_prop.specs.Trail.{present_level, up_to_level, assignment_along}
use Rattle.learning_laws.specs.ModelLaw.{clause_over}
use Rattle.cdcl_core.specs.declared.order.Order.{Order}

-- a variable of the formula that is not blocked
abbrev pub may_decide : Crossed → ℕ → Bool
may_decide over v = nat_lt 0 v && nat_le v over.formula.now.vars && not (is_in over.blocked.now v)

-- variables of the formula that are not blocked, among them each that occurs in a crossed clause
pub record AreVariablesOver (over : Crossed) (vars : List ℕ) : Type 0 where
  pub within : IsTrue (list_all (may_decide over) vars)
  pub all : (position : ℕ) (l : ℤ) → IsTrue (among over.part.now position) → IsTrue (contains (clause_over over position) l)
      → IsTrue (among vars (variable l))

-- numbers of variables from 1 to n
abbrev pub are_within : ℕ → List ℕ → Bool
are_within n vars = list_all (λ v. nat_lt 0 v && nat_le v n) vars

-- all are set
abbrev pub are_set : List Entry → List ℕ → Bool
are_set trail vars = list_all (λ v. is_some (assignment_along trail v)) vars

-- the first `place` ones are set
pub record IsSetTo (trail : List Entry) (vars : List ℕ) (place : ℕ) : Type 0 where
  pub within : place ≤ length vars
  pub set : IsTrue (are_set trail (take place vars))

abbrev pub place_at : List ℕ → ℕ → ℕ
place_at opened level = slice_index_or opened level 0

-- The variables before the place are set, and those before the place of a level below the present one up to that level.
pub record IsPlacedAt (trail : List Entry) (order : Order) : Type 0 where
  pub here : IsSetTo trail order.vars.items order.place
  pub levels : length order.opened.items ≡ present_level trail
  pub below : (level : ℕ) → level < present_level trail → IsSetTo (up_to_level level trail) order.vars.items (place_at order.opened.items level)
