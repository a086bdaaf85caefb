-- Tables of the literals that have the signs of weights.
use Rattle.std.specs.Prelude.{◌≡◌, ◌≤◌, ◌-◌, ℕ, ◌==◌, List, length, find, ℤ, pos, int_lt, Option, Some, None, slice_index_or}
use Rattle.std.specs.Option.{option_map_or}
use Rattle.lk_model.specs.Formulas.Literal.{literal_of}
use Rattle.lk_model.specs.declared.document.Weight.{Weight}
use Rattle.lk_model.specs.declared.document.Stage.{Stage}
use Rattle.linear_run_laws.specs.RunLaw.{sign_literal}

-- the literal of a weight, which has its sign
abbrev pub weight_literal : Weight → ℤ
weight_literal w = literal_of w.var (int_lt (pos 0) w.x)

-- each variable has the literal with the sign of the first stage that is not 0 on it, where there is one
pub record AreSigns (n : ℕ) (stages : List Stage) (table : List (Option ℤ)) : Type 0 where
  pub size : length table ≡ n
  pub told : (v : ℕ) → 1 ≤ v → v ≤ n → slice_index_or table (v - 1) None ≡ sign_literal stages v

-- the variables of some weights have the literals of these, and the others what they had
pub record NotesSigns (n : ℕ) (weights : List Weight) (before after : List (Option ℤ)) : Type 0 where
  pub size : length after ≡ length before
  pub noted : (v : ℕ) → 1 ≤ v → v ≤ n → slice_index_or after (v - 1) None
      ≡ option_map_or (λ (w : Weight). Some (weight_literal w)) (find (λ (w : Weight). w.var == v) weights) (slice_index_or before (v - 1) None)
