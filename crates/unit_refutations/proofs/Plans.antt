-- What waits is inside.
use Rattle.std.proofs.Common.{◌≡◌, ◌∙◌, ◌==◌, ℕ, ◌<◌, ◌≤◌, Bool, true, List, length}
use Rattle.std.specs.List.{list_all}
use Rattle.lk_model.specs.Held.VariableSets.{is_in, with_variable}
use Rattle.lk_model.proofs.Booleans.{or_left}
use Rattle.lk_model.proofs.ListTests.{all_weaker}
use Rattle.lk_model.proofs.VariableLists.{is_in_with}

-- and stays so where one more is inside
pub more_inside : (flags : List Bool) (waiting : List ℕ) (p : ℕ) → 0 < p → p ≤ length flags → list_all (is_in flags) waiting ≡ true
    → list_all (is_in (with_variable flags p)) waiting ≡ true
more_inside flags waiting p first last h =
    all_weaker (is_in flags) (is_in (with_variable flags p)) (λ q e. is_in_with flags p q first last ∙ or_left (is_in flags q) (p == q) e) waiting h
