-- The weights of a stage in form.
use Rattle.std.proofs.Common.{◌≡◌, ℕ, ◌<◌, ◌≤◌, true, List, length, get_or, map, arith}
use Rattle.std.specs.List.{list_all}
use Rattle.std.proofs.lemmas.List.{get_or-map, length-map}
use Rattle.lk_model.specs.Lists.{is_nonzero, rises_within}
use Rattle.lk_model.specs.Limits.{is_in_range}
use Rattle.lk_model.specs.Documents.Form.{is_weight}
use Rattle.lk_model.specs.declared.document.Weight.{Weight}
use Rattle.lk_model.proofs.Booleans.{and_true}
use Rattle.lk_model.proofs.ListTests.{all_at}
use Rattle.lk_model.proofs.Rising.{rising_bounds}

-- its variable is one of the formula, and its number is not 0
pub record IsWeightWithin (n : ℕ) (w : Weight) : Type 0 where
  pub first : 1 ≤ w.var
  pub last : w.var ≤ n
  pub nonzero : is_nonzero w.x ≡ true
  pub range : is_in_range w.x ≡ true

pub weight_within : (n : ℕ) (weights : List Weight) (i : ℕ) (d : Weight)
    → rises_within 0 n (map (λ (w : Weight). w.var) weights) ≡ true → list_all (λ (w : Weight). is_weight w.x) weights ≡ true
    → i < length weights
    → IsWeightWithin n (get_or weights i d)
weight_within n weights i d rising all lt =
    let b = rising_bounds 0 n (map (λ (w : Weight). w.var) weights) i rising (omega (arith, lt, length-map weights (λ (w : Weight). w.var))) in
    let at = get_or-map (λ (w : Weight). w.var) weights i d 0 lt in
    let parts = and_true (is_nonzero (get_or weights i d).x) (is_in_range (get_or weights i d).x) (all_at (λ (w : Weight). is_weight w.x) weights i d all lt) in
    record { first = omega (arith, b.0, at); last = omega (arith, b.1, at); nonzero = parts.0; range = parts.1 }
