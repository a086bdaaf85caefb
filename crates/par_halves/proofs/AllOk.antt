-- What all answers found, place by place.
use Rattle.std.proofs.Common.{◌≡◌, ◌∙◌, ℕ, ◌<◌, List, length, get_or, map, Ok, Result, IfOk, ap}
use Rattle.std.proofs.lemmas.Result.{IfOk-at_ok}
use Rattle.std.proofs.lemmas.List.{get_or-map, length-map}

module _ {X E : Type 0} {answers : List (Result X E)} (found : List X) (are : answers ≡ map Ok found) where
  pub ok_count : length answers ≡ length found
  ok_count = ap (λ (rs : List (Result X E)). length rs) are ∙ length-map {B = Result X E} found Ok

  pub ok_at : (P : X → Type 0) (k : ℕ) (d : X) → k < length found → IfOk (get_or answers k (Ok d)) P → P (get_or found k d)
  ok_at P k d lt =
      IfOk-at_ok P (ap (λ (rs : List (Result X E)). get_or rs k (Ok d)) are ∙ get_or-map {Y = Result X E} Ok found k d (Ok d) lt)
