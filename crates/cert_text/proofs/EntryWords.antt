-- Lines with too many words for an entry.
use Rattle.std.proofs.Common.{◌≡◌, ℕ, zero, suc, ◌-◌, ◌≤◌, true, List, [], ◌∷◌, length, map, refl, arith, Option, None, is_some}
use Rattle.std.specs.Prelude.{slice_get}
use Rattle.line_text.specs.LastVars.{last_or}
use Rattle.std.specs.Borrow.{Bor}
use Rattle.lk_model.specs.Texts.Lines.{Word}
use Rattle.line_text.specs.Fields.{rest_fields}
use Rattle.line_text.proofs.Words.{many}
use Rattle.cert_text.specs.Entries.{pair_within}

pub pair_many : (last n m : ℕ) (x y z : Word) (words : List Word) (o : Option (Bor (List ℕ))) → words ≡ x ∷ y ∷ z ∷ rest_fields o → is_some o ≡ true → None ≡ pair_within last n m words
pair_many last n m x y z words o e t = many (pair_within last n m) (x ∷ y ∷ z ∷ []) words o e t (λ word more. refl)

-- where no item is the last one, there is none
pub none_read : {X : Type 0} (key : X → ℕ) (xs : List X) → slice_get xs (length xs - 1) ≡ None → 0 ≡ last_or 0 (map key xs)
none_read key [] h = refl
none_read key (x ∷ xs) h = absurd (some_at x xs (suc (length xs) - 1) (omega arith) h)
  where
    some_at : {X : Type 0} (x : X) (xs : List X) (k : ℕ) → k ≤ length xs → slice_get (x ∷ xs) k ≡ None → ⊥
    some_at x xs zero few h = cc
    some_at x [] (suc k) few h = omega (arith, few)
    some_at x (y ∷ xs) (suc k) few h = some_at y xs k (omega (arith, few)) h
