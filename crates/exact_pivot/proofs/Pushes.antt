-- Lists that grow by one element after another.
use Rattle.std.proofs.Common.{◌≡◌, ℕ, zero, suc, ◌+◌, ◌-◌, ◌<◌, ◌≤◌, Bool, true, false, ltb, unsigned_abs, List, [], ◌∷◌, ◌++◌, map, zip, take, length, get_or, ℤ, pos, refl, sym, ap, subst, ◌∙◌, length-append, arith}
use Rattle.std.proofs.lemmas.List.{append_assoc, get_or_past, map_more}
use Rattle.std.proofs.lemmas.Bool.{ltb-true, ltb-false}
use Rattle.std.proofs.lemmas.List.Elements.{All-append, All-cons, All-nil}
use Rattle.std.specs.List.{All, range_with_len}
use Rattle.lk_model.specs.Linear.Rows.{entry}
use Rattle.exact_pivot.specs.Small.{AreSmall}

-- one more of what a function gives along a list
pub push_step : {X Y : Type 0} (f : X → Y) (xs : List X) (ys before : List Y) (i : ℕ) (y : Y) (d : X) → i < length xs → before ≡ ys ++ map f (take i xs) → y ≡ f (get_or xs i d)
    → before ++ y ∷ [] ≡ ys ++ map f (take (i + 1) xs)
push_step f xs ys before i y d h e g =
    (λ j. e j ++ g j ∷ []) ∙ append_assoc ys (map f (take i xs)) (f (get_or xs i d) ∷ []) ∙ ap (λ zs. ys ++ zs) (sym (map_more f xs i d h))

-- one more of a kind
pub count_pushed : {X : Type 0} (xs after : List X) (x : X) (n : ℕ) → after ≡ xs ++ x ∷ [] → length xs ≡ n → length after ≡ n + 1
count_pushed xs after x n e size = ap (λ ys. length ys) e ∙ length-append xs (x ∷ []) ∙ ap (λ k. k + 1) size

pub all_pushed : {X : Type 0} (P : X → Type 0) (xs after : List X) (x : X) → after ≡ xs ++ x ∷ [] → All P xs → P x → All P after
all_pushed P xs after x e all here = subst (All P) (sym e) (All-append P xs (x ∷ []) all (All-cons P x [] here (All-nil P)))

-- a variable with its number
pub zip_get : (vs : List ℕ) (a i : ℕ) → i < length vs → get_or (zip (range_with_len a (length vs)) vs) i (0, 0) ≡ (a + i, get_or vs i 0)
zip_get [] a i h = absurd (omega (arith, h))
zip_get (v ∷ vs) a zero h = ap (λ n. (n, v)) (let same : a ≡ a + 0 = omega arith in same)
zip_get (v ∷ vs) a (suc i) h = zip_get vs (a + 1) i (omega (arith, h)) ∙ ap (λ n. (n, get_or vs i 0)) (let same : a + 1 + i ≡ a + suc i = omega arith in same)

pub zip_count : (vs : List ℕ) (a : ℕ) → length (zip (range_with_len a (length vs)) vs) ≡ length vs
zip_count [] a = refl
zip_count (v ∷ vs) a = ap suc (zip_count vs (a + 1))

-- an entry of a row of small numbers
pub small_entry : (xs : List ℤ) (k : ℕ) → AreSmall xs → unsigned_abs (entry xs k) ≤ 4_000_000
small_entry xs k small = by_place (ltb (k - 1) (length xs)) refl
  where
    by_place : (b : Bool) → ltb (k - 1) (length xs) ≡ b → unsigned_abs (entry xs k) ≤ 4_000_000
    by_place true e = small (k - 1) (pos 0) (ltb-true (k - 1) (length xs) e)
    by_place false e = rw (get_or_past xs (k - 1) (pos 0) (ltb-false (k - 1) (length xs) e)) (omega arith)
