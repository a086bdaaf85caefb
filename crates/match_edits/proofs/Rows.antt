-- Lists that grow at the end, and lists that lose an item.
use Rattle.std.proofs.Common.{◌≡◌, ◌≢◌, ℕ, zero, suc, ◌+◌, ◌-◌, ◌<◌, ◌≤◌, Bool, true, false, cond, not, ◌==◌, nat_lt, List, [], ◌∷◌, ◌++◌, length, take, get_or, refl, sym, ◌∙◌, ap, arith, filter, length-append}
use Rattle.std.specs.List.{remove}
use Rattle.std.proofs.Math.ListN.{set}
use Rattle.std.proofs.Math.Seq.{take-append_seam}
use Rattle.std.proofs.lemmas.Bool.{lt-ltb, le-leb, leb-true, ltb-false, eqb-true, eq-eqb, both_ways}
use Rattle.std.proofs.lemmas.List.Edits.{get_or-remove_below, get_or-remove_above}
use Rattle.lk_model.specs.Lists.{rises_within}
use Rattle.lk_model.proofs.Rising.{rises, rising_bounds}

-- ONE MORE

-- a greater number at the end
pub rises_push : (low high n top : ℕ) (xs : List ℕ) → rises_within low high xs ≡ true → low ≤ high → high < n → n ≤ top → rises_within low top (xs ++ n ∷ []) ≡ true
rises_push low high n top [] r l h t = rw (lt-ltb low n (omega (arith, l, h)), le-leb n top t) refl
rises_push low high n top (x ∷ xs) r l h t =
    let s = rises low high x xs r in let w = s.within in
    rw (lt-ltb low x s.above, le-leb x top (omega (arith, w, h, t)), rises_push x high n top xs s.more s.within h t) refl

-- the last item is taken off again
pub popped : {X : Type 0} (xs : List X) (x : X) → take (length (xs ++ x ∷ []) - 1) (xs ++ x ∷ []) ≡ xs
popped xs x =
    let n : length (xs ++ x ∷ []) - 1 ≡ length xs = let e = length-append xs (x ∷ []) in omega (arith, e) in
    ap (λ (k : ℕ). take k (xs ++ x ∷ [])) n ∙ take-append_seam xs (x ∷ [])

-- ONE LESS

pub length_remove : (xs : List ℕ) (i : ℕ) → i < length xs → length (remove xs i) + 1 ≡ length xs
length_remove [] i l = absurd (omega (arith, l))
length_remove (x ∷ xs) zero l = omega arith
length_remove (x ∷ xs) (suc i) l = let e = length_remove xs i (omega (arith, l)) in omega (arith, e)

-- a list without a number that is below all of it
kept_above : (low high k : ℕ) (xs : List ℕ) → rises_within low high xs ≡ true → k ≤ low → filter (λ n. not (n == k)) xs ≡ xs
kept_above low high k [] r l = refl
kept_above low high k (x ∷ xs) r l = let s = rises low high x xs r in let a = s.above in at_test (x == k) refl a (kept_above x high k xs s.more (omega (arith, a, l)))
  where
    at_test : (b : Bool) → (x == k) ≡ b → low < x → filter (λ n. not (n == k)) xs ≡ xs → cond (not b) (x ∷ filter (λ n. not (n == k)) xs) (filter (λ n. not (n == k)) xs) ≡ x ∷ xs
    at_test true e a h = absurd (let f = eqb-true x k e in omega (arith, f, a, l))
    at_test false e a h = ap (λ (ys : List ℕ). x ∷ ys) h

-- a list that rises has a number once
pub filter_remove : (low high k : ℕ) (xs : List ℕ) (i : ℕ) → rises_within low high xs ≡ true → i < length xs → get_or xs i 0 ≡ k → filter (λ n. not (n == k)) xs ≡ remove xs i
filter_remove low high k [] i r l e = absurd (omega (arith, l))
filter_remove low high k (x ∷ xs) zero r l e = let s = rises low high x xs r in at_test (x == k) refl (kept_above x high k xs s.more (let f = sym e in omega (arith, f)))
  where
    at_test : (b : Bool) → (x == k) ≡ b → filter (λ n. not (n == k)) xs ≡ xs → cond (not b) (x ∷ filter (λ n. not (n == k)) xs) (filter (λ n. not (n == k)) xs) ≡ xs
    at_test true t h = h
    at_test false t h = absurd (both_ways (x == k) t (eq-eqb x k e))
filter_remove low high k (x ∷ xs) (suc i) r l e =
    let s = rises low high x xs r in let b = (rising_bounds x high xs i s.more (omega (arith, l))).0 in
    at_test (x == k) refl (omega (arith, b, e)) (filter_remove x high k xs i s.more (omega (arith, l)) e)
  where
    at_test : (b : Bool) → (x == k) ≡ b → x < k → filter (λ n. not (n == k)) xs ≡ remove xs i → cond (not b) (x ∷ filter (λ n. not (n == k)) xs) (filter (λ n. not (n == k)) xs) ≡ x ∷ remove xs i
    at_test true t a h = absurd (let f = eqb-true x k t in omega (arith, f, a))
    at_test false t a h = ap (λ (ys : List ℕ). x ∷ ys) h

-- where an index was before, in two lists that lose the item at index i
pub record WasAt (part cl : List ℕ) (i j : ℕ) : Type 0 where
  pub was : ℕ
  pub other : was ≢ i
  pub inside : j < length (remove part i) → was < length part
  pub part_is : get_or (remove part i) j 0 ≡ get_or part was 0
  pub clause_is : get_or (remove cl i) j 0 ≡ get_or cl was 0

pub was_at : (part cl : List ℕ) (i j : ℕ) → i < length part → i < length cl → WasAt part cl i j
was_at part cl i j l k = at_test (nat_lt j i) refl
  where
    at_test : (b : Bool) → nat_lt j i ≡ b → WasAt part cl i j
    at_test true e = let low = leb-true (suc j) i e in record {
      was = j;
      other = λ s. omega (arith, s, low);
      inside = λ h. omega (arith, low, l);
      part_is = get_or-remove_below part i 0 j low l;
      clause_is = get_or-remove_below cl i 0 j low k;
    }
    at_test false e = let high = ltb-false j i e in record {
      was = j + 1;
      other = λ s. omega (arith, s, high);
      inside = λ h. let c = length_remove part i l in omega (arith, h, c);
      part_is = get_or-remove_above part i 0 j high l;
      clause_is = get_or-remove_above cl i 0 j high k;
    }

-- and where another index is then
pub record IsAt (part cl : List ℕ) (i w : ℕ) : Type 0 where
  pub now : ℕ
  pub inside : w < length part → now < length (remove part i)
  pub part_is : get_or (remove part i) now 0 ≡ get_or part w 0
  pub clause_is : get_or (remove cl i) now 0 ≡ get_or cl w 0

pub is_at : (part cl : List ℕ) (i w : ℕ) → i < length part → i < length cl → w ≢ i → IsAt part cl i w
is_at part cl i w l k ne = at_test (nat_lt w i) refl
  where
    at_test : (b : Bool) → nat_lt w i ≡ b → IsAt part cl i w
    at_test true e = let low = leb-true (suc w) i e in record {
      now = w;
      inside = λ h. let c = length_remove part i l in omega (arith, low, l, c);
      part_is = get_or-remove_below part i 0 w low l;
      clause_is = get_or-remove_below cl i 0 w low k;
    }
    at_test false e =
        let high = ltb-false w i e in
        let back : w - 1 + 1 ≡ w = omega (arith, high, ne) in
        let above : i ≤ w - 1 = omega (arith, high, ne) in
        record {
          now = w - 1;
          inside = λ h. let c = length_remove part i l in omega (arith, h, c, high, ne);
          part_is = get_or-remove_above part i 0 (w - 1) above l ∙ ap (λ x. get_or part x 0) back;
          clause_is = get_or-remove_above cl i 0 (w - 1) above k ∙ ap (λ x. get_or cl x 0) back;
        }

-- ANOTHER ITEM

-- an item is put back
pub set_back : (xs : List ℕ) (k x y : ℕ) → k < length xs → get_or xs k 0 ≡ x → set (set xs k y) k x ≡ xs
set_back [] k x y l e = absurd (omega (arith, l))
set_back (z ∷ xs) zero x y l e = ap (λ (n : ℕ). n ∷ xs) (sym e)
set_back (z ∷ xs) (suc k) x y l e = ap (λ (ys : List ℕ). z ∷ ys) (set_back xs k x y (omega (arith, l)) e)
