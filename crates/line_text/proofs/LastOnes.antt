-- The last of some items, and items after others.
use Rattle.std.proofs.Common.{◌≡◌, ℕ, zero, suc, ◌-◌, ◌<◌, ◌≤◌, ◌∙◌, true, ◌&&◌, Bool, List, [], ◌∷◌, ◌++◌, length, map, refl, sym, ap, arith, Some}
use Rattle.std.specs.Prelude.{slice_get}
use Rattle.std.specs.List.{list_all}
use Rattle.std.proofs.lemmas.Bool.{le-leb, lt-ltb, and_from}
use Rattle.std.proofs.lemmas.List.{map-append}
use Rattle.std.proofs.lemmas.List.Folds.{list_all-append}
use Rattle.lk_model.specs.Lists.{rises_within}
use Rattle.lk_model.proofs.Booleans.{and_true}
use Rattle.lk_model.proofs.Rising.{rises}
use Rattle.line_text.specs.LastVars.{last_or}

-- the last item of a list has the last number
last_at : {X : Type 0} (key : X → ℕ) (low k : ℕ) (xs : List X) (x : X) → length xs ≡ suc k → slice_get xs k ≡ Some x → key x ≡ last_or low (map key xs)
last_at key low k [] x e h = absurd (let f : ⊥ = cc in f)
last_at key low zero (y ∷ []) x e h = let same : x ≡ y = cc in ap key same
last_at key low zero (y ∷ z ∷ xs) x e h = absurd (omega (arith, e))
last_at key low (suc k) (y ∷ xs) x e h = last_at key (key y) k xs x (omega (arith, e)) h

pub last_read : {X : Type 0} (key : X → ℕ) (xs : List X) (x : X) → slice_get xs (length xs - 1) ≡ Some x → key x ≡ last_or 0 (map key xs)
last_read key [] x h = absurd (let f : ⊥ = cc in f)
last_read key (y ∷ xs) x h = last_at key 0 (suc (length xs) - 1) (y ∷ xs) x (omega arith) h

-- the last number of a list with one more
pub last_or_more : (low n : ℕ) (ns : List ℕ) → last_or low (ns ++ n ∷ []) ≡ n
last_or_more low n [] = refl
last_or_more low n (k ∷ ns) = last_or_more k n ns

pub last_more : {X : Type 0} (key : X → ℕ) (low : ℕ) (xs : List X) (x : X) → last_or low (map key (xs ++ x ∷ [])) ≡ key x
last_more key low xs x = ap (last_or low) (map-append key xs (x ∷ [])) ∙ last_or_more low (key x) (map key xs)

-- one more number after numbers that rise
pub rises_last : (low high n : ℕ) (ns : List ℕ) → rises_within low high (ns ++ n ∷ []) ≡ true → (last_or low ns < n) × (n ≤ high)
rises_last low high n [] h = let r = rises low high n [] h in (r.above, r.within)
rises_last low high n (k ∷ ns) h = let r = rises low high k (ns ++ n ∷ []) h in rises_last k high n ns r.more

pub last_rises : (low high n : ℕ) (ns : List ℕ) → rises_within low high ns ≡ true → last_or low ns < n → n ≤ high → rises_within low high (ns ++ n ∷ []) ≡ true
last_rises low high n [] h above within = rw (lt-ltb low n above, le-leb n high within) refl
last_rises low high n (k ∷ ns) h above within =
    let r = rises low high k ns h in
    rw (lt-ltb low k r.above, le-leb k high r.within, last_rises k high n ns r.more above within) refl

pub rises_front : (low high : ℕ) (ms ns : List ℕ) → rises_within low high (ms ++ ns) ≡ true → rises_within low high ms ≡ true
rises_front low high [] ns h = refl
rises_front low high (m ∷ ms) ns h =
    let r = rises low high m (ms ++ ns) h in
    rw (lt-ltb low m r.above, le-leb m high r.within, rises_front m high ms ns r.more) refl

-- the last of numbers that rise is at least the first argument
pub last_above : (low high : ℕ) (ns : List ℕ) → rises_within low high ns ≡ true → low ≤ last_or low ns
last_above low high [] h = omega arith
last_above low high (n ∷ ns) h = let r = rises low high n ns h in omega (arith, r.above, last_above n high ns r.more)

-- LISTED ITEMS

-- items whose numbers rise from above a lowest one up to a highest one, and that pass a test
abbrev pub are_listed : {X : Type 0} → (X → ℕ) → (X → Bool) → ℕ → ℕ → List X → Bool
are_listed key test low high xs = rises_within low high (map key xs) && list_all test xs

-- one more such item
pub record IsMore {X : Type 0} (key : X → ℕ) (test : X → Bool) (low high : ℕ) (xs : List X) (x : X) : Type 0 where
  pub above : last_or low (map key xs) < key x
  pub within : key x ≤ high
  pub form : test x ≡ true

pub listed_more : {X : Type 0} (key : X → ℕ) (test : X → Bool) (low high : ℕ) (xs : List X) (x : X) → are_listed key test low high xs ≡ true → IsMore key test low high xs x
    → are_listed key test low high (xs ++ x ∷ []) ≡ true
listed_more key test low high xs x h m =
    let both = and_true (rises_within low high (map key xs)) (list_all test xs) h in
    and_from (rises_within low high (map key (xs ++ x ∷ []))) (list_all test (xs ++ x ∷ []))
    (ap (rises_within low high) (map-append key xs (x ∷ [])) ∙ last_rises low high (key x) (map key xs) both.0 m.above m.within)
    (list_all-append test xs (x ∷ []) ∙ rw (both.1, m.form) refl)

pub listed_last : {X : Type 0} (key : X → ℕ) (test : X → Bool) (low high : ℕ) (xs : List X) (x : X) → are_listed key test low high (xs ++ x ∷ []) ≡ true → IsMore key test low high xs x
listed_last key test low high xs x h =
    let both = and_true (rises_within low high (map key (xs ++ x ∷ []))) (list_all test (xs ++ x ∷ [])) h in
    let rise = rises_last low high (key x) (map key xs) (ap (rises_within low high) (sym (map-append key xs (x ∷ []))) ∙ both.0) in
    let tests = and_true (list_all test xs) (list_all test (x ∷ [])) (sym (list_all-append test xs (x ∷ [])) ∙ both.1) in
    record { above = rise.0; within = rise.1; form = (and_true (test x) true tests.1).0 }

pub listed_front : {X : Type 0} (key : X → ℕ) (test : X → Bool) (low high : ℕ) (xs ys : List X) → are_listed key test low high (xs ++ ys) ≡ true → are_listed key test low high xs ≡ true
listed_front key test low high xs ys h =
    let both = and_true (rises_within low high (map key (xs ++ ys))) (list_all test (xs ++ ys)) h in
    and_from (rises_within low high (map key xs)) (list_all test xs)
    (rises_front low high (map key xs) (map key ys) (ap (rises_within low high) (sym (map-append key xs ys)) ∙ both.0))
    (and_true (list_all test xs) (list_all test ys) (sym (list_all-append test xs ys) ∙ both.1)).0

pub tested_last : {X : Type 0} (test : X → Bool) (xs : List X) (x : X) → list_all test (xs ++ x ∷ []) ≡ true → test x ≡ true
tested_last test xs x h = (and_true (test x) true (and_true (list_all test xs) (list_all test (x ∷ [])) (sym (list_all-append test xs (x ∷ [])) ∙ h)).1).0

pub tested_front : {X : Type 0} (test : X → Bool) (xs ys : List X) → list_all test (xs ++ ys) ≡ true → list_all test xs ≡ true
tested_front test xs ys h = (and_true (list_all test xs) (list_all test ys) (sym (list_all-append test xs ys) ∙ h)).0
