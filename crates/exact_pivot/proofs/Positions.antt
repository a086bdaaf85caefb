-- Positions that rise, and sums over them.
use Rattle.std.proofs.Common.{◌≡◌, ℕ, zero, suc, ◌+◌, ◌<◌, ◌≤◌, Bool, true, false, ◌&&◌, nat_lt, nat_le, List, [], ◌∷◌, map, drop, length, get_or, ℤ, ◌+ℤ◌, ◌-ℤ◌, refl, ap, arith, drop-cons}
use Rattle.std.proofs.lemmas.Bool.{leb-true, ltb-true}
use Rattle.std.proofs.lemmas.Int.{ints}
use Rattle.lk_model.specs.Lists.{rises_within, sum_of}

both_true : (a b : Bool) → a && b ≡ true → (a ≡ true) × (b ≡ true)
both_true true b e = (refl, e)
both_true false b e = cc

pub record IsPlace (low high n : ℕ) : Type 0 where
  pub above : low < n
  pub most : n ≤ high

pub rises_at : (low high : ℕ) (ns : List ℕ) (i : ℕ) → rises_within low high ns ≡ true → i < length ns → IsPlace low high (get_or ns i 0)
rises_at low high [] i e h = absurd (omega arith)
rises_at low high (n ∷ ns) zero e h =
    let both = both_true (nat_lt low n && nat_le n high) (rises_within n high ns) e in
    let first = both_true (nat_lt low n) (nat_le n high) both.0 in
    record { above = ltb-true low n first.0; most = leb-true n high first.1 }
rises_at low high (n ∷ ns) (suc i) e h =
    let both = both_true (nat_lt low n && nat_le n high) (rises_within n high ns) e in
    let first = both_true (nat_lt low n) (nat_le n high) both.0 in
    let later = rises_at n high ns i both.1 (omega arith) in
    record { above = (let l = ltb-true low n first.0 in omega (arith, l, later.above)); most = later.most }

-- a sum that is taken from a number, one after another
pub less_step : {X : Type 0} (f : X → ℤ) (ns : List X) (i : ℕ) (d : X) (x y z all : ℤ) → i < length ns → y ≡ x -ℤ z → z ≡ f (get_or ns i d)
    → x -ℤ sum_of (map f (drop i ns)) ≡ all → y -ℤ sum_of (map f (drop (i + 1) ns)) ≡ all
less_step f ns i d x y z all h g k e =
    let step : i + 1 ≡ suc i = omega arith in
    let rest : sum_of (map f (drop i ns)) ≡ f (get_or ns i d) +ℤ sum_of (map f (drop (suc i) ns)) = ap (λ ms. sum_of (map f ms)) (drop-cons ns i d h) in
    rw step (omega (arith, ints, e, rest, g, k))
