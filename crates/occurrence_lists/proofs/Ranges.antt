-- Ranges of a list of which one number is written.
use Rattle.std.proofs.Common.{◌≡◌, ℕ, ◌+◌, ◌-◌, ◌<◌, ◌≤◌, ◌∙◌, List, [], ◌∷◌, ◌++◌, length, take, drop, set, ap, arith, length-take, length-drop}
use Rattle.std.specs.Prelude.{slice_range}
use Rattle.std.proofs.lemmas.List.{drop-set-lt, drop-set-add, take-set-le, take_more_set, drop-drop}
use Rattle.std.proofs.Math.Seq.{take-add}

pub range_length : (ps : List ℕ) (start end : ℕ) → end ≤ length ps → length (slice_range ps start end) ≡ end - start
range_length ps start end h = omega (arith, length-take (end - start) (drop start ps), length-drop start ps, h)

pub range_none : (ps : List ℕ) (start : ℕ) → slice_range ps start start ≡ []
range_none ps start = let none : start - start ≡ 0 = omega arith in ap (λ (n : ℕ). take n (drop start ps)) none

-- a number before the range
pub range_before : (ps : List ℕ) (start end i p : ℕ) → i < start → slice_range (set ps i p) start end ≡ slice_range ps start end
range_before ps start end i p h = ap (take (end - start)) (drop-set-lt start ps i p h)

-- what is left of the list from a place on, where a number after it is written
drop_written : (ps : List ℕ) (start i p : ℕ) → start ≤ i → drop start (set ps i p) ≡ set (drop start ps) (i - start) p
drop_written ps start i p h =
    let place : i ≡ start + (i - start) = omega (arith, h) in
    ap (λ (n : ℕ). drop start (set ps n p)) place ∙ drop-set-add start ps (i - start) p

-- a number after the range
pub range_behind : (ps : List ℕ) (start end i p : ℕ) → start ≤ end → end ≤ i → slice_range (set ps i p) start end ≡ slice_range ps start end
range_behind ps start end i p low high =
    ap (take (end - start)) (drop_written ps start i p (omega (arith, low, high))) ∙ take-set-le (end - start) (drop start ps) (i - start) p (omega (arith, low, high))

-- a number at its end
pub range_more : (ps : List ℕ) (start end p : ℕ) → start ≤ end → end < length ps → slice_range (set ps end p) start (end + 1) ≡ slice_range ps start end ++ p ∷ []
range_more ps start end p low high =
    let size : end + 1 - start ≡ (end - start) + 1 = omega (arith, low) in
    let within : end - start < length (drop start ps) = omega (arith, length-drop start ps, low, high) in
    ap (λ (n : ℕ). take n (drop start (set ps end p))) size
    ∙ ap (take ((end - start) + 1)) (drop_written ps start end p low)
    ∙ take_more_set (drop start ps) (end - start) p within

-- two ranges, one after the other
pub range_split : (ps : List ℕ) (start mid end : ℕ) → start ≤ mid → mid ≤ end → slice_range ps start end ≡ slice_range ps start mid ++ slice_range ps mid end
range_split ps start mid end low high =
    let size : end - start ≡ (mid - start) + (end - mid) = omega (arith, low, high) in
    let place : start + (mid - start) ≡ mid = omega (arith, low) in
    ap (λ (n : ℕ). take n (drop start ps)) size
    ∙ take-add (mid - start) (end - mid) (drop start ps)
    ∙ ap (λ (us : List ℕ). take (mid - start) (drop start ps) ++ take (end - mid) us) (drop-drop (mid - start) start ps ∙ ap (λ (n : ℕ). drop n ps) place)
