-- Numbers told anew by a list that rises: the first ones by what stands there, those past it after all others.
use Rattle.std.proofs.Common.{◌≡◌, ℕ, zero, suc, ◌+◌, ◌-◌, ◌<◌, ◌≤◌, true, cond, nat_lt, nat_le, List, [], ◌∷◌, refl, sym, ◌∙◌, ap, inl, inr, length, get_or, arith}
use Rattle.std.proofs.lemmas.Bool.{cases_Bool, lt-ltb, le-ltb, ltb-true, ltb-false, leb-true, leb-false, cond-true, cond-false}
use Rattle.std.proofs.lemmas.List.{get_or_default}
use Rattle.lk_model.specs.Lists.{rises_within}
use Rattle.lk_model.proofs.Rising.{rises, rising_bounds}
use Rattle.renaming_laws.specs.Renaming.{nth, name_of, number_in_whole}

-- 0 stays, the numbers up to the length of the list are its elements, and those past it go on from m
pub told : List ℕ → ℕ → ℕ → ℕ
told ns m zero = zero
told ns m (suc k) = cond (nat_lt k (length ns)) (get_or ns k 0) (suc k - length ns + m)

pub told_zero : (ns : List ℕ) (m : ℕ) → told ns m 0 ≡ 0
unfolding told
told_zero ns m = refl

pub told_within : (ns : List ℕ) (m k : ℕ) → k < length ns → told ns m (suc k) ≡ get_or ns k 0
unfolding told
told_within ns m k lt = cond-true (nat_lt k (length ns)) _ _ (lt-ltb k (length ns) lt)

pub told_past : (ns : List ℕ) (m j : ℕ) → length ns < j → told ns m j + length ns ≡ j + m
unfolding told
told_past ns m zero lt = absurd (omega (arith, lt))
told_past ns m (suc k) lt =
    let e : told ns m (suc k) ≡ suc k - length ns + m = cond-false (nat_lt k (length ns)) _ _ (le-ltb k (length ns) (omega (arith, lt))) in omega (arith, e, lt)

-- the elements of a list that rises
rising_at : (low high : ℕ) (ns : List ℕ) (i j : ℕ) → rises_within low high ns ≡ true → i < j → j < length ns → get_or ns i 0 < get_or ns j 0
rising_at low high [] i j r lt inside = absurd (omega (arith, inside))
rising_at low high (n ∷ ns) i zero r lt inside = absurd (omega (arith, lt))
rising_at low high (n ∷ ns) zero (suc j) r lt inside =
    let s = rises low high n ns r in let b = rising_bounds n high ns j s.more (omega (arith, inside)) in b.0
rising_at low high (n ∷ ns) (suc i) (suc j) r lt inside =
    let s = rises low high n ns r in rising_at n high ns i j s.more (omega (arith, lt)) (omega (arith, inside))

-- numbers up to the length of the list go no further than its elements
pub told_low : (ns : List ℕ) (m high k : ℕ) → rises_within 0 high ns ≡ true → k ≤ length ns → told ns m k ≤ high
told_low ns m high zero r le = let e = told_zero ns m in omega (arith, e)
told_low ns m high (suc k) r le =
    let inside : k < length ns = omega (arith, le) in
    let e = told_within ns m k inside in let b = rising_bounds 0 high ns k r inside in let most = b.1 in omega (arith, e, most)

-- new numbers rise with the old ones
pub told_rise : (ns : List ℕ) (m : ℕ) → rises_within 0 m ns ≡ true → (a b : ℕ) → a < b → told ns m a < told ns m b
told_rise ns m r a zero lt = absurd (omega (arith, lt))
told_rise ns m r zero (suc j) lt = elim (cases_Bool (nat_lt j (length ns))) [
  | inl i ↦
      (let inside = ltb-true j (length ns) i in let z = told_zero ns m in let e = told_within ns m j inside in
      let b = rising_bounds 0 m ns j r inside in let least = b.0 in omega (arith, z, e, least))
  | inr o ↦ (let out = ltb-false j (length ns) o in let z = told_zero ns m in let e = told_past ns m (suc j) (omega (arith, out)) in omega (arith, z, e, out))
]
told_rise ns m r (suc i) (suc j) lt = elim (cases_Bool (nat_lt j (length ns))) [
  | inl y ↦
      (let inside = ltb-true j (length ns) y in let before : i < j = omega (arith, lt) in let first : i < length ns = omega (arith, before, inside) in
      let d = told_within ns m i first in let e = told_within ns m j inside in
      let up = rising_at 0 m ns i j r before inside in omega (arith, d, e, up))
  | inr o ↦
      (let out = ltb-false j (length ns) o in let e = told_past ns m (suc j) (omega (arith, out)) in
      elim (cases_Bool (nat_lt i (length ns))) [
        | inl y ↦ (let inside = ltb-true i (length ns) y in let low = told_low ns m m (suc i) r (omega (arith, inside)) in omega (arith, e, low, out))
        | inr n ↦ (let past = ltb-false i (length ns) n in let d = told_past ns m (suc i) (omega (arith, past)) in omega (arith, d, e, lt))
      ])
]

-- THE WORDS OF THE LAW

-- what stands at a place of the list
pub nth_told : (ns : List ℕ) (m k : ℕ) → 1 ≤ k → k ≤ length ns → nth ns k ≡ told ns m k
nth_told ns m zero least most = absurd (omega (arith, least))
nth_told ns m (suc k) least most =
    let e : suc k - 1 ≡ k = omega arith in
    ap (λ (j : ℕ). get_or ns j 0) e ∙ sym (told_within ns m k (omega (arith, most)))

-- where a number past the list stays
pub name_told : (ns : List ℕ) (m k : ℕ) → 1 ≤ k → k ≤ length ns → name_of ns k ≡ told ns m k
name_told ns m k least most = get_or_default ns (k - 1) k 0 (omega (arith, least, most)) ∙ nth_told ns m k least most

-- a number in a chain
pub number_told : (ns : List ℕ) (m k : ℕ) → 1 ≤ k → number_in_whole ns m k ≡ told ns m k
number_told ns m k least = elim (cases_Bool (nat_le k (length ns))) [
  | inl le ↦ cond-true (nat_le k (length ns)) _ _ le ∙ name_told ns m k least (leb-true k (length ns) le)
  | inr gt ↦
      (let past = leb-false k (length ns) gt in
      let e = told_past ns m k past in
      let same : k - length ns + m ≡ told ns m k = omega (arith, e, past) in
      cond-false (nat_le k (length ns)) _ _ gt ∙ same)
]
