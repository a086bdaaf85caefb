-- Watches that are upheld, and how they stay so.
use Rattle.std.proofs.Common.{◌≡◌, ◌≢◌, ℕ, zero, suc, Bool, true, false, cond, not, ◌&&◌, ◌||◌, List, [], ◌∷◌, ◌++◌, refl, sym, ◌∙◌, ap, subst, ℤ, take, nat_le, inl, inr}
use Rattle.std.specs.Ordering.{int_eq}
use Rattle.std.proofs.lemmas.Bool.{cases_Bool, false_from_ne_true, not-true}
use Rattle.lk_model.specs.Formulas.Literal.{complement}
use Rattle.lk_model.proofs.Booleans.{and_true, or_true, or_left, or_right}
use Rattle.lk_model.proofs.Literals.{same_int}
use Rattle.lk_model.proofs.Variables.{any_mono}
use Rattle.watch_prop.specs.declared.entry.Entry.{Entry}
use Rattle.watch_prop.specs.declared.watch.Watch.{Watch}
use Rattle.watch_prop.specs.Trail.{true_in, false_in, up_to_level}
use Rattle.watch_prop.specs.Watch.{other_of, has_true, is_upheld}
use Rattle.watch_prop.specs.Linked.{watches_it}
use Rattle.watch_prop.proofs.Truths.{same_true, false_apart}

-- SOME OF A TRAIL

-- each literal of the first list stands on the second, the trail
pub record IsPart (part trail : List Entry) : Type 0 where
  pub there : (l : ℤ) → true_in part l ≡ true → true_in trail l ≡ true

pub part_whole : (trail : List Entry) → IsPart trail trail
part_whole trail = record { there = λ l h. h }

pub part_more : (trail more : List Entry) → IsPart trail (trail ++ more)
part_more trail more = record { there = λ l h. from trail l h }
  where
    from : (part : List Entry) (l : ℤ) → true_in part l ≡ true → true_in (part ++ more) l ≡ true
    from [] l h = absurd (let f : ⊥ = cc in f)
    from (e ∷ part) l h = elim (or_true (int_eq l e.lit) (true_in part l) h) [
      | inl y ↦ or_left (int_eq l e.lit) (true_in (part ++ more) l) y
      | inr y ↦ or_right (int_eq l e.lit) (true_in (part ++ more) l) (from part l y)
    ]

pub part_take : (n : ℕ) (trail : List Entry) → IsPart (take n trail) trail
part_take n trail = record { there = from n trail }
  where
    from : (n : ℕ) (trail : List Entry) (l : ℤ) → true_in (take n trail) l ≡ true → true_in trail l ≡ true
    from zero trail l h = absurd (let f : ⊥ = cc in f)
    from (suc n) [] l h = h
    from (suc n) (e ∷ trail) l h = elim (or_true (int_eq l e.lit) (true_in (take n trail) l) h) [
      | inl y ↦ or_left (int_eq l e.lit) (true_in trail l) y
      | inr y ↦ or_right (int_eq l e.lit) (true_in trail l) (from n trail l y)
    ]

level_from : (level : ℕ) (trail : List Entry) (l : ℤ) → true_in (up_to_level level trail) l ≡ true → true_in trail l ≡ true
level_from level [] l h = h
level_from level (e ∷ rest) l h = at (nat_le e.level level) (level_from level rest l) h
  where
    at : (b : Bool) → (true_in (up_to_level level rest) l ≡ true → true_in rest l ≡ true)
        → true_in (cond b (e ∷ up_to_level level rest) (up_to_level level rest)) l ≡ true → true_in (e ∷ rest) l ≡ true
    at true more h = elim (or_true (int_eq l e.lit) (true_in (up_to_level level rest) l) h) [
      | inl y ↦ or_left (int_eq l e.lit) (true_in rest l) y
      | inr y ↦ or_right (int_eq l e.lit) (true_in rest l) (more y)
    ]
    at false more h = or_right (int_eq l e.lit) (true_in rest l) (more h)

pub part_level : (level : ℕ) (trail : List Entry) → IsPart (up_to_level level trail) trail
part_level level trail = record { there = level_from level trail }

pub not_there : (part trail : List Entry) (l : ℤ) → IsPart part trail → true_in trail l ≡ false → true_in part l ≡ false
not_there part trail l p n = false_from_ne_true (true_in part l) (λ h. (let f : true ≡ false = sym (p.there l h) ∙ n in let z : ⊥ = cc in z))

-- UPHELD

-- of a watch neither literal is false
pub record AreFree (passed : List Entry) (w : Watch) : Type 0 where
  pub first : false_in passed w.first ≡ false
  pub second : false_in passed w.second ≡ false

-- so it is where the clause has no true literal
pub free : (trail passed : List Entry) (c : List ℤ) (w : Watch) → is_upheld trail passed c w ≡ true → has_true trail c ≡ false → AreFree passed w
free trail passed c w h none =
    let rest : (not (false_in passed w.first) && not (false_in passed w.second)) ≡ true =
    subst (λ (b : Bool). (b || not (false_in passed w.first) && not (false_in passed w.second)) ≡ true) none h in
    let both = and_true (not (false_in passed w.first)) (not (false_in passed w.second)) rest in
    record { first = not-true _ both.0; second = not-true _ both.1 }

pub upheld_true : (trail passed : List Entry) (c : List ℤ) (w : Watch) → has_true trail c ≡ true → is_upheld trail passed c w ≡ true
upheld_true trail passed c w h = or_left (has_true trail c) _ h

pub upheld_free : (trail passed : List Entry) (c : List ℤ) (w : Watch) → false_in passed w.first ≡ false → false_in passed w.second ≡ false → is_upheld trail passed c w ≡ true
upheld_free trail passed c w a b = or_right (has_true trail c) (not (false_in passed w.first) && not (false_in passed w.second)) (rw (a, b) refl)

-- longer trails uphold what shorter ones did
pub upheld_more : (trail more passed : List Entry) (c : List ℤ) (w : Watch) → is_upheld trail passed c w ≡ true → is_upheld (trail ++ more) passed c w ≡ true
upheld_more trail more passed c w h = elim (cases_Bool (has_true trail c)) [
  | inl t ↦ upheld_true (trail ++ more) passed c w (any_mono (true_in trail) (true_in (trail ++ more)) c (part_more trail more).there t)
  | inr none ↦ (let f = free trail passed c w h none in upheld_free (trail ++ more) passed c w f.first f.second)
]

-- which of the two
pub data IsOneOf (w : Watch) (l : ℤ) : Type 0 where
  first : l ≡ w.first → other_of w l ≡ w.second → IsOneOf w l
  second : l ≡ w.second → other_of w l ≡ w.first → IsOneOf w l

pub one_of : (w : Watch) (l : ℤ) → watches_it w l ≡ true → IsOneOf w l
one_of w l h = elim (cases_Bool (int_eq w.first l)) [
  | inl y ↦ first (sym (same_int w.first l y)) (ap (λ (b : Bool). cond b w.second w.first) y)
  | inr y ↦ second
      (elim (or_true (int_eq l w.first) (int_eq l w.second) h) [
        | inl z ↦ (let f : true ≡ false = sym (same_true w.first l (sym (same_int l w.first z))) ∙ y in absurd (let g : ⊥ = cc in g))
        | inr z ↦ same_int l w.second z
      ])
      (ap (λ (b : Bool). cond b w.second w.first) y)
]

pub other_apart : (w : Watch) (l : ℤ) → not (int_eq w.second w.first) ≡ true → watches_it w l ≡ true → other_of w l ≢ l
other_apart w l two it same = at (one_of w l it)
  where
    apart : w.second ≢ w.first
    apart = false_apart w.second w.first (not-true (int_eq w.second w.first) two)

    at : IsOneOf w l → ⊥
    at (first a b) = apart (sym b ∙ same ∙ a)
    at (second a b) = apart (sym a ∙ sym same ∙ b)

-- the other literal of a watch of which neither is false
pub other_free : (passed : List Entry) (w : Watch) (l : ℤ) → AreFree passed w → watches_it w l ≡ true → false_in passed (other_of w l) ≡ false
other_free passed w l f it = at (one_of w l it)
  where
    at : IsOneOf w l → false_in passed (other_of w l) ≡ false
    at (first a b) = subst (λ (k : ℤ). false_in passed k ≡ false) (sym b) f.second
    at (second a b) = subst (λ (k : ℤ). false_in passed k ≡ false) (sym b) f.first

-- A clause that watches r in place of l is upheld under some of the trail, if r is not false.
pub moved_upheld : (trail sub passed : List Entry) (c : List ℤ) (w : Watch) (l r : ℤ) → IsPart passed trail → is_upheld sub passed c w ≡ true → watches_it w l ≡ true
    → false_in trail r ≡ false → is_upheld sub passed c (record { first = r; second = other_of w l }) ≡ true
moved_upheld trail sub passed c w l r passed_part h it no_r = elim (cases_Bool (has_true sub c)) [
  | inl t ↦ upheld_true sub passed c (record { first = r; second = other_of w l }) t
  | inr none ↦ upheld_free sub passed c (record { first = r; second = other_of w l }) (not_there passed trail (complement r) passed_part no_r)
      (other_free passed w l (free sub passed c w h none) it)
]
