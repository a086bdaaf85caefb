-- What a clause asks for, one literal more at a time.
use Rattle.std.proofs.Common.{◌≡◌, ◌∙◌, ◌||◌, ◌++◌, ◌∷◌, [], true, false, not, List, ℤ, Option, Some, refl, sym, ap, subst}
use Rattle.std.specs.List.{list_all}
use Rattle.std.specs.Ordering.{int_eq}
use Rattle.std.proofs.lemmas.Bool.Decides.{Decides-int_eq}
use Rattle.std.proofs.lemmas.List.Folds.{list_any-append}
use Rattle.lk_model.specs.Formulas.Literal.{contains}
use Rattle.lk_model.proofs.Booleans.{or_left, or_right}
use Rattle.lk_model.proofs.ListTests.{all_weaker, all_more}
use Rattle.unit_refutations.specs.declared.looking.Look.{Look}
use Rattle.unit_refutations.specs.declared.looking.Look.TheVariants.{Nothing, Truth, Conflict}
use Rattle.unit_refutations.specs.Trails.{Came, is_true_in, is_false_in}
use Rattle.unit_refutations.specs.Looks.{IsLook, IsLookSoFar, IsNext}

-- the first literal that is not false
pub opens : (t : Came) (c : List ℤ) (l : ℤ) (so_far : Look) → ((x : ℤ) → so_far ≡ Truth x → ⊥) → is_true_in t l ≡ false → is_false_in t l ≡ false
    → IsLookSoFar t c so_far → IsLook t (c ++ l ∷ []) (Truth l)
opens t c l so_far other unset held h = (there, ap not unset, ap not held, all_more (λ k. int_eq k l || is_false_in t k) c l (others so_far other h) own)
  where
    there : contains (c ++ l ∷ []) l ≡ true
    there = list_any-append (int_eq l) c (l ∷ []) ∙ or_right (contains c l) (contains (l ∷ []) l) (or_left (int_eq l l) false ((Decides-int_eq l l).1 refl))

    own : (int_eq l l || is_false_in t l) ≡ true
    own = or_left (int_eq l l) (is_false_in t l) ((Decides-int_eq l l).1 refl)

    others : (s : Look) → ((x : ℤ) → s ≡ Truth x → ⊥) → IsLookSoFar t c s → list_all (λ k. int_eq k l || is_false_in t k) c ≡ true
    others Nothing n e = ap (list_all (λ k. int_eq k l || is_false_in t k)) e
    others (Truth x) n e = absurd (n x refl)
    others Conflict n e = all_weaker (is_false_in t) (λ k. int_eq k l || is_false_in t k) (λ k f. or_right (int_eq k l) (is_false_in t k) f) c e.1

-- what the next literal leaves
pub goes_further : (t : Came) (c d : List ℤ) (l : ℤ) (so_far next : Look) (o : Option Look) → o ≡ Some next
    → ((x : List ℤ) → IsLookSoFar t x so_far → IsNext t (x ++ l ∷ []) o) → d ≡ c ++ l ∷ [] → IsLookSoFar t c so_far → IsLookSoFar t d next
goes_further t c d l so_far next o is step e h =
    subst (λ (x : List ℤ). IsLookSoFar t x next) (sym e) (subst (λ (x : Option Look). IsNext t (c ++ l ∷ []) x) is (step c h))

pub same_look : (t : Came) (c d : List ℤ) (s s' : Look) → d ≡ c → s' ≡ s → IsLookSoFar t c s → IsLookSoFar t d s'
same_look t c d s s' e f h = subst (λ (x : List ℤ). IsLookSoFar t x s') (sym e) (subst (λ (x : Look). IsLookSoFar t c x) (sym f) h)

-- at the end
pub looked : (t : Came) (c d : List ℤ) (s : Look) → d ≡ c → IsLookSoFar t c s → IsLook t d s
looked t c d Nothing e h = tt
looked t c d (Truth l) e h = subst (λ (x : List ℤ). IsLook t x (Truth l)) (sym e) h
looked t c d Conflict e h = subst (λ (x : List ℤ). IsLook t x Conflict) (sym e) h
