-- Clauses as sets of literals.
use Rattle.std.proofs.Common.{◌≡◌, Bool, true, false, cond, not, ◌&&◌, ◌||◌, List, [], ◌∷◌, ◌++◌, refl, sym, ◌∙◌, ap, subst, ℤ}
use Rattle.std.specs.Ordering.{int_eq}
use Rattle.std.proofs.lemmas.List.Folds.{list_any-append}
use Rattle.std.proofs.Math.Bool.{and-false}
use Rattle.lk_model.specs.Formulas.Literal.{contains, is_within, is_same_set}
use Rattle.lk_model.specs.Chains.Chain.{without}
use Rattle.refutation_log.specs.SameClause.{HaveSame}
use Rattle.lk_model.proofs.Booleans.{and_true, same_tests}
use Rattle.lk_model.proofs.Literals.{same_int}
use Rattle.lk_model.proofs.Founds.{all_literals}
use Rattle.lk_model.proofs.ListTests.{passes_each}

pub contains_append : (c d : List ℤ) (k : ℤ) → contains (c ++ d) k ≡ (contains c k || contains d k)
contains_append c d k = list_any-append (int_eq k) c d

pub contains_without : (c : List ℤ) (l k : ℤ) → contains (without c l) k ≡ (contains c k && not (int_eq k l))
contains_without [] l k = refl
contains_without (m ∷ c) l k = at_tests (int_eq m l) refl (int_eq k m) refl (contains_without c l k)
  where
    at_tests : (b : Bool) → int_eq m l ≡ b → (d : Bool) → int_eq k m ≡ d
        → contains (without c l) k ≡ (contains c k && not (int_eq k l))
        → contains (cond (not b) (m ∷ without c l) (without c l)) k ≡ ((d || contains c k) && not (int_eq k l))
    at_tests false e true f h = let g : int_eq k l ≡ false = subst (λ x. int_eq x l ≡ false) (sym (same_int k m f)) e in rw (f, g) refl
    at_tests false e false f h = rw (f, h) refl
    at_tests true e true f h = let g : int_eq k l ≡ true = subst (λ x. int_eq x l ≡ true) (sym (same_int k m f)) e in rw (h, g) (and-false (contains c k))
    at_tests true e false f h = h

pub same_set : (c d : List ℤ) → HaveSame c d → is_same_set c d ≡ true
same_set c d h =
    rw (all_literals (contains d) c (λ k e. sym (h.members k) ∙ e), all_literals (contains c) d (λ k e. h.members k ∙ e)) refl

pub have_same : (c d : List ℤ) → is_same_set c d ≡ true → HaveSame c d
have_same c d e =
    let b = and_true (is_within c d) (is_within d c) e in
    record { members = λ k. same_tests (contains c k) (contains d k) (passes_each (contains d) c k b.0) (passes_each (contains c) d k b.1) }

pub HaveSame-refl : (c : List ℤ) → HaveSame c c
HaveSame-refl c = record { members = λ k. refl }

pub HaveSame-trans : (c d e : List ℤ) → HaveSame c d → HaveSame d e → HaveSame c e
HaveSame-trans c d e h j = record { members = λ k. h.members k ∙ j.members k }

pub HaveSame-without : (c d : List ℤ) (l : ℤ) → HaveSame c d → HaveSame (without c l) (without d l)
HaveSame-without c d l h = record {
  members = λ k. contains_without c l k ∙ ap (λ b. b && not (int_eq k l)) (h.members k) ∙ sym (contains_without d l k);
}

pub HaveSame-append : (a b c d : List ℤ) → HaveSame a c → HaveSame b d → HaveSame (a ++ b) (c ++ d)
HaveSame-append a b c d h j = record {
  members = λ k. contains_append a b k ∙ ap (λ x. x || contains b k) (h.members k) ∙ ap (λ x. contains c k || x) (j.members k) ∙ sym (contains_append c d k);
}
