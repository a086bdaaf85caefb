-- The first variable of a protect line that is set.
use Rattle.std.proofs.Common.{◌≡◌, ◌∙◌, ℕ, zero, suc, ◌+◌, ◌<◌, ◌≤◌, Bool, true, false, cond, ◌&&◌, ◌||◌, List, [], ◌∷◌, refl, sym, ap, subst, arith, Option, Some, None, is_some, inl, inr}
use Rattle.std.specs.Prelude.{find}
use Rattle.std.specs.List.{range_with_len}
use Rattle.std.proofs.lemmas.Bool.{cases_Bool, cases_eq, eq-eqb, ne_eqb, le-leb, lt-ltb}
use Rattle.lk_model.specs.Lists.{among, rises_within}
use Rattle.lk_model.specs.Formulas.Formula.{Cnf}
use Rattle.lk_model.specs.Formulas.Crossed.{protected_by}
use Rattle.lk_model.specs.Formulas.Assignment.{Assignment, assignment_of}
use Rattle.lk_model.specs.Checks.CommonChecks.{protected_set}
use Rattle.lk_model.specs.declared.document.DoneDocument.{DoneDocument}
use Rattle.lk_model.proofs.Rising.{rises, bounded}
use Rattle.kernel_laws.proofs.FirstChecks.{none_protected}

-- Of the numbers of a range the first that stands in a rising list and passes is the first of the list that passes.
first_listed : (s t : ℕ → Bool) (low len high : ℕ) (vs : List ℕ) → high ≡ low + len → rises_within low high vs ≡ true
    → ((u : ℕ) → low < u → u ≤ high → s u ≡ (among vs u && t u)) → find s (range_with_len (low + 1) len) ≡ find t vs
first_listed s t low zero high [] is up same = refl
first_listed s t low zero high (v ∷ vs) is up same = let r = rises low high v vs up in absurd (omega (arith, is, r.above, r.within))
first_listed s t low (suc m) high [] is up same =
    rw (same (low + 1) (omega arith) (omega (arith, is))) (first_listed s t (low + 1) m high [] (omega (arith, is)) refl (λ u a b. same u (omega (arith, a)) b))
first_listed s t low (suc m) high (v ∷ vs) is up same =
    let r = rises low high v vs up in
    elim (cases_eq (low + 1) v) [
      | inl first ↦
          let here : s (low + 1) ≡ t v =
          same (low + 1) (omega arith) (omega (arith, is)) ∙ ap (λ (b : Bool). (b || among vs (low + 1)) && t (low + 1)) (eq-eqb v (low + 1) (sym first)) ∙ ap t first in
          let rest = first_listed s t (low + 1) m high vs (omega (arith, is)) (subst (λ (k : ℕ). rises_within k high vs ≡ true) (sym first) r.more) (λ u a b.
          same u (omega (arith, a)) b ∙ ap (λ (x : Bool). (x || among vs u) && t u) (ne_eqb v u (λ e. absurd (omega (arith, e, first, a))))) in
          λ i. cond (here i) (Some (first i)) (rest i)
      | inr other ↦
          let up_again : rises_within (low + 1) high (v ∷ vs) ≡ true = rw (lt-ltb (low + 1) v (omega (arith, r.above, other)), le-leb v high r.within, r.more) refl in
          let out : among (v ∷ vs) (low + 1) ≡ false = elim (cases_Bool (among (v ∷ vs) (low + 1))) [
            | inl there ↦ (let b = bounded (low + 1) high (v ∷ vs) (low + 1) up_again there in absurd (omega (arith, b.0)))
            | inr absent ↦ absent
          ] in
          let fails : s (low + 1) ≡ false = same (low + 1) (omega arith) (omega (arith, is)) ∙ ap (λ (b : Bool). b && t (low + 1)) out in
          rw fails (first_listed s t (low + 1) m high (v ∷ vs) (omega (arith, is)) up_again (λ u a b. same u (omega (arith, a)) b))
    ]

-- so the place of the check is found in the line
pub set_in_line : (F : Cnf) (d : DoneDocument) (φ : Assignment) (vs : List ℕ) → d.protect ≡ Some vs → rises_within 0 F.vars vs ≡ true → φ ≡ assignment_of d.set
    → find (λ v. is_some (φ v)) vs ≡ (protected_set (protected_by d.protect) F d).place
unfolding protected_set
set_in_line F d φ vs is up values =
    ap (λ (ψ : Assignment). find (λ v. is_some (ψ v)) vs) values
    ∙ sym (first_listed (λ v. protected_by d.protect v && is_some (assignment_of d.set v)) (λ v. is_some (assignment_of d.set v)) 0 F.vars F.vars vs (omega arith) up
    (λ u low high. ap (λ (o : Option (List ℕ)). protected_by o u && is_some (assignment_of d.set u)) is))

-- and there is none without a line
pub none_without_line : (F : Cnf) (d : DoneDocument) → d.protect ≡ None → None ≡ (protected_set (protected_by d.protect) F d).place
none_without_line F d is = sym (ap (λ (o : Option (List ℕ)). (protected_set (protected_by o) F d).place) is ∙ none_protected F d)
