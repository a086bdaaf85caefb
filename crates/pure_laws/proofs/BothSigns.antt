-- Where each literal of a set stands beside its complement in the set, the set is lean for pure autarkies.
use Rattle.std.proofs.Common.{◌≡◌, ◌≢◌, ℕ, true, false, List, [], ◌∷◌, refl, ap, ◌∙◌, ℤ, pos, IsTrue, inl, inr}
use Rattle.std.specs.List.{list_any}
use Rattle.std.specs.Ordering.{int_eq}
use Rattle.std.proofs.lemmas.Bool.{cases_Bool, both_ways}
use Rattle.lk_model.specs.declared.class.Class.TheVariants.{Pure}
use Rattle.lk_model.specs.Formulas.Literal.{complement, contains}
use Rattle.lk_model.specs.Formulas.Formula.{Cnf, clause_at}
use Rattle.lk_model.specs.Formulas.Autarky.{Positions, HasEarlier}
use Rattle.lk_model.specs.Formulas.Lean.{IsLean}
use Rattle.lk_model.proofs.Booleans.{or_true, or_false}
use Rattle.lk_model.proofs.Literals.{same_int}
use Rattle.kernel_laws.proofs.Assignments.{touching, true_literal}
use Rattle.pure_laws.specs.PureLaw.{StandsIn}

-- each literal that stands in the set has its complement there
abbrev pub HasBothSigns : Cnf → Positions → Type 0
HasBothSigns F S = (l : ℤ) → StandsIn F S l → StandsIn F S (complement l)

-- none of these literals stands in a clause of the set
NoneStands : Cnf → Positions → List ℤ → Type 0
NoneStands F S ls = (p : ℕ) → IsTrue (S p) → list_any (contains (clause_at F p)) ls ≡ false

-- of an order with earlier literals, none of which stands there, neither does the next
next_absent : (F : Cnf) (S : Positions) (earlier order : List ℤ) (l : ℤ) → HasBothSigns F S → NoneStands F S earlier
    → HasEarlier F S earlier (l ∷ order) → NoneStands F S (l ∷ earlier)
unfolding NoneStands
next_absent F S earlier order l both none h p s = elim (cases_Bool (contains (clause_at F p) l)) [
  | inl there ↦ (let other = both l (p, s, there) in
      absurd (both_ways (list_any (contains (clause_at F other.0)) earlier) (none other.0 other.1) (h.0 other.0 other.1 other.2)))
  | inr absent ↦ rw (absent, none p s) refl
]

-- so none does
order_absent : (F : Cnf) (S : Positions) (earlier order : List ℤ) → HasBothSigns F S → NoneStands F S earlier → HasEarlier F S earlier order
    → (l : ℤ) → contains order l ≡ true → (p : ℕ) → IsTrue (S p) → contains (clause_at F p) l ≡ false
unfolding NoneStands
order_absent F S earlier [] both none h l c p s = absurd (let f : ⊥ = cc in f)
order_absent F S earlier (k ∷ order) both none h l c p s =
    let next = next_absent F S earlier order k both none h in
    elim (or_true (int_eq l k) (contains order l) c) [
      | inl same ↦ ap (contains (clause_at F p)) (same_int l k same) ∙ (or_false (contains (clause_at F p) k) _ (next p s)).0
      | inr later ↦ order_absent F S (k ∷ earlier) order both next h.1 l later p s
    ]

pub pure_lean : (F : Cnf) (S : Positions) → HasBothSigns F S → ((p : ℕ) (l : ℤ) → contains (clause_at F p) l ≡ true → l ≢ pos 0) → IsLean Pure F S
unfolding NoneStands
pure_lean F S both real φ a p s t =
    let w = touching φ (clause_at F p) t in
    let l = w.0 in
    let absent = order_absent F S [] a.order both (λ q r. refl) a.earlier in
    elim (true_literal φ l (real p l w.1) w.2) [
      | inl itself ↦ both_ways (contains (clause_at F p) l) (absent l ((a.true_literals l).1 itself) p s) w.1
      | inr other ↦
          (let q = both l (p, s, w.1) in
          both_ways (contains (clause_at F q.0) (complement l)) (absent (complement l) ((a.true_literals (complement l)).1 other) q.0 q.1) q.2)
    ]
