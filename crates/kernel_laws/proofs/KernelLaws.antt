-- The largest lean set, as all lean sets together.
use Rattle.std.proofs.Common.{◌≡◌, ℕ, zero, suc, ◌≤◌, true, false, ◌||◌, nat_le, List, filter, length, sym, subst, arith, ◌⊎◌, inl, inr}
use Rattle.std.proofs.lemmas.Bool.{le-leb, leb-true, and_from, cases_lt}
use Rattle.lk_model.specs.declared.class.Class.{Class}
use Rattle.lk_model.specs.Lists.{among}
use Rattle.lk_model.specs.Formulas.Formula.{Cnf, positions_of}
use Rattle.lk_model.specs.Formulas.Crossed.{Variables}
use Rattle.lk_model.specs.Formulas.Autarky.{Positions, Within}
use Rattle.lk_model.specs.Formulas.Lean.{all_of}
use Rattle.lk_model.specs.Formulas.Protected.{IsLeanUnder}
use Rattle.lk_model.proofs.Booleans.{and_true, or_true, or_left, or_right}
use Rattle.lk_model.proofs.Founds.{filtered_rise}
use Rattle.lk_model.proofs.Counting.{in_filter, from_filter}
use Rattle.kernel_laws.specs.KernelLaw.{IsInLean, HasKernel, KernelLaw}
use Rattle.kernel_laws.proofs.Autarkies.{autarky-within}
use Rattle.kernel_laws.proofs.Occurrences.{in_positions}

-- TOGETHER

-- an autarky on both is one on each
pub lean_together : (P : Variables) (class : Class) (F : Cnf) (S T : Positions) → IsLeanUnder P class F S
    → IsLeanUnder P class F T
    → IsLeanUnder P class F (λ p. S p || T p)
lean_together P class F S T lean other φ a p there touched = elim (or_true (S p) (T p) there) [
  | inl here ↦ lean φ (a.0, autarky-within class F (λ q. S q || T q) S φ (λ q m. or_left (S q) (T q) m) a.1) p here touched
  | inr here ↦ other φ (a.0, autarky-within class F (λ q. S q || T q) T φ (λ q m. or_right (S q) (T q) m) a.1) p here touched
]

-- no positions are lean
none_lean : (P : Variables) (class : Class) (F : Cnf) → IsLeanUnder P class F (λ p. false)
none_lean P class F φ a p there touched = let f : ⊥ = cc in f

-- ONE POSITION AFTER ANOTHER

-- a lean set that has each of the positions up to a number that some lean set has
record IsLargestTo (P : Variables) (class : Class) (F : Cnf) (last : ℕ) : Type 0 where
  positions : Positions
  within : Within positions (all_of F)
  lean : IsLeanUnder P class F positions
  largest : (p : ℕ) → p ≤ last → IsInLean P class F p → positions p ≡ true

largest_none : (P : Variables) (class : Class) (F : Cnf) → IsLargestTo P class F 0
largest_none P class F = record {
  positions = λ p. false;
  within = λ p e. absurd (let f : ⊥ = cc in f);
  lean = none_lean P class F;
  largest = λ p le h. absurd (not_first p le (h.within p h.there));
}
  where
    not_first : (p : ℕ) → p ≤ 0 → all_of F p ≡ true → ⊥
    not_first p le e = let least = leb-true 1 p (and_true (nat_le 1 p) (nat_le p (length F.clauses)) e).0 in omega (arith, le, least)

-- a number up to the next one
up_to_last : (p last : ℕ) → p ≤ suc last → (p ≤ last) ⊎ (p ≡ suc last)
up_to_last p last le = elim (cases_lt p (suc last)) [
  | inl before ↦ inl (omega (arith, before))
  | inr past ↦ inr (omega (arith, le, past))
]

-- with the next position, where it is decided whether a lean set has it
largest_more : (P : Variables) (class : Class) (F : Cnf) (last : ℕ) → IsLargestTo P class F last
    → IsInLean P class F (suc last) ⊎ (IsInLean P class F (suc last) → ⊥)
    → IsLargestTo P class F (suc last)
largest_more P class F last h (inl more) = record {
  positions = λ p. h.positions p || more.positions p;
  within = λ p e. elim (or_true (h.positions p) (more.positions p) e) [
    | inl a ↦ h.within p a
    | inr b ↦ more.within p b
  ];
  lean = lean_together P class F h.positions more.positions h.lean more.lean;
  largest = λ p le inside. elim (up_to_last p last le) [
    | inl before ↦ or_left (h.positions p) (more.positions p) (h.largest p before inside)
    | inr next ↦ or_right (h.positions p) (more.positions p) (subst (λ (q : ℕ). more.positions q ≡ true) (sym next) more.there)
  ];
}
largest_more P class F last h (inr none) = record {
  positions = h.positions;
  within = h.within;
  lean = h.lean;
  largest = λ p le inside. elim (up_to_last p last le) [
    | inl before ↦ h.largest p before inside
    | inr next ↦ absurd (none (subst (λ (q : ℕ). IsInLean P class F q) next inside))
  ];
}

-- THE KERNEL

-- a set of positions as the list of them
abbrev pub list_of : Cnf → Positions → List ℕ
list_of F S = filter S (positions_of F)

pub in_list : (F : Cnf) (S : Positions) (p : ℕ) → Within S (all_of F) → S p ≡ true → among (list_of F S) p ≡ true
in_list F S p within there = in_filter S (positions_of F) p there (in_positions F p (within p there))

pub from_list : (F : Cnf) (S : Positions) → Within (among (list_of F S)) S
from_list F S p m = (from_filter S (positions_of F) p m).0

-- a lean set, as a list
lean_list : (P : Variables) (class : Class) (F : Cnf) (S : Positions) → Within S (all_of F) → IsLeanUnder P class F S
    → IsLeanUnder P class F (among (list_of F S))
lean_list P class F S within lean φ a p there touched =
    lean φ (a.0, autarky-within class F (among (list_of F S)) S φ (λ q m. in_list F S q within m) a.1) p (from_list F S p there) touched

-- a lean set that has each position that some lean set has is the kernel
pub kernel_of : (P : Variables) (class : Class) (F : Cnf) (S : Positions) → Within S (all_of F) → IsLeanUnder P class F S
    → ((T : Positions) → Within T (all_of F) → IsLeanUnder P class F T → Within T S) → HasKernel P class F
kernel_of P class F S within lean largest = (
  list_of F S,
  record {
    positions = filtered_rise (length F.clauses) S;
    lean = lean_list P class F S within lean;
    largest = λ T inside other p there. in_list F S p within (largest T inside other p there);
  },
)

last_of : (F : Cnf) (p : ℕ) → all_of F p ≡ true → p ≤ length F.clauses
last_of F p e = leb-true p (length F.clauses) (and_true (nat_le 1 p) (nat_le p (length F.clauses)) e).1

kernel_to : (P : Variables) (class : Class) (F : Cnf) → IsLargestTo P class F (length F.clauses) → HasKernel P class F
kernel_to P class F h = kernel_of P class F h.positions h.within h.lean
    (λ T inside lean p there. h.largest p (last_of F p (inside p there)) (record { positions = T; within = inside; lean = lean; there = there }))

-- DECIDED

decided_to : (P : Variables) (class : Class) (F : Cnf)
    → ((p : ℕ) → all_of F p ≡ true → IsInLean P class F p ⊎ (IsInLean P class F p → ⊥))
    → (last : ℕ) → last ≤ length F.clauses → IsLargestTo P class F last
decided_to P class F decides zero le = largest_none P class F
decided_to P class F decides (suc last) le =
    largest_more P class F last (decided_to P class F decides last (omega (arith, le)))
    (decides (suc last) (and_from (nat_le 1 (suc last)) _ (le-leb 1 (suc last) (omega arith)) (le-leb (suc last) (length F.clauses) le)))

decided_kernel : (P : Variables) (class : Class) (F : Cnf)
    → ((p : ℕ) → all_of F p ≡ true → IsInLean P class F p ⊎ (IsInLean P class F p → ⊥)) → HasKernel P class F
decided_kernel P class F decides = kernel_to P class F (decided_to P class F decides (length F.clauses) (omega arith))

-- NOT NONE

-- that nothing decides a fact is refuted
undecided : {A : Type 0} → ((A ⊎ (A → ⊥)) → ⊥) → ⊥
undecided none = none (inr (λ a. none (inl a)))

not_none_to : (P : Variables) (class : Class) (F : Cnf) (last : ℕ) → (IsLargestTo P class F last → ⊥) → ⊥
not_none_to P class F zero none = none (largest_none P class F)
not_none_to P class F (suc last) none = not_none_to P class F last (λ h. undecided (λ d. none (largest_more P class F last h d)))

not_none_of : (P : Variables) (class : Class) (F : Cnf) → (HasKernel P class F → ⊥) → ⊥
not_none_of P class F none = not_none_to P class F (length F.clauses) (λ h. none (kernel_to P class F h))

-- all of it
pub kernel_law : KernelLaw
kernel_law = record { together = lean_together; decided = decided_kernel; not_none = not_none_of }
