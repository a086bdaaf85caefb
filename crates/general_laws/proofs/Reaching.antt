-- Nothing that a refutation uses is touched.
use Rattle.std.proofs.Common.{◌≡◌, ℕ, ◌≤◌, Bool, true, false, cond, not, ◌==◌, List, [], ◌∷◌, ◌++◌, refl, ◌∙◌, subst, ℤ, Some, inl, inr, length, arith, append_assoc}
use Rattle.std.specs.List.{list_all}
use Rattle.std.proofs.lemmas.Bool.{eqb-true, not-false}
use Rattle.lk_model.specs.Lists.{among, is_empty}
use Rattle.lk_model.specs.Formulas.Formula.{Cnf}
use Rattle.lk_model.specs.Formulas.Crossed.{Variables}
use Rattle.lk_model.specs.Chains.Chain.{clause_named, names_of, states_its_clause}
use Rattle.lk_model.specs.Chains.Rounds.{StepAt, reached, is_refutation}
use Rattle.lk_model.specs.Formulas.Assignment.{Assignment, touches}
use Rattle.lk_model.specs.declared.document.Step.{Step}
use Rattle.lk_model.proofs.Booleans.{and_true, or_true}
use Rattle.lk_model.proofs.Lists.{among_either}
use Rattle.kernel_laws.proofs.Assignments.{untouched_unsatisfied}
use Rattle.general_laws.proofs.Touching.{IsFair}
use Rattle.general_laws.proofs.Chains.{AreFair, IsUntouched, are_real, IsFairStep, fair_step}
use Rattle.general_laws.proofs.Numbering.{AreRising, AreBelow, below_more, premises_in, named_kept, named_either, named_itself}
use Rattle.general_laws.proofs.Stated.{NoneOf}

-- the step does not state its chain's clause
abbrev pub is_misstated : StepAt → Bool
is_misstated s = not (states_its_clause s.premises s.step)

-- no turn of the steps is on 0
abbrev pub are_real_steps : List Step → Bool
are_real_steps steps = list_all (λ (s : Step). are_real s.turns) steps

-- some steps stand after others in a round, with what is known of them and of those before
pub record IsStanding (φ : Assignment) (F : Cnf) (part : List ℕ) (blocked : Variables) (whole earlier : List Step) (low : ℕ) (steps : List Step) : Type 0 where
  pub joined : earlier ++ steps ≡ whole
  pub past : length F.clauses ≤ low
  pub below : AreBelow low earlier
  pub rising : AreRising low steps
  pub real : are_real_steps steps ≡ true
  pub stated : NoneOf is_misstated F part blocked earlier steps
  pub fair : AreFair φ (premises_in F part blocked earlier)

-- what is known of the first of them
first_fair : (φ : Assignment) (F : Cnf) (part : List ℕ) (blocked : Variables) (whole earlier : List Step) (low : ℕ) (s : Step) (steps : List Step)
    → IsStanding φ F part blocked whole earlier low (s ∷ steps) → IsFairStep φ (premises_in F part blocked earlier) s
first_fair φ F part blocked whole earlier low s steps h =
    fair_step φ (premises_in F part blocked earlier) s h.fair (and_true (are_real s.turns) (are_real_steps steps) h.real).0
    (not-false (states_its_clause (premises_in F part blocked earlier) s) h.stated.0)

-- and so the others stand after one more
next_standing : (φ : Assignment) (F : Cnf) (part : List ℕ) (blocked : Variables) (whole earlier : List Step) (low : ℕ) (s : Step) (steps : List Step)
    → IsStanding φ F part blocked whole earlier low (s ∷ steps) → IsStanding φ F part blocked whole (earlier ++ s ∷ []) s.number steps
next_standing φ F part blocked whole earlier low s steps h = record {
  joined = append_assoc earlier (s ∷ []) steps ∙ h.joined;
  past = omega (arith, h.past, h.rising.0);
  below = below_more low earlier s h.rising.0 h.below;
  rising = h.rising.1;
  real = (and_true (are_real s.turns) (are_real_steps steps) h.real).1;
  stated = h.stated.1;
  fair = λ k c e. elim (named_either F part blocked earlier s k c e) [
    | inl before ↦ h.fair k c before
    | inr same ↦ subst (λ (x : List ℤ). IsFair φ x) same (first_fair φ F part blocked whole earlier low s steps h).fair
  ];
}

-- the first step's number stands for its clause
itself_named : (φ : Assignment) (F : Cnf) (part : List ℕ) (blocked : Variables) (whole earlier : List Step) (low : ℕ) (s : Step) (steps : List Step)
    → IsStanding φ F part blocked whole earlier low (s ∷ steps) → clause_named (premises_in F part blocked whole) s.number ≡ Some s.clause
itself_named φ F part blocked whole earlier low s steps h =
    subst (λ (xs : List Step). clause_named (premises_in F part blocked xs) s.number ≡ Some s.clause) h.joined
    (named_itself F part blocked earlier steps s low h.past h.rising.0 h.below)

-- where its clause is not touched, nothing that its chain names is
names_untouched : (φ : Assignment) (F : Cnf) (part : List ℕ) (blocked : Variables) (whole earlier : List Step) (low : ℕ) (s : Step) (steps : List Step)
    → IsStanding φ F part blocked whole earlier low (s ∷ steps) → touches φ s.clause ≡ false
    → (k : ℕ) → among (names_of s) k ≡ true → IsUntouched φ (premises_in F part blocked whole) k
names_untouched φ F part blocked whole earlier low s steps h free k m =
    let u = (first_fair φ F part blocked whole earlier low s steps h).named (untouched_unsatisfied φ s.clause free) k m in
    record {
      clause = u.clause;
      is = subst (λ (xs : List Step). clause_named (premises_in F part blocked xs) k ≡ Some u.clause) h.joined
          (named_kept F part blocked earlier (s ∷ steps) k u.clause u.is);
      free = u.free;
    }

-- the empty clause is not touched
empty_free : (φ : Assignment) (c : List ℤ) → is_empty c ≡ true → touches φ c ≡ false
empty_free φ [] e = refl
empty_free φ (l ∷ c) e = absurd (let f : ⊥ = cc in f)

-- what is reached backwards from an empty last clause is not touched
pub reached_untouched : (φ : Assignment) (F : Cnf) (part : List ℕ) (blocked : Variables) (whole earlier : List Step) (low : ℕ) (steps : List Step)
    → IsStanding φ F part blocked whole earlier low steps → is_refutation steps ≡ true
    → (k : ℕ) → among (reached steps) k ≡ true → IsUntouched φ (premises_in F part blocked whole) k
unfolding reached
reached_untouched φ F part blocked whole earlier low [] h e k m = absurd (let f : ⊥ = cc in f)
reached_untouched φ F part blocked whole earlier low (s ∷ []) h e k m =
    let free = empty_free φ s.clause e in
    elim (or_true (s.number == k) (among (names_of s) k) m) [
      | inl here ↦
          subst (λ (j : ℕ). IsUntouched φ (premises_in F part blocked whole) j) (eqb-true s.number k here)
          (record { clause = s.clause; is = itself_named φ F part blocked whole earlier low s [] h; free = free })
      | inr named ↦ names_untouched φ F part blocked whole earlier low s [] h free k named
    ]
reached_untouched φ F part blocked whole earlier low (s ∷ t ∷ later) h e k m =
    at_test (reached_untouched φ F part blocked whole (earlier ++ s ∷ []) s.number (t ∷ later) (next_standing φ F part blocked whole earlier low s (t ∷ later) h) e)
    (among (reached (t ∷ later)) s.number) refl m
  where
    at_test : ((j : ℕ) → among (reached (t ∷ later)) j ≡ true → IsUntouched φ (premises_in F part blocked whole) j)
        → (b : Bool) → among (reached (t ∷ later)) s.number ≡ b
        → among (cond b (names_of s ++ reached (t ∷ later)) (reached (t ∷ later))) k ≡ true → IsUntouched φ (premises_in F part blocked whole) k
    at_test rest false r m = rest k m
    at_test rest true r m = elim (among_either (names_of s) (reached (t ∷ later)) k m) [
      | inr later ↦ rest k later
      | inl named ↦
          (let u = rest s.number r in
          let same : u.clause ≡ s.clause = let here = itself_named φ F part blocked whole earlier low s (t ∷ later) h in let there = u.is in cc in
          names_untouched φ F part blocked whole earlier low s (t ∷ later) h (subst (λ (c : List ℤ). touches φ c ≡ false) same u.free) k named)
    ]
