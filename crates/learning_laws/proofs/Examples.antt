-- A clause that is learned, as an example: under the literals 1, 2 and 3, each assigned, the clause {-1, -3, 4} forces 4, and
-- {-1, -3, -4} is false.
use Rattle.std.proofs.Common.{◌≡◌, ℕ, zero, suc, ◌<◌, ◌∷◌, [], true, false, ℤ, pos, negsuc, Some, None, refl, sym, subst, arith, inl, inr}
use Rattle.std.specs.Ordering.{int_eq}
use Rattle.lk_model.specs.Formulas.Literal.{contains}
use Rattle.lk_model.proofs.Booleans.{or_true}
use Rattle.watch_prop.specs.Trail.{is_trail, assignment_along, up_to_level}
use Rattle.watch_prop.specs.Propagation.{Propagation, IsPropagation, assigned, is_quiet}
use Rattle.lk_model.specs.Formulas.Units.{is_false}
use Rattle.lk_model.proofs.Literals.{same_int}
use Rattle.learning_laws.specs.Learned.{stands_up_to, IsQuietBelow, IsLearnedFor}
use Rattle.learning_laws.proofs.Levels.{low_there}

-- the two clauses and the trail
example : Propagation
example = record {
  vars = 4;
  clauses = record { number = 1; lits = negsuc 0 ∷ negsuc 2 ∷ pos 4 ∷ [] } ∷ record { number = 2; lits = negsuc 0 ∷ negsuc 2 ∷ negsuc 3 ∷ [] } ∷ [];
  trail = record { lit = pos 1; level = 1; reason = None } ∷ record { lit = pos 2; level = 2; reason = None }
      ∷ record { lit = pos 3; level = 3; reason = None } ∷ record { lit = pos 4; level = 3; reason = Some 1 } ∷ [];
}

-- they are a propagation
example_held : IsPropagation example
unfolding example is_trail
example_held = record { vars = refl; clauses = refl; numbers = refl; trail = refl }

-- quiet below level 3
example_quiet : IsQuietBelow example
unfolding example
example_quiet = record { quiet = by_level }
  where
    by_level : (level : ℕ) → level < 3 → is_quiet (assignment_along (up_to_level level example.trail)) example.clauses ≡ true
    by_level zero lt = refl
    by_level (suc zero) lt = refl
    by_level (suc (suc zero)) lt = refl
    by_level (suc (suc (suc n))) lt = absurd (omega (arith, lt))

-- the second clause is false
example_false : is_false (assigned example) (negsuc 0 ∷ negsuc 2 ∷ negsuc 3 ∷ []) ≡ true
unfolding example
example_false = refl

-- the clause {-1, -3} is learned for level 1
example_learned : IsLearnedFor example.trail (negsuc 0 ∷ negsuc 2 ∷ []) (negsuc 2) 1
unfolding example
example_learned = record {
  falsified = refl;
  there = refl;
  present = refl;
  below = omega arith;
  others = λ k m apart. elim (or_true (int_eq k (negsuc 0)) (contains (negsuc 2 ∷ []) k) m) [
    | inl y ↦ subst (λ (x : ℤ). stands_up_to example.trail 1 x ≡ true) (sym (same_int k (negsuc 0) y)) refl
    | inr y ↦ elim (or_true (int_eq k (negsuc 2)) false y) [
      | inl z ↦ absurd (apart (same_int k (negsuc 2) z))
      | inr z ↦ absurd (let f : ⊥ = cc in f)
    ]
  ];
  reached = λ lt. (negsuc 0, refl, refl);
}

-- and the false clause itself is not, since it has two literals of level 3
example_not_learned : (level : ℕ) → IsLearnedFor example.trail (negsuc 0 ∷ negsuc 2 ∷ negsuc 3 ∷ []) (negsuc 2) level → ⊥
unfolding example
example_not_learned level l =
    let low = low_there example.trail level (negsuc 3) (l.others (negsuc 3) refl (λ e. (let f : ⊥ = cc in f))) in
    let same : Some 3 ≡ Some low.low = low.is in
    let three : 3 ≡ low.low = cc same in
    let below : level < 3 = l.below in
    let within = low.within in
    omega (arith, three, within, below)
