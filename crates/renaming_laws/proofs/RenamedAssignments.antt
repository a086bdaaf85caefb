-- Assignments to other variables, and unit propagation over clauses under these.
use Rattle.std.proofs.Common.{◌≡◌, ℕ, zero, suc, ◌<◌, ◌≤◌, Bool, true, false, cond, not, ◌&&◌, ◌==◌, List, refl, ◌∙◌, ap, ℤ, pos, negsuc, neg_ℤ, Option, None, is_some, unwrap_or, inl, inr, map, filter, length, arith}
use Rattle.std.proofs.lemmas.Bool.{cases_Bool, eqb-true, eqb-false, cond-true, cond-false}
use Rattle.std.proofs.lemmas.List.{length-map}
use Rattle.lk_model.specs.Formulas.Literal.{variable, complement, contains}
use Rattle.lk_model.specs.Formulas.Assignment.{Assignment, makes_true, assignment_of, satisfies}
use Rattle.lk_model.specs.Formulas.Units.{is_false, is_unset, is_unit_under, is_at_rest, IsUndecided}
use Rattle.renaming_laws.proofs.Mapped.{any_mapped, all_mapped, filter_mapped}
use Rattle.renaming_laws.proofs.RenamedClauses.{Renames, literal_on, contains_renamed}

-- the one assignment gives the new variables the values that the other one gives the old ones
abbrev pub Follows : (ℕ → ℕ) → Assignment → Assignment → Type 0
Follows ν φ ψ = (v : ℕ) → ψ (ν v) ≡ φ v

-- LITERALS AND CLAUSES

-- that of new literals follows that of the old ones
pub assignment_renamed : (ν : ℕ → ℕ) → Renames ν (literal_on ν) → (ls : List ℤ)
    → Follows ν (assignment_of ls) (assignment_of (map (literal_on ν) ls))
assignment_renamed ν new ls v =
    rw (positive, negative) refl
  where
    positive : contains (map (literal_on ν) ls) (pos (ν v)) ≡ contains ls (pos v)
    positive = contains_renamed ν (literal_on ν) new ls (pos v)

    negative : contains (map (literal_on ν) ls) (neg_ℤ (pos (ν v))) ≡ contains ls (neg_ℤ (pos v))
    negative = ap (contains (map (literal_on ν) ls)) (new.complements (pos v))
        ∙ contains_renamed ν (literal_on ν) new ls (neg_ℤ (pos v))

-- the complement of a variable above 0 is true where the variable is false
negative_true : (φ : Assignment) (v : ℕ) → 0 < v → makes_true φ (neg_ℤ (pos v)) ≡ not (unwrap_or (φ v) true)
negative_true φ zero lt = absurd (omega (arith, lt))
negative_true φ (suc k) lt = refl

-- a new literal is true where the old one is
true_renamed : (ν : ℕ → ℕ) → ((k : ℕ) → 0 < ν (suc k)) → (φ ψ : Assignment) → Follows ν φ ψ → (l : ℤ)
    → makes_true ψ (literal_on ν l) ≡ makes_true φ l
true_renamed ν above φ ψ follow (pos v) = ap (λ (o : Option Bool). unwrap_or o false) (follow v)
true_renamed ν above φ ψ follow (negsuc k) =
    negative_true ψ (ν (suc k)) (above k)
    ∙ ap (λ (o : Option Bool). not (unwrap_or o true)) (follow (suc k))

-- and so a new clause is satisfied where the old one is
pub satisfies_renamed : (ν : ℕ → ℕ) → ((k : ℕ) → 0 < ν (suc k)) → (φ ψ : Assignment) → Follows ν φ ψ → (c : List ℤ)
    → satisfies ψ (map (literal_on ν) c) ≡ satisfies φ c
satisfies_renamed ν above φ ψ follow c =
    any_mapped (literal_on ν) (makes_true ψ) (makes_true φ) (true_renamed ν above φ ψ follow) c

-- UNIT PROPAGATION

-- false where that is
false_renamed : (ν : ℕ → ℕ) → Renames ν (literal_on ν) → ((k : ℕ) → 0 < ν (suc k)) → (φ ψ : Assignment) → Follows ν φ ψ
    → (c : List ℤ)
    → is_false ψ (map (literal_on ν) c) ≡ is_false φ c
false_renamed ν new above φ ψ follow c =
    all_mapped (literal_on ν) (λ l. makes_true ψ (complement l)) (λ l. makes_true φ (complement l))
    (λ l. ap (makes_true ψ) (new.complements l) ∙ true_renamed ν above φ ψ follow (complement l)) c

-- unit where that is
unit_renamed : (ν : ℕ → ℕ) → Renames ν (literal_on ν) → ((k : ℕ) → 0 < ν (suc k)) → (φ ψ : Assignment) → Follows ν φ ψ
    → (c : List ℤ)
    → is_unit_under ψ (map (literal_on ν) c) ≡ is_unit_under φ c
unit_renamed ν new above φ ψ follow c =
    ap (λ (b : Bool). not b && length (filter (is_unset ψ) (map (literal_on ν) c)) == 1)
    (satisfies_renamed ν above φ ψ follow c)
    ∙ ap (λ (n : ℕ). not (satisfies φ c) && n == 1)
    (ap (λ (ls : List ℤ). length ls) (filter_mapped (literal_on ν) (is_unset ψ) (is_unset φ) unset c)
    ∙ length-map (filter (is_unset φ) c) (literal_on ν))
  where
    unset : (l : ℤ) → is_unset ψ (literal_on ν l) ≡ is_unset φ l
    unset l = ap (λ (v : ℕ). not (is_some (ψ v))) (new.on l)
        ∙ ap (λ (o : Option Bool). not (is_some o)) (follow (variable l))

-- at rest where that is
rest_renamed : (ν : ℕ → ℕ) → Renames ν (literal_on ν) → ((k : ℕ) → 0 < ν (suc k)) → (φ ψ : Assignment) → Follows ν φ ψ
    → (cs : List (List ℤ))
    → is_at_rest ψ (map (map (literal_on ν)) cs) ≡ is_at_rest φ cs
rest_renamed ν new above φ ψ follow cs =
    all_mapped (map (literal_on ν)) (λ c. not (is_false ψ c) && not (is_unit_under ψ c)) (λ c. not (is_false φ c) && not (is_unit_under φ c))
    (λ c. ap (λ (b : Bool). not b && not (is_unit_under ψ (map (literal_on ν) c))) (false_renamed ν new above φ ψ follow c)
    ∙ ap (λ (b : Bool). not (is_false φ c) && not b) (unit_renamed ν new above φ ψ follow c)) cs

-- AN ASSIGNMENT THAT FOLLOWS

-- the value of the variable below n that has the new number w
value_below : (ℕ → ℕ) → Assignment → ℕ → ℕ → Option Bool
value_below ν φ w zero = None
value_below ν φ w (suc n) = cond (ν n == w) (φ n) (value_below ν φ w n)

-- such a variable has one value
below : (ν : ℕ → ℕ) → ((a b : ℕ) → (ν a == ν b) ≡ (a == b)) → (φ : Assignment) (v n : ℕ) → v < n
    → value_below ν φ (ν v) n ≡ φ v
unfolding value_below
below ν apart φ v zero lt = absurd (omega (arith, lt))
below ν apart φ v (suc n) lt = elim (cases_Bool (n == v)) [
  | inl is ↦ cond-true (ν n == ν v) _ _ (apart n v ∙ is) ∙ ap φ (eqb-true n v is)
  | inr other ↦
      (let differ = eqb-false n v other in
      cond-false (ν n == ν v) _ _ (apart n v ∙ other) ∙ below ν apart φ v n (omega (arith, lt, differ)))
]

-- numbers that rise are no less than what they stand for
rising_most : (ν : ℕ → ℕ) → ((a b : ℕ) → a < b → ν a < ν b) → (v : ℕ) → v ≤ ν v
rising_most ν rise zero = omega arith
rising_most ν rise (suc v) =
    let rest = rising_most ν rise v in
    let up = rise v (suc v) (omega arith) in omega (arith, rest, up)

-- so of each assignment there is one to the new variables
told_by : (ℕ → ℕ) → Assignment → Assignment
told_by ν φ w = value_below ν φ w (suc w)

follows : (ν : ℕ → ℕ) → Renames ν (literal_on ν) → ((a b : ℕ) → a < b → ν a < ν b) → (φ : Assignment)
    → Follows ν φ (told_by ν φ)
unfolding told_by
follows ν new rise φ v = let least = rising_most ν rise v in below ν new.variables φ v (suc (ν v)) (omega (arith, least))

-- and unit propagation decides nothing about new clauses where it decides nothing about the old ones
pub undecided_renamed : (ν : ℕ → ℕ) → Renames ν (literal_on ν) → ((a b : ℕ) → a < b → ν a < ν b) → (cs : List (List ℤ))
    → IsUndecided cs
    → IsUndecided (map (map (literal_on ν)) cs)
undecided_renamed ν new rise cs h =
    let ψ = told_by ν h.φ in
    let follow : Follows ν h.φ ψ = follows ν new rise h.φ in
    let above : (k : ℕ) → 0 < ν (suc k) = (λ k. let up = rise 0 (suc k) (omega arith) in omega (arith, up)) in
    record {
      φ = ψ;
      rests = rest_renamed ν new above h.φ ψ follow cs ∙ h.rests;
      unsatisfied = any_mapped (map (literal_on ν)) (λ c. not (satisfies ψ c)) (λ c. not (satisfies h.φ c))
          (λ c. ap not (satisfies_renamed ν above h.φ ψ follow c)) cs ∙ h.unsatisfied;
    }
