-- What a test says of the steps of rounds, step by step.
use Rattle.std.proofs.Common.{◌≡◌, ℕ, Bool, true, false, cond, List, [], ◌∷◌, ◌++◌, refl, Some, None, map, find}
use Rattle.std.specs.Prelude.{⊤}
use Rattle.std.specs.List.{list_all}
use Rattle.lk_model.specs.Lists.{with_earlier}
use Rattle.lk_model.specs.Formulas.Formula.{Cnf}
use Rattle.lk_model.specs.Formulas.Crossed.{Variables}
use Rattle.lk_model.specs.Chains.Rounds.{StepAt, steps_in_rounds, blocked_after_round}
use Rattle.lk_model.specs.declared.document.Step.{Step}
use Rattle.lk_model.specs.declared.document.Round.{Round}
use Rattle.lk_model.proofs.Booleans.{and_true}
use Rattle.general_laws.proofs.Numbering.{premises_in}

-- the step, after these of its round
abbrev pub step_at : Cnf → List ℕ → Variables → List Step → Step → StepAt
step_at F part blocked earlier s = record { step = s; premises = premises_in F part blocked earlier }

-- the test fails at no step of a round, after these
abbrev pub NoneOf : (StepAt → Bool) → Cnf → List ℕ → Variables → List Step → List Step → Type 0
NoneOf t F part blocked earlier [] = ⊤
NoneOf t F part blocked earlier (s ∷ steps) = (t (step_at F part blocked earlier s) ≡ false) × NoneOf t F part blocked (earlier ++ s ∷ []) steps

-- and at no step of some rounds
abbrev pub NoneIn : (StepAt → Bool) → Cnf → List ℕ → Variables → List Round → Type 0
NoneIn t F part blocked [] = ⊤
NoneIn t F part blocked (r ∷ rounds) = NoneOf t F part blocked [] r.steps × NoneIn t F part (blocked_after_round F blocked r) rounds

-- a test that is found nowhere in a list fails at its first element
not_found_head : {X : Type 0} (t : X → Bool) (x : X) (xs : List X) → find t (x ∷ xs) ≡ None → (t x ≡ false) × (find t xs ≡ None)
not_found_head t x xs e = at_test (t x) e
  where
    at_test : (b : Bool) → cond b (Some x) (find t xs) ≡ None → (b ≡ false) × (find t xs ≡ None)
    at_test true e = absurd (let f : ⊥ = cc in f)
    at_test false e = (refl, e)

-- what is found at no step of a round fails at each
none_of : (t : StepAt → Bool) (F : Cnf) (part : List ℕ) (blocked : Variables) (earlier steps : List Step) (rest : List StepAt)
    → find t (map (λ (entry : List Step × Step). step_at F part blocked entry.0 entry.1) (with_earlier earlier steps) ++ rest) ≡ None
    → NoneOf t F part blocked earlier steps × (find t rest ≡ None)
none_of t F part blocked earlier [] rest e = (tt, e)
none_of t F part blocked earlier (s ∷ steps) rest e =
    let head = not_found_head t (step_at F part blocked earlier s)
    (map (λ (entry : List Step × Step). step_at F part blocked entry.0 entry.1) (with_earlier (earlier ++ s ∷ []) steps) ++ rest) e in
    let more = none_of t F part blocked (earlier ++ s ∷ []) steps rest head.1 in
    ((head.0, more.0), more.1)

-- so where the test is found nowhere
pub none_in : (t : StepAt → Bool) (F : Cnf) (part : List ℕ) (blocked : Variables) (rounds : List Round)
    → find t (steps_in_rounds F part blocked rounds) ≡ None → NoneIn t F part blocked rounds
unfolding steps_in_rounds
none_in t F part blocked [] e = tt
none_in t F part blocked (r ∷ rounds) e =
    let both = none_of t F part blocked [] r.steps (steps_in_rounds F part (blocked_after_round F blocked r) rounds) e in
    (both.0, none_in t F part (blocked_after_round F blocked r) rounds both.1)

-- THE CONVERSE

-- a test that fails at the first element and is not found in the rest
not_found : {X : Type 0} (t : X → Bool) (x : X) (xs : List X) → t x ≡ false → find t xs ≡ None → find t (x ∷ xs) ≡ None
not_found t x xs e f = rw e f

-- a test that fails at each step of a round is found at none
find_of : (t : StepAt → Bool) (F : Cnf) (part : List ℕ) (blocked : Variables) (earlier steps : List Step) (rest : List StepAt)
    → NoneOf t F part blocked earlier steps → find t rest ≡ None
    → find t (map (λ (entry : List Step × Step). step_at F part blocked entry.0 entry.1) (with_earlier earlier steps) ++ rest) ≡ None
find_of t F part blocked earlier [] rest none e = e
find_of t F part blocked earlier (s ∷ steps) rest none e =
    not_found t (step_at F part blocked earlier s) _ none.0 (find_of t F part blocked (earlier ++ s ∷ []) steps rest none.1 e)

-- and so the test is found nowhere where it fails everywhere
pub find_in : (t : StepAt → Bool) (F : Cnf) (part : List ℕ) (blocked : Variables) (rounds : List Round)
    → NoneIn t F part blocked rounds → find t (steps_in_rounds F part blocked rounds) ≡ None
unfolding steps_in_rounds
find_in t F part blocked [] none = refl
find_in t F part blocked (r ∷ rounds) none =
    find_of t F part blocked [] r.steps (steps_in_rounds F part (blocked_after_round F blocked r) rounds) none.0
    (find_in t F part (blocked_after_round F blocked r) rounds none.1)

-- TESTS OF ALL STEPS OF A ROUND

-- a test that passes at each step of a round, where another fails
pub none_of_all : (t : StepAt → Bool) (u : List Step × Step → Bool) (F : Cnf) (part : List ℕ) (blocked : Variables) (earlier steps : List Step)
    → ((before : List Step) (s : Step) → u (before, s) ≡ true → t (step_at F part blocked before s) ≡ false)
    → list_all u (with_earlier earlier steps) ≡ true → NoneOf t F part blocked earlier steps
none_of_all t u F part blocked earlier [] h e = tt
none_of_all t u F part blocked earlier (s ∷ steps) h e =
    let both = and_true (u (earlier, s)) (list_all u (with_earlier (earlier ++ s ∷ []) steps)) e in
    (h earlier s both.0, none_of_all t u F part blocked (earlier ++ s ∷ []) steps h both.1)
