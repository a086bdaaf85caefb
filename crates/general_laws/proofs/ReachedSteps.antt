-- The steps of a round whose numbers pass a test, as those that are reached from the last one, by themselves.
use Rattle.std.proofs.Common.{◌≡◌, ℕ, suc, ◌<◌, Bool, true, false, cond, ◌==◌, nat_le, List, [], ◌∷◌, ◌++◌, refl, sym, ◌∙◌, ap, subst, ℤ, Some, None, inl, inr, find, filter, length, arith, option_map, Contains}
use Rattle.std.proofs.lemmas.Bool.{eqb-true, not-false, not_from_true}
use Rattle.std.proofs.lemmas.List.{append-nil}
use Rattle.std.proofs.lemmas.List.Elements.{filter-append}
use Rattle.lk_model.specs.Lists.{among}
use Rattle.lk_model.specs.Formulas.Formula.{Cnf, clause_at, positions_of}
use Rattle.lk_model.specs.Formulas.Crossed.{Variables, crossed_out}
use Rattle.lk_model.specs.Chains.Chain.{clause_named, names_of, states_its_clause}
use Rattle.lk_model.specs.Chains.Rounds.{reached, is_refutation}
use Rattle.lk_model.specs.declared.document.Step.{Step}
use Rattle.lk_model.proofs.Booleans.{and_true}
use Rattle.lk_model.proofs.Counting.{in_filter}
use Rattle.lk_model.proofs.Lists.{among_here, among_left, among_right, among_either}
use Rattle.general_laws.specs.JoinLaw.{renumbered}
use Rattle.general_laws.proofs.Chains.{are_real}
use Rattle.general_laws.proofs.Numbering.{AreRising, rise_from, premises_in, clause_of}
use Rattle.general_laws.proofs.Reaching.{is_misstated, are_real_steps}
use Rattle.general_laws.proofs.Renumbering.{step_carried, same_steps}
use Rattle.general_laws.proofs.Stated.{NoneOf}

-- the steps with such numbers
abbrev pub kept_steps : (ℕ → Bool) → List Step → List Step
kept_steps K steps = filter (λ (s : Step). K s.number) steps

-- THEIR NUMBERS AND TURNS

pub kept_rise : (K : ℕ → Bool) (low : ℕ) (steps : List Step) → AreRising low steps → AreRising low (kept_steps K steps)
kept_rise K low [] r = tt
kept_rise K low (s ∷ steps) r = at_test (K s.number) r.0 (kept_rise K s.number steps r.1)
  where
    at_test : (b : Bool) → low < s.number → AreRising s.number (kept_steps K steps) → AreRising low (cond b (s ∷ kept_steps K steps) (kept_steps K steps))
    at_test true lt rest = (lt, rest)
    at_test false lt rest = rise_from low s.number (kept_steps K steps) (omega (arith, lt)) rest

pub kept_real : (K : ℕ → Bool) (steps : List Step) → are_real_steps steps ≡ true → are_real_steps (kept_steps K steps) ≡ true
kept_real K [] e = refl
kept_real K (s ∷ steps) e =
    let both = and_true (are_real s.turns) (are_real_steps steps) e in
    at_test (K s.number) both.0 (kept_real K steps both.1)
  where
    at_test : (b : Bool) → are_real s.turns ≡ true → are_real_steps (kept_steps K steps) ≡ true → are_real_steps (cond b (s ∷ kept_steps K steps) (kept_steps K steps)) ≡ true
    at_test true here rest = rw (here, rest) refl
    at_test false here rest = rest

-- WHAT THEY STATE

-- such a number is found among them where it is found at all
found_kept : (K : ℕ → Bool) (steps : List Step) (k : ℕ) → K k ≡ true → find (λ (s : Step). s.number == k) (kept_steps K steps) ≡ find (λ (s : Step). s.number == k) steps
found_kept K [] k h = refl
found_kept K (s ∷ steps) k h = at_tests (s.number == k) (K s.number) refl refl (found_kept K steps k h)
  where
    at_tests : (t u : Bool) → (s.number == k) ≡ t → K s.number ≡ u → find (λ (s : Step). s.number == k) (kept_steps K steps) ≡ find (λ (s : Step). s.number == k) steps
        → find (λ (s : Step). s.number == k) (cond u (s ∷ kept_steps K steps) (kept_steps K steps)) ≡ cond t (Some s) (find (λ (s : Step). s.number == k) steps)
    at_tests true true e f rest = ap (λ (b : Bool). cond b (Some s) (find (λ (s : Step). s.number == k) (kept_steps K steps))) e
    at_tests true false e f rest =
        let kept : K s.number ≡ true = subst (λ (j : ℕ). K j ≡ true) (sym (eqb-true s.number k e)) h in
        absurd (let g : true ≡ false = sym kept ∙ f in let z : ⊥ = cc in z)
    at_tests false true e f rest = ap (λ (b : Bool). cond b (Some s) (find (λ (s : Step). s.number == k) (kept_steps K steps))) e ∙ rest
    at_tests false false e f rest = rest

-- such a number stands for the same clause over the positions with such numbers
named_kept : (F : Cnf) (K : ℕ → Bool) (b : Variables) (earlier : List Step) (k : ℕ) (c : List ℤ) → K k ≡ true
    → clause_named (premises_in F (positions_of F) b earlier) k ≡ Some c → clause_named (premises_in F (filter K (positions_of F)) b (kept_steps K earlier)) k ≡ Some c
named_kept F K b earlier k c h e = at_test (nat_le k (length F.clauses)) e
  where
    at_position : (t : Bool) → among (positions_of F) k ≡ t → cond t (Some (crossed_out b (clause_at F k))) None ≡ Some c → cond (among (filter K (positions_of F)) k) (Some (crossed_out b (clause_at F k))) None ≡ Some c
    at_position true m f = ap (λ (t : Bool). cond t (Some (crossed_out b (clause_at F k))) None) (in_filter K (positions_of F) k h m) ∙ f
    at_position false m f = absurd (let z : ⊥ = cc in z)

    at_test : (t : Bool) → cond t (cond (among (positions_of F) k) (Some (crossed_out b (clause_at F k))) None) (clause_of earlier k) ≡ Some c
        → cond t (cond (among (filter K (positions_of F)) k) (Some (crossed_out b (clause_at F k))) None) (clause_of (kept_steps K earlier) k) ≡ Some c
    at_test true f = at_position (among (positions_of F) k) refl f
    at_test false f = ap (option_map (λ (s : Step). s.clause)) (found_kept K earlier k h) ∙ f

-- so a step that names such numbers alone states the same clause
step_kept : (F : Cnf) (K : ℕ → Bool) (b : Variables) (earlier : List Step) (s : Step) → ((k : ℕ) → among (names_of s) k ≡ true → K k ≡ true)
    → states_its_clause (premises_in F (positions_of F) b earlier) s ≡ true → states_its_clause (premises_in F (filter K (positions_of F)) b (kept_steps K earlier)) s ≡ true
step_kept F K b earlier s names h =
    let both : renumbered (λ k. k) s ∷ [] ≡ s ∷ [] = same_steps (s ∷ []) in
    let same : renumbered (λ k. k) s ≡ s = cc in
    subst (λ (u : Step). states_its_clause (premises_in F (filter K (positions_of F)) b (kept_steps K earlier)) u ≡ true) same
    (step_carried (λ k. k) (premises_in F (positions_of F) b earlier) (premises_in F (filter K (positions_of F)) b (kept_steps K earlier)) s
    (λ k c m e. named_kept F K b earlier k c (names k m) e) h)

-- each step with such a number names such numbers alone
abbrev pub IsClosed : (ℕ → Bool) → List Step → Type 0
IsClosed K steps = (s : Step) → Contains steps s → K s.number ≡ true → (k : ℕ) → among (names_of s) k ≡ true → K k ≡ true

first_contained : (s : Step) (steps : List Step) → Contains (s ∷ steps) s
first_contained s steps = (0, omega arith, refl)

closed_rest : (K : ℕ → Bool) (s : Step) (steps : List Step) → IsClosed K (s ∷ steps) → IsClosed K steps
closed_rest K s steps h u (j, lt, e) = h u (suc j, omega (arith, lt), e)

pub kept_state : (F : Cnf) (K : ℕ → Bool) (b : Variables) (earlier steps : List Step) → IsClosed K steps → NoneOf is_misstated F (positions_of F) b earlier steps
    → NoneOf is_misstated F (filter K (positions_of F)) b (kept_steps K earlier) (kept_steps K steps)
kept_state F K b earlier [] h none = tt
kept_state F K b earlier (s ∷ steps) h none =
    at_test (K s.number) refl
    (subst (λ (us : List Step). NoneOf is_misstated F (filter K (positions_of F)) b us (kept_steps K steps)) (filter-append (λ (s : Step). K s.number) earlier (s ∷ []))
    (kept_state F K b (earlier ++ s ∷ []) steps (closed_rest K s steps h) none.1))
  where
    at_test : (t : Bool) → K s.number ≡ t → NoneOf is_misstated F (filter K (positions_of F)) b (kept_steps K earlier ++ cond t (s ∷ []) []) (kept_steps K steps)
        → NoneOf is_misstated F (filter K (positions_of F)) b (kept_steps K earlier) (cond t (s ∷ kept_steps K steps) (kept_steps K steps))
    at_test true e rest = (
      not_from_true (states_its_clause (premises_in F (filter K (positions_of F)) b (kept_steps K earlier)) s)
          (step_kept F K b earlier s (h s (first_contained s steps) e) (not-false (states_its_clause (premises_in F (positions_of F) b earlier) s) none.0)),
      rest,
    )
    at_test false e rest = subst (λ (us : List Step). NoneOf is_misstated F (filter K (positions_of F)) b us (kept_steps K steps)) (append-nil (kept_steps K earlier)) rest

-- WHAT IS REACHED

-- what is reached passes the test
abbrev pub IsReachedIn : (ℕ → Bool) → List Step → Type 0
IsReachedIn K steps = (k : ℕ) → among (reached steps) k ≡ true → K k ≡ true

-- a step in front of a refutation
refutation_behind : (s : Step) (steps : List Step) → is_refutation steps ≡ true → is_refutation (s ∷ steps) ≡ true
refutation_behind s [] e = absurd (let f : ⊥ = cc in f)
refutation_behind s (t ∷ steps) e = e

reached_behind : (s : Step) (steps : List Step) → is_refutation steps ≡ true → reached (s ∷ steps) ≡ cond (among (reached steps) s.number) (names_of s ++ reached steps) (reached steps)
unfolding reached
reached_behind s [] e = absurd (let f : ⊥ = cc in f)
reached_behind s (t ∷ steps) e = refl

in_either : (s : Step) (known : List ℕ) (b : Bool) (k : ℕ) → among known k ≡ true → among (cond b (names_of s ++ known) known) k ≡ true
in_either s known true k m = among_right (names_of s) known k m
in_either s known false k m = m

reached_more : (s : Step) (steps : List Step) (k : ℕ) → is_refutation steps ≡ true → among (reached steps) k ≡ true → among (reached (s ∷ steps)) k ≡ true
reached_more s steps k e m =
    subst (λ (ks : List ℕ). among ks k ≡ true) (sym (reached_behind s steps e)) (in_either s (reached steps) (among (reached steps) s.number) k m)

last_reached : (s : Step) → among (reached (s ∷ [])) s.number ≡ true
unfolding reached
last_reached s = among_here s.number (names_of s)

-- the steps that are reached refute, and they reach what all do
pub record KeepsReached (K : ℕ → Bool) (steps : List Step) : Type 0 where
  pub refutes : is_refutation (kept_steps K steps) ≡ true
  pub reaches : (k : ℕ) → among (reached steps) k ≡ true → among (reached (kept_steps K steps)) k ≡ true

pub keeps_reached : (K : ℕ → Bool) (steps : List Step) → is_refutation steps ≡ true → IsReachedIn K steps → KeepsReached K steps
keeps_reached K [] e inside = absurd (let f : ⊥ = cc in f)
keeps_reached K (s ∷ []) e inside =
    let kept : K s.number ≡ true = inside s.number (last_reached s) in
    let same : kept_steps K (s ∷ []) ≡ s ∷ [] = ap (λ (b : Bool). cond b (s ∷ []) []) kept in
    record {
      refutes = ap is_refutation same ∙ e;
      reaches = λ k m. subst (λ (us : List Step). among (reached us) k ≡ true) (sym same) m;
    }
keeps_reached K (s ∷ t ∷ later) e inside =
    at_test (keeps_reached K (t ∷ later) e (λ k m. inside k (reached_more s (t ∷ later) k e m))) (K s.number) refl
  where
    kept : List Step
    kept = kept_steps K (t ∷ later)

    known : List ℕ
    known = reached (t ∷ later)

    split : (k : ℕ) → among (reached (s ∷ t ∷ later)) k ≡ true → among (cond (among known s.number) (names_of s ++ known) known) k ≡ true
    split k m = subst (λ (ks : List ℕ). among ks k ≡ true) (reached_behind s (t ∷ later) e) m

    with_step : KeepsReached K (t ∷ later) → (k : ℕ) (b : Bool) → among known s.number ≡ b → among (cond b (names_of s ++ known) known) k ≡ true
        → among (cond (among (reached kept) s.number) (names_of s ++ reached kept) (reached kept)) k ≡ true
    with_step rest k true own m =
        subst (λ (b : Bool). among (cond b (names_of s ++ reached kept) (reached kept)) k ≡ true) (sym (rest.reaches s.number own))
        (elim (among_either (names_of s) known k m) [
          | inl named ↦ among_left (names_of s) (reached kept) k named
          | inr there ↦ among_right (names_of s) (reached kept) k (rest.reaches k there)
        ])
    with_step rest k false own m = in_either s (reached kept) (among (reached kept) s.number) k (rest.reaches k m)

    without_step : KeepsReached K (t ∷ later) → K s.number ≡ false → (k : ℕ) (b : Bool) → among known s.number ≡ b → among (cond b (names_of s ++ known) known) k ≡ true
        → among (reached kept) k ≡ true
    without_step rest out k true own m =
        let passes : K s.number ≡ true = inside s.number (reached_more s (t ∷ later) s.number e own) in
        absurd (let f : true ≡ false = sym passes ∙ out in let z : ⊥ = cc in z)
    without_step rest out k false own m = rest.reaches k m

    at_test : KeepsReached K (t ∷ later) → (b : Bool) → K s.number ≡ b → KeepsReached K (s ∷ t ∷ later)
    at_test rest true passes =
        let same : kept_steps K (s ∷ t ∷ later) ≡ s ∷ kept = ap (λ (b : Bool). cond b (s ∷ kept) kept) passes in
        record {
          refutes = ap is_refutation same ∙ refutation_behind s kept rest.refutes;
          reaches = λ k m. subst (λ (us : List Step). among (reached us) k ≡ true) (sym same)
              (subst (λ (ks : List ℕ). among ks k ≡ true) (sym (reached_behind s kept rest.refutes)) (with_step rest k (among known s.number) refl (split k m)));
        }
    at_test rest false out =
        let same : kept_steps K (s ∷ t ∷ later) ≡ kept = ap (λ (b : Bool). cond b (s ∷ kept) kept) out in
        record {
          refutes = ap is_refutation same ∙ rest.refutes;
          reaches = λ k m. subst (λ (us : List Step). among (reached us) k ≡ true) (sym same) (without_step rest out k (among known s.number) refl (split k m));
        }
