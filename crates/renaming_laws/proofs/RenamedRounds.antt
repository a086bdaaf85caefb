-- What rounds use and block under other variables and other numbers.
use Rattle.std.proofs.Common.{◌≡◌, ℕ, zero, suc, ◌<◌, ◌≤◌, Bool, true, false, cond, ◌&&◌, ◌||◌, ◌==◌, nat_le, List, [], ◌∷◌, ◌++◌, refl, sym, ◌∙◌, ap, subst, ℤ, inl, inr, map, filter, length, arith}
use Rattle.std.specs.List.{flat_map}
use Rattle.std.proofs.lemmas.Bool.{cases_Bool, eqb-true, eqb-false, leb-true, leb-false}
use Rattle.std.proofs.lemmas.List.{map-append}
use Rattle.lk_model.specs.Lists.{among, rises_within}
use Rattle.lk_model.specs.Formulas.Literal.{variable}
use Rattle.lk_model.specs.Formulas.Formula.{Cnf, clause_at, positions_of}
use Rattle.lk_model.specs.Formulas.Crossed.{Variables, crossed_out}
use Rattle.lk_model.specs.Chains.Chain.{names_of}
use Rattle.lk_model.specs.Chains.Rounds.{StepAt, reached, is_refutation, used_positions, variables_used, blocked_after_round, blocked_after, has_progress}
use Rattle.lk_model.specs.declared.document.Turn.{Turn}
use Rattle.lk_model.specs.declared.document.Step.{Step}
use Rattle.lk_model.specs.declared.document.Round.{Round}
use Rattle.lk_model.proofs.Rising.{range_rises}
use Rattle.lk_model.proofs.Counting.{among-range}
use Rattle.lk_model.proofs.Lists.{from_mapped}
use Rattle.general_laws.proofs.Stated.{step_at, NoneIn}
use Rattle.general_laws.proofs.Renumbering.{among_renumbered}
use Rattle.renaming_laws.proofs.Mapped.{filter_mapped, empty_mapped, map_twice, flat_mapped, rises_mapped, only_these}
use Rattle.renaming_laws.proofs.RenamedClauses.{variables_renamed}
use Rattle.renaming_laws.specs.Renaming.{turn_under, step_under, round_under}
use Rattle.renaming_laws.proofs.RenamedChains.{Translates, IsCopied, Agrees, crossed_copied, none_renamed}

-- WHAT IS REACHED

-- what a step names
pub names_renamed : (g : ℤ → ℤ) (f : ℕ → ℕ) (s : Step) → names_of (step_under g f s) ≡ map f (names_of s)
names_renamed g f s =
    ap (λ (ks : List ℕ). f s.first ∷ ks)
    (map_twice (turn_under g f) (λ (t : Turn). t.with) (λ (t : Turn). f t.with) (λ t. refl) s.turns ∙ sym (map_twice (λ (t : Turn). t.with) f (λ (t : Turn). f t.with) (λ t. refl) s.turns))

pub reached_renamed : (g : ℤ → ℤ) (f : ℕ → ℕ) → ((a b : ℕ) → (f a == f b) ≡ (a == b)) → (steps : List Step) → reached (map (step_under g f) steps) ≡ map f (reached steps)
unfolding reached
reached_renamed g f same [] = refl
reached_renamed g f same (s ∷ []) = ap (λ (ks : List ℕ). f s.number ∷ ks) (names_renamed g f s)
reached_renamed g f same (s ∷ t ∷ later) =
    let known = reached (t ∷ later) in
    let rest = reached_renamed g f same (t ∷ later) in
    at_test (reached (map (step_under g f) (t ∷ later))) known rest (among (reached (map (step_under g f) (t ∷ later))) (f s.number)) (among known s.number)
    (ap (λ (ks : List ℕ). among ks (f s.number)) rest ∙ among_renumbered f same known s.number)
  where
    at_test : (new known : List ℕ) → new ≡ map f known → (a b : Bool) → a ≡ b
        → cond a (names_of (step_under g f s) ++ new) new ≡ map f (cond b (names_of s ++ known) known)
    at_test new known e true true h = ap (λ (ks : List ℕ). ks ++ new) (names_renamed g f s) ∙ ap (λ (ks : List ℕ). map f (names_of s) ++ ks) e ∙ sym (map-append f (names_of s) known)
    at_test new known e false false h = e
    at_test new known e true false h = absurd (let z : ⊥ = cc in z)
    at_test new known e false true h = absurd (let z : ⊥ = cc in z)

-- a refutation stays one
pub refutation_renamed : (g : ℤ → ℤ) (f : ℕ → ℕ) (steps : List Step) → is_refutation (map (step_under g f) steps) ≡ is_refutation steps
refutation_renamed g f [] = refl
refutation_renamed g f (s ∷ []) = empty_mapped g s.clause
refutation_renamed g f (s ∷ t ∷ later) = refutation_renamed g f (t ∷ later)

-- WHAT IS USED

-- a position that a new round reaches is one that stands for a position of G
reached_position : (F G : Cnf) (ν : ℕ → ℕ) (g : ℤ → ℤ) (f : ℕ → ℕ) → Translates F G ν g f → (ks : List ℕ) (k : ℕ) → 0 < k → k ≤ length F.clauses
    → among (map f ks) k ≡ true → among (map f (positions_of G)) k ≡ true
reached_position F G ν g f new ks k least most m =
    let w = from_mapped f ks k m in
    let is = w.2 in
    elim (cases_Bool (nat_le w.0 (length G.clauses))) [
      | inr gt ↦ (let past = new.past w.0 (leb-false w.0 (length G.clauses) gt) in absurd (omega (arith, past, is, most)))
      | inl le ↦ elim (cases_Bool (w.0 == 0)) [
        | inl z ↦ (let none = ap f (eqb-true w.0 0 z) ∙ new.none in absurd (omega (arith, none, is, least)))
        | inr n ↦
            (let apart = eqb-false w.0 0 n in
            let inside = leb-true w.0 (length G.clauses) le in
            let there = among-range 1 (length G.clauses) w.0 (above_zero w.0 apart) (omega (arith, inside)) in
            subst (λ (j : ℕ). among (map f (positions_of G)) j ≡ true) is (among_renumbered f new.same (positions_of G) w.0 ∙ there))
      ]
    ]
  where
    above_zero : (j : ℕ) → (j ≡ 0 → ⊥) → 1 ≤ j
    above_zero zero n = absurd (n refl)
    above_zero (suc j) n = omega arith

-- the positions of G, told anew, rise
positions_rise : (F G : Cnf) (ν : ℕ → ℕ) (g : ℤ → ℤ) (f : ℕ → ℕ) → Translates F G ν g f → rises_within 0 (length F.clauses) (map f (positions_of G)) ≡ true
positions_rise F G ν g f new =
    rises_mapped f 0 (length G.clauses) 0 (length F.clauses) (positions_of G) new.rise new.low (λ k lt. let above = new.rise 0 k lt in let none = new.none in omega (arith, above, none))
    (range_rises 0 (length G.clauses) 1 (length G.clauses) (omega arith) (omega arith))

pub used_renamed : (F G : Cnf) (ν : ℕ → ℕ) (g : ℤ → ℤ) (f : ℕ → ℕ) → Translates F G ν g f → (r : Round) → used_positions F (round_under g f r) ≡ map f (used_positions G r)
used_renamed F G ν g f new r =
    ap (λ (ks : List ℕ). filter (among ks) (positions_of F)) (reached_renamed g f new.same r.steps)
    ∙ only_these (among (map f (reached r.steps))) 0 (length F.clauses) (length F.clauses) (map f (positions_of G)) (omega arith) (positions_rise F G ν g f new)
    (λ k least most m. reached_position F G ν g f new (reached r.steps) k least most m)
    ∙ filter_mapped f (among (map f (reached r.steps))) (among (reached r.steps)) (among_renumbered f new.same (reached r.steps)) (positions_of G)

pub variables_used_renamed : (F G : Cnf) (ν : ℕ → ℕ) (g : ℤ → ℤ) (f : ℕ → ℕ) → IsCopied F G ν g f → (b d : Variables) → Agrees ν b d → (r : Round)
    → variables_used F d (round_under g f r) ≡ map ν (variables_used G b r)
variables_used_renamed F G ν g f new b d agree r =
    ap (flat_map (λ p. map variable (crossed_out d (clause_at F p)))) (used_renamed F G ν g f new.numbers r)
    ∙ flat_mapped f ν (λ p. map variable (crossed_out b (clause_at G p))) (λ p. map variable (crossed_out d (clause_at F p)))
    (λ p. ap (map variable) (crossed_copied F G ν g f new b d agree p) ∙ variables_renamed ν g new.numbers.renames (crossed_out b (clause_at G p))) (used_positions G r)

-- WHAT IS BLOCKED

-- after a round the sets agree again
agrees_after_round : (F G : Cnf) (ν : ℕ → ℕ) (g : ℤ → ℤ) (f : ℕ → ℕ) → IsCopied F G ν g f → (b d : Variables) → Agrees ν b d → (r : Round)
    → Agrees ν (blocked_after_round G b r) (blocked_after_round F d (round_under g f r))
agrees_after_round F G ν g f new b d agree r v =
    ap (λ (x : Bool). x || (is_refutation (map (step_under g f) r.steps) && among (variables_used F d (round_under g f r)) (ν v))) (agree v)
    ∙ ap (λ (x : Bool). b v || (x && among (variables_used F d (round_under g f r)) (ν v))) (refutation_renamed g f r.steps)
    ∙ ap (λ (vs : List ℕ). b v || (is_refutation r.steps && among vs (ν v))) (variables_used_renamed F G ν g f new b d agree r)
    ∙ ap (λ (x : Bool). b v || (is_refutation r.steps && x)) (among_renumbered ν new.numbers.renames.variables (variables_used G b r) v)

-- and after all rounds
pub agrees_after : (F G : Cnf) (ν : ℕ → ℕ) (g : ℤ → ℤ) (f : ℕ → ℕ) → IsCopied F G ν g f → (b d : Variables) → Agrees ν b d → (rounds : List Round)
    → Agrees ν (blocked_after G b rounds) (blocked_after F d (map (round_under g f) rounds))
unfolding blocked_after
agrees_after F G ν g f new b d agree [] = agree
agrees_after F G ν g f new b d agree (r ∷ rounds) =
    agrees_after F G ν g f new (blocked_after_round G b r) (blocked_after_round F d (round_under g f r)) (agrees_after_round F G ν g f new b d agree r) rounds

-- so each whole round blocks a new variable where each old one does
pub progress_renamed : (F G : Cnf) (ν : ℕ → ℕ) (g : ℤ → ℤ) (f : ℕ → ℕ) → IsCopied F G ν g f → (b d : Variables) → Agrees ν b d → (rounds : List Round)
    → has_progress F d (map (round_under g f) rounds) ≡ has_progress G b rounds
unfolding has_progress
progress_renamed F G ν g f new b d agree [] = refl
progress_renamed F G ν g f new b d agree (r ∷ rounds) =
    rw (
      refutation_renamed g f r.steps,
      variables_used_renamed F G ν g f new b d agree r,
      empty_mapped ν (variables_used G b r),
      progress_renamed F G ν g f new (blocked_after_round G b r) (blocked_after_round F d (round_under g f r)) (agrees_after_round F G ν g f new b d agree r) rounds,
    ) refl

-- and what fails at no step of the rounds fails at none of the new ones
pub none_in_renamed : (t : StepAt → Bool) (F G : Cnf) (ν : ℕ → ℕ) (g : ℤ → ℤ) (f : ℕ → ℕ) → IsCopied F G ν g f → (P : List ℕ)
    → ((b d : Variables) → Agrees ν b d → (earlier : List Step) (s : Step)
    → t (step_at F (map f P) d (map (step_under g f) earlier) (step_under g f s)) ≡ t (step_at G P b earlier s))
    → (b d : Variables) → Agrees ν b d → (rounds : List Round) → NoneIn t G P b rounds → NoneIn t F (map f P) d (map (round_under g f) rounds)
none_in_renamed t F G ν g f new P same b d agree [] none = tt
none_in_renamed t F G ν g f new P same b d agree (r ∷ rounds) none = (
  none_renamed t F G g f P b d (same b d agree) [] r.steps none.0,
  none_in_renamed t F G ν g f new P same (blocked_after_round G b r) (blocked_after_round F d (round_under g f r)) (agrees_after_round F G ν g f new b d agree r) rounds none.1,
)
