-- What the rounds of a part state and learn, they do over all positions, if the part shares no variable with the others.
use Rattle.std.proofs.Common.{◌≡◌, ℕ, Bool, true, false, not, ◌&&◌, ◌==◌, List, [], ◌∷◌, ◌++◌, refl, sym, ap, subst, ℤ, None, inl, inr, length, arith, option_map}
use Rattle.std.specs.List.{list_any}
use Rattle.std.proofs.lemmas.Bool.{cases_Bool, both_ways, not-true, not_from_false, and_from, false_from_ne_true, eq-eqb}
use Rattle.lk_model.specs.Lists.{among, is_empty}
use Rattle.lk_model.specs.Formulas.Literal.{variable, contains, mentions, is_within, is_tautology}
use Rattle.lk_model.specs.Formulas.Formula.{Cnf, clause_at, positions_of, variable_occurs}
use Rattle.lk_model.specs.Formulas.Lean.{are_positions}
use Rattle.lk_model.specs.Formulas.Crossed.{Variables, crossed_out}
use Rattle.lk_model.specs.Chains.Chain.{is_learned}
use Rattle.lk_model.specs.Chains.Rounds.{StepAt, blocked_after_round}
use Rattle.lk_model.specs.Checks.RoundChecks.{bad_step, not_learned}
use Rattle.lk_model.specs.declared.document.Step.{Step}
use Rattle.lk_model.specs.declared.document.Round.{Round}
use Rattle.lk_model.proofs.Booleans.{and_true, or_left}
use Rattle.lk_model.proofs.ListTests.{passes_each, passes_among, passes_one, passing}
use Rattle.lk_model.proofs.Counting.{among-range}
use Rattle.lk_model.proofs.Rising.{bounded}
use Rattle.lk_model.proofs.Literals.{int_self}
use Rattle.lk_model.proofs.Founds.{option_map-none}
use Rattle.kernel_laws.proofs.Clauses.{from_filtered}
use Rattle.kernel_laws.proofs.Occurrences.{occurs_here}
use Rattle.general_laws.specs.JoinLaw.{IsApart}
use Rattle.general_laws.proofs.Chains.{stated}
use Rattle.general_laws.proofs.Numbering.{premises_in, named_first}
use Rattle.general_laws.proofs.Stated.{NoneOf, NoneIn, none_in, find_in}
use Rattle.general_laws.proofs.Reaching.{is_misstated}
use Rattle.general_laws.proofs.Passing.{Passes, AllPass, StepsPass, steps_pass}
use Rattle.general_laws.proofs.Learning.{is_unlearned}
use Rattle.general_laws.proofs.Renumbering.{stay, same_steps}
use Rattle.general_laws.proofs.Carrying.{names_more, names_stated, steps_carried}

-- a clause over the part's variables contains no non-empty crossed clause of another position
apart_not_within : (F : Cnf) (part : List ℕ) (blocked : Variables) (p : ℕ) (c : List ℤ) → IsApart F part → among part p ≡ false
    → Passes (λ l. variable_occurs F part (variable l)) c
    → (not (is_empty (crossed_out blocked (clause_at F p))) && is_within (crossed_out blocked (clause_at F p)) c) ≡ false
apart_not_within F part blocked p c apart out pass = at_clause (crossed_out blocked (clause_at F p)) refl
  where
    at_clause : (d : List ℤ) → crossed_out blocked (clause_at F p) ≡ d → (not (is_empty d) && is_within d c) ≡ false
    at_clause [] e = refl
    at_clause (l ∷ d) e = false_from_ne_true (is_within (l ∷ d) c) (λ w.
        let first : contains (l ∷ d) l ≡ true = or_left _ (contains d l) (int_self l) in
        let there = (from_filtered (λ k. not (blocked (variable k))) (clause_at F p) l (subst (λ (x : List ℤ). contains x l ≡ true) (sym e) first)).1 in
        let held : contains c l ≡ true = passes_each (contains c) (l ∷ d) l w first in
        let on : mentions (clause_at F p) (variable l) ≡ true = passes_one (λ k. variable k == variable l) (clause_at F p) l there (eq-eqb (variable l) (variable l) refl) in
        both_ways (mentions (clause_at F p) (variable l)) (apart p (variable l) out (pass l held)) on)

-- so what is learned over the part is learned over all positions
learned_over_all : (F : Cnf) (part : List ℕ) (blocked : Variables) (earlier : List Step) (c : List ℤ) → IsApart F part
    → Passes (λ l. variable_occurs F part (variable l)) c → is_learned (premises_in F part blocked earlier) c ≡ true
    → is_learned (premises_in F (positions_of F) blocked earlier) c ≡ true
unfolding is_learned
learned_over_all F part blocked earlier c apart pass e =
    let a = and_true _ (not (list_any (λ (u : Step). is_within u.clause c) earlier)) e in
    let b = and_true (not (is_empty c) && not (is_tautology c)) (not (list_any contained part)) a.0 in
    and_from _ _ (and_from (not (is_empty c) && not (is_tautology c)) (not (list_any contained (positions_of F))) b.0 (not_from_false (list_any contained (positions_of F)) (false_from_ne_true _ (λ m.
    let w = passing contained (positions_of F) m in
    elim (cases_Bool (among part w.0)) [
      | inl inside ↦ both_ways (list_any contained part) (not-true (list_any contained part) b.1) (passes_among contained part w.0 inside w.2)
      | inr out ↦ both_ways (contained w.0) (apart_not_within F part blocked w.0 c apart out pass) w.2
    ])))) a.1
  where
    contained : ℕ → Bool
    contained p = not (is_empty (crossed_out blocked (clause_at F p))) && is_within (crossed_out blocked (clause_at F p)) c

-- so the steps of a round that are learned over the part are learned over all positions
steps_learned : (F : Cnf) (part : List ℕ) (blocked : Variables) (earlier steps : List Step) → IsApart F part
    → StepsPass (λ l. variable_occurs F part (variable l)) steps → NoneOf is_unlearned F part blocked earlier steps
    → NoneOf is_unlearned F (positions_of F) blocked earlier steps
steps_learned F part blocked earlier [] apart pass none = tt
steps_learned F part blocked earlier (s ∷ steps) apart pass none = (
  by_test (not (is_empty s.clause)) (is_learned (premises_in F part blocked earlier) s.clause) (is_learned (premises_in F (positions_of F) blocked earlier) s.clause)
      (learned_over_all F part blocked earlier s.clause apart pass.0) none.0,
  steps_learned F part blocked (earlier ++ s ∷ []) steps apart pass.1 none.1,
)
  where
    by_test : (a b c : Bool) → (b ≡ true → c ≡ true) → (a && not b) ≡ false → (a && not c) ≡ false
    by_test false b c h e = refl
    by_test true true c h e = ap not (h refl)
    by_test true false c h e = absurd (let f : ⊥ = cc in f)

-- the literals of the part's clauses are on its variables
pub part_pass : (F : Cnf) (part : List ℕ) (blocked : Variables) → AllPass (λ l. variable_occurs F part (variable l)) (premises_in F part blocked [])
part_pass F part blocked k c e l m =
    let w = named_first F part blocked k c e in
    let there = from_filtered (λ l. not (blocked (variable l))) (clause_at F k) l (subst (λ (x : List ℤ). contains x l ≡ true) (sym w.1) m) in
    occurs_here F part k l w.0 there.1

-- and so through all rounds
rounds_over_all : (F : Cnf) (part : List ℕ) (blocked : Variables) (rounds : List Round) → IsApart F part → ((p : ℕ) → among part p ≡ true → among (positions_of F) p ≡ true)
    → NoneIn is_misstated F part blocked rounds → NoneIn is_unlearned F part blocked rounds
    → NoneIn is_misstated F (positions_of F) blocked rounds × NoneIn is_unlearned F (positions_of F) blocked rounds
rounds_over_all F part blocked [] apart inside stated learned = (tt, tt)
rounds_over_all F part blocked (r ∷ rounds) apart inside stated learned =
    let names = names_more F part (positions_of F) r.steps inside (names_stated F part blocked [] r.steps stated.0) in
    let carried = steps_carried F (λ k. k) part (positions_of F) blocked blocked [] r.steps (stay (length F.clauses)) (λ v there. refl) names stated.0 in
    let here = subst (λ (us : List Step). NoneOf is_misstated F (positions_of F) blocked [] us) (same_steps r.steps) carried in
    let new = steps_learned F part blocked [] r.steps apart (steps_pass (λ l. variable_occurs F part (variable l)) F part blocked [] r.steps (part_pass F part blocked) stated.0) learned.0 in
    let more = rounds_over_all F part (blocked_after_round F blocked r) rounds apart inside stated.1 learned.1 in
    ((here, more.0), (new, more.1))

-- so no check of steps fails over all positions that does not fail over the part
pub over_all : (F : Cnf) (base : Variables) (part : List ℕ) (rounds : List Round) → are_positions F part ≡ true → IsApart F part
    → (bad_step base F part rounds).place ≡ None → (not_learned base F part rounds).place ≡ None
    → ((bad_step base F (positions_of F) rounds).place ≡ None) × ((not_learned base F (positions_of F) rounds).place ≡ None)
unfolding bad_step not_learned
over_all F base part rounds rise apart stated learned =
    let both = rounds_over_all F part base rounds apart
    (λ p m. let b = bounded 0 (length F.clauses) part p rise m in let most = b.1 in among-range 1 (length F.clauses) p b.0 (omega (arith, most)))
    (none_in is_misstated F part base rounds (option_map-none _ _ stated)) (none_in is_unlearned F part base rounds (option_map-none _ _ learned)) in (
      ap (option_map (λ (s : StepAt). s.step.number)) (find_in is_misstated F (positions_of F) base rounds both.0),
      ap (option_map (λ (s : StepAt). s.step.number)) (find_in is_unlearned F (positions_of F) base rounds both.1),
    )
