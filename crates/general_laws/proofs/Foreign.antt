-- What the rounds of a part state and learn, they do over all positions, if each other clause has a variable of its own.
use Rattle.std.proofs.Common.{◌≡◌, ℕ, Bool, true, false, not, ◌&&◌, ◌==◌, List, [], ◌∷◌, ◌++◌, refl, sym, ap, subst, ℤ, None, ◌⊎◌, inl, inr, length, arith, option_map}
use Rattle.std.specs.List.{list_any}
use Rattle.std.proofs.lemmas.Bool.{cases_Bool, both_ways, not-true, not_from_false, and_from, false_from_ne_true, eqb-true, eq-eqb}
use Rattle.lk_model.specs.Lists.{among, is_empty}
use Rattle.lk_model.specs.Formulas.Literal.{variable, contains, mentions, is_within, is_tautology}
use Rattle.lk_model.specs.Formulas.Formula.{Cnf, clause_at, positions_of, variable_occurs}
use Rattle.lk_model.specs.Formulas.Lean.{are_positions}
use Rattle.lk_model.specs.Formulas.Crossed.{Variables, crossed_out}
use Rattle.lk_model.specs.Chains.Chain.{is_learned}
use Rattle.lk_model.specs.Chains.Rounds.{StepAt, is_refutation, variables_used, blocked_after_round}
use Rattle.lk_model.specs.Documents.Documents.{steps_of}
use Rattle.lk_model.specs.Documents.Form.{are_steps}
use Rattle.lk_model.specs.Checks.RoundChecks.{bad_step, not_learned}
use Rattle.lk_model.specs.declared.document.Step.{Step}
use Rattle.lk_model.specs.declared.document.Round.{Round}
use Rattle.lk_model.proofs.Booleans.{and_true, or_true, or_left}
use Rattle.lk_model.proofs.ListTests.{passes_each, passes_among, passes_one, passing}
use Rattle.lk_model.proofs.Counting.{among-range}
use Rattle.lk_model.proofs.Rising.{bounded}
use Rattle.lk_model.proofs.Literals.{int_self}
use Rattle.lk_model.proofs.Variables.{literal_passing}
use Rattle.lk_model.proofs.Founds.{is_position, option_map-none}
use Rattle.kernel_laws.proofs.Clauses.{in_filtered, from_filtered}
use Rattle.kernel_laws.proofs.Occurrences.{occurs_here}
use Rattle.general_laws.specs.JoinLaw.{IsApart}
use Rattle.general_laws.specs.ForeignLaw.{HasForeign, IsAmongForeign, ForeignLaw}
use Rattle.general_laws.proofs.Blocking.{used_at}
use Rattle.general_laws.proofs.Numbering.{AreRising, first_rise, rest_rise, premises_in}
use Rattle.general_laws.proofs.Stated.{NoneOf, NoneIn, none_in, find_in}
use Rattle.general_laws.proofs.Reaching.{is_misstated}
use Rattle.general_laws.proofs.Passing.{Passes, StepsPass, steps_pass}
use Rattle.general_laws.proofs.Learning.{is_unlearned}
use Rattle.general_laws.proofs.Renumbering.{stay, same_steps}
use Rattle.general_laws.proofs.Carrying.{names_more, names_stated, reached_in, steps_carried}
use Rattle.general_laws.proofs.Wholes.{part_pass}
use Rattle.general_laws.proofs.JoinLaws.{rising}

-- BLOCKED VARIABLES

-- the variables of the start are blocked, and else variables of the part alone
record IsBlockedWithin (base : Variables) (F : Cnf) (part : List ℕ) (blocked : Variables) : Type 0 where
  start : (v : ℕ) → base v ≡ true → blocked v ≡ true
  own : (v : ℕ) → blocked v ≡ true → (base v ≡ true) ⊎ (variable_occurs F part v ≡ true)

-- and so after one more round over the part
within_after : (base : Variables) (F : Cnf) (part : List ℕ) (blocked : Variables) (r : Round)
    → IsBlockedWithin base F part blocked
    → AreRising (length F.clauses) r.steps → NoneOf is_misstated F part blocked [] r.steps
    → IsBlockedWithin base F part (blocked_after_round F blocked r)
within_after base F part blocked r h numbers stated = record {
  start = λ v e. or_left (blocked v) _ (h.start v e);
  own = λ v e. elim (block_own v e) [
    | inl before ↦ h.own v before
    | inr there ↦ inr there
  ];
}
  where
    block_own : (v : ℕ) → blocked_after_round F blocked r v ≡ true → (blocked v ≡ true) ⊎ (variable_occurs F part v ≡ true)
    block_own v e = elim (or_true (blocked v) (is_refutation r.steps && among (variables_used F blocked r) v) e) [
      | inl before ↦ inl before
      | inr used ↦
          (let at = used_at F blocked r v (and_true (is_refutation r.steps) _ used).1 in
          let inside = reached_in F part r.steps (length F.clauses) (omega arith) numbers (names_stated F part blocked [] r.steps stated) at.position at.used at.inside.1 in
          let held = (from_filtered (λ l. not (blocked (variable l))) (clause_at F at.position) at.literal at.held).1 in
          inr (subst (λ (w : ℕ). variable_occurs F part w ≡ true) at.on (occurs_here F part at.position at.literal inside held)))
    ]

-- LEARNED OVER ALL POSITIONS

-- a clause over the part's variables contains no non-empty crossed clause of another position
foreign_not_within : (base : Variables) (F : Cnf) (part : List ℕ) (blocked : Variables) (p : ℕ) (c : List ℤ)
    → IsAmongForeign base F part
    → IsBlockedWithin base F part blocked → among (positions_of F) p ≡ true → among part p ≡ false
    → Passes (λ l. variable_occurs F part (variable l)) c
    → (not (is_empty (crossed_out blocked (clause_at F p))) && is_within (crossed_out blocked (clause_at F p)) c) ≡ false
foreign_not_within base F part blocked p c foreign h inside out pass = false_from_ne_true _ (λ e.
    let both = and_true (not (is_empty (crossed_out blocked (clause_at F p)))) (is_within (crossed_out blocked (clause_at F p)) c) e in
    let f = foreign p (is_position F p inside) out (more_left (not-true (is_empty (crossed_out blocked (clause_at F p))) both.0)) in
    let l = literal_passing (λ l. variable l == f.variable) (clause_at F p) f.here in
    let on = eqb-true (variable l.0) f.variable l.2 in
    let free : blocked (variable l.0) ≡ false = subst (λ (v : ℕ). blocked v ≡ false) (sym on) (unblocked f.variable f.unblocked f.foreign) in
    let held = passes_each (contains c) (crossed_out blocked (clause_at F p)) l.0 both.1 (in_filtered (λ l. not (blocked (variable l))) (clause_at F p) l.0 (not_from_false (blocked (variable l.0)) free) l.1) in
    both_ways (variable_occurs F part f.variable) f.foreign (subst (λ (v : ℕ). variable_occurs F part v ≡ true) on (pass l.0 held)))
  where
    unblocked : (v : ℕ) → base v ≡ false → variable_occurs F part v ≡ false → blocked v ≡ false
    unblocked v b o = false_from_ne_true _ (λ y. elim (h.own v y) [
      | inl start ↦ both_ways (base v) b start
      | inr own ↦ both_ways (variable_occurs F part v) o own
    ])

    some_left : (d : List ℤ) → is_empty d ≡ false → (l : ℤ) × (contains d l ≡ true)
    some_left [] e = absurd (let f : ⊥ = cc in f)
    some_left (l ∷ d) e = (l, or_left _ (contains d l) (int_self l))

    left_some : (d : List ℤ) (l : ℤ) → contains d l ≡ true → is_empty d ≡ false
    left_some [] l e = absurd (let f : ⊥ = cc in f)
    left_some (k ∷ d) l e = refl

    more_left : is_empty (crossed_out blocked (clause_at F p)) ≡ false → is_empty (crossed_out base (clause_at F p)) ≡ false
    more_left e =
        let l = some_left (crossed_out blocked (clause_at F p)) e in
        let w = from_filtered (λ l. not (blocked (variable l))) (clause_at F p) l.0 l.1 in
        let free : base (variable l.0) ≡ false = false_from_ne_true _ (λ y. both_ways (blocked (variable l.0)) (not-true (blocked (variable l.0)) w.0) (h.start (variable l.0) y)) in
        left_some (crossed_out base (clause_at F p)) l.0 (in_filtered (λ l. not (base (variable l))) (clause_at F p) l.0 (not_from_false (base (variable l.0)) free) w.1)

-- so what is learned over the part is learned over all positions
learned_over_all : (base : Variables) (F : Cnf) (part : List ℕ) (blocked : Variables) (earlier : List Step) (c : List ℤ)
    → IsAmongForeign base F part
    → IsBlockedWithin base F part blocked → Passes (λ l. variable_occurs F part (variable l)) c
    → is_learned (premises_in F part blocked earlier) c ≡ true
    → is_learned (premises_in F (positions_of F) blocked earlier) c ≡ true
unfolding is_learned
learned_over_all base F part blocked earlier c foreign h pass e =
    let a = and_true _ (not (list_any (λ (u : Step). is_within u.clause c) earlier)) e in
    let b = and_true (not (is_empty c) && not (is_tautology c)) (not (list_any contained part)) a.0 in
    and_from _ _ (and_from (not (is_empty c) && not (is_tautology c)) (not (list_any contained (positions_of F))) b.0 (not_from_false (list_any contained (positions_of F)) (false_from_ne_true _ (λ m.
    let w = passing contained (positions_of F) m in
    elim (cases_Bool (among part w.0)) [
      | inl inside ↦ both_ways (list_any contained part) (not-true (list_any contained part) b.1) (passes_among contained part w.0 inside w.2)
      | inr out ↦ both_ways (contained w.0) (foreign_not_within base F part blocked w.0 c foreign h w.1 out pass) w.2
    ])))) a.1
  where
    contained : ℕ → Bool
    contained p = not (is_empty (crossed_out blocked (clause_at F p))) && is_within (crossed_out blocked (clause_at F p)) c

-- so are the steps of a round
steps_learned : (base : Variables) (F : Cnf) (part : List ℕ) (blocked : Variables) (earlier steps : List Step)
    → IsAmongForeign base F part
    → IsBlockedWithin base F part blocked → StepsPass (λ l. variable_occurs F part (variable l)) steps
    → NoneOf is_unlearned F part blocked earlier steps
    → NoneOf is_unlearned F (positions_of F) blocked earlier steps
steps_learned base F part blocked earlier [] foreign h pass none = tt
steps_learned base F part blocked earlier (s ∷ steps) foreign h pass none = (
  by_test (not (is_empty s.clause)) (is_learned (premises_in F part blocked earlier) s.clause) (is_learned (premises_in F (positions_of F) blocked earlier) s.clause)
      (learned_over_all base F part blocked earlier s.clause foreign h pass.0) none.0,
  steps_learned base F part blocked (earlier ++ s ∷ []) steps foreign h pass.1 none.1,
)
  where
    by_test : (a b c : Bool) → (b ≡ true → c ≡ true) → (a && not b) ≡ false → (a && not c) ≡ false
    by_test false b c h e = refl
    by_test true true c h e = ap not (h refl)
    by_test true false c h e = absurd (let f : ⊥ = cc in f)

-- and so through all rounds
rounds_over_all : (base : Variables) (F : Cnf) (part : List ℕ) (blocked : Variables) (rounds : List Round)
    → IsAmongForeign base F part
    → IsBlockedWithin base F part blocked → ((p : ℕ) → among part p ≡ true → among (positions_of F) p ≡ true)
    → AreRising (length F.clauses) (steps_of rounds)
    → NoneIn is_misstated F part blocked rounds → NoneIn is_unlearned F part blocked rounds
    → NoneIn is_misstated F (positions_of F) blocked rounds × NoneIn is_unlearned F (positions_of F) blocked rounds
rounds_over_all base F part blocked [] foreign h inside numbers stated learned = (tt, tt)
rounds_over_all base F part blocked (r ∷ rounds) foreign h inside numbers stated learned =
    let names = names_more F part (positions_of F) r.steps inside (names_stated F part blocked [] r.steps stated.0) in
    let carried = steps_carried F (λ k. k) part (positions_of F) blocked blocked [] r.steps (stay (length F.clauses)) (λ v there. refl) names stated.0 in
    let here = subst (λ (us : List Step). NoneOf is_misstated F (positions_of F) blocked [] us) (same_steps r.steps) carried in
    let new = steps_learned base F part blocked [] r.steps foreign h (steps_pass (λ l. variable_occurs F part (variable l)) F part blocked [] r.steps (part_pass F part blocked) stated.0) learned.0 in
    let next = within_after base F part blocked r h (first_rise (length F.clauses) r.steps (steps_of rounds) numbers) stated.0 in
    let more = rounds_over_all base F part (blocked_after_round F blocked r) rounds foreign next inside (rest_rise (length F.clauses) r.steps (steps_of rounds) numbers) stated.1 learned.1 in
    ((here, more.0), (new, more.1))

-- so no check of steps fails over all positions that does not fail over the part
over_all_foreign : (F : Cnf) (base : Variables) (part : List ℕ) (rounds : List Round) → are_positions F part ≡ true
    → are_steps F.vars (length F.clauses) (steps_of rounds) ≡ true → IsAmongForeign base F part
    → (bad_step base F part rounds).place ≡ None → (not_learned base F part rounds).place ≡ None
    → ((bad_step base F (positions_of F) rounds).place ≡ None) × ((not_learned base F (positions_of F) rounds).place ≡ None)
unfolding bad_step not_learned
over_all_foreign F base part rounds rise steps foreign stated learned =
    let both = rounds_over_all base F part base rounds foreign (record { start = λ v e. e; own = λ v e. inl e })
    (λ p m. let b = bounded 0 (length F.clauses) part p rise m in let most = b.1 in among-range 1 (length F.clauses) p b.0 (omega (arith, most))) (rising F rounds steps)
    (none_in is_misstated F part base rounds (option_map-none _ _ stated)) (none_in is_unlearned F part base rounds (option_map-none _ _ learned)) in (
      ap (option_map (λ (s : StepAt). s.step.number)) (find_in is_misstated F (positions_of F) base rounds both.0),
      ap (option_map (λ (s : StepAt). s.step.number)) (find_in is_unlearned F (positions_of F) base rounds both.1),
    )

-- A PART THAT SHARES NO VARIABLE

apart_foreign : (base : Variables) (F : Cnf) (part : List ℕ) → IsApart F part → IsAmongForeign base F part
apart_foreign base F part apart p inside out some = at_clause (crossed_out base (clause_at F p)) refl some
  where
    at_clause : (d : List ℤ) → crossed_out base (clause_at F p) ≡ d → is_empty d ≡ false → HasForeign base F part p
    at_clause [] e f = absurd (let g : ⊥ = cc in g)
    at_clause (l ∷ d) e f =
        let first : contains (l ∷ d) l ≡ true = or_left _ (contains d l) (int_self l) in
        let w = from_filtered (λ k. not (base (variable k))) (clause_at F p) l (subst (λ (x : List ℤ). contains x l ≡ true) (sym e) first) in
        let on : mentions (clause_at F p) (variable l) ≡ true = passes_one (λ k. variable k == variable l) (clause_at F p) l w.1 (eq-eqb (variable l) (variable l) refl) in
        record {
          variable = variable l;
          here = on;
          unblocked = not-true (base (variable l)) w.0;
          foreign = false_from_ne_true _ (λ there. both_ways (mentions (clause_at F p) (variable l)) (apart p (variable l) out there) on);
        }

-- all of it
pub foreign_law : ForeignLaw
foreign_law = record { apart = apart_foreign; whole = over_all_foreign }
