-- A solver that learns, through each of its steps.
use Rattle.std.proofs.Common.{Bool, suc, ◌≡◌, ◌∙◌, ℕ, ◌+◌, ◌^◌, ◌<◌, ◌++◌, ◌∷◌, [], true, false, not, ◌&&◌, ◌||◌, List, ℤ, Option, Some, None, IsNone, IsSome, is_some, nat_lt, length, filter, map, refl, sym, ap, subst, arith, append_assoc}
use Rattle.std.specs.List.{list_all}
use Rattle.std.proofs.lemmas.Bool.{leb-true, false_from_ne_true, and_from}
use Rattle.std.proofs.lemmas.List.{append-nil}
use Rattle.lk_model.specs.Lists.{is_empty, with_earlier}
use Rattle.lk_model.specs.Formulas.Literal.{variable, contains, rank_of, is_literal, is_clause, is_distinct, is_within, is_same_set, is_tautology}
use Rattle.lk_model.specs.Formulas.Formula.{is_formula}
use Rattle.lk_model.specs.Held.VariableSets.{IsCrossed, is_in, premises_of}
use Rattle.lk_model.specs.Chains.Chain.{names_of, chain_clause, is_learned}
use Rattle.lk_model.specs.Chains.Rounds.{is_refutation}
use Rattle.lk_model.specs.declared.crossed.Crossed.{Crossed}
use Rattle.lk_model.specs.declared.document.Step.{Step}
use Rattle.lk_model.specs.declared.document.Turn.{Turn}
use Rattle.lk_model.proofs.Booleans.{and_true, or_left, or_right}
use Rattle.lk_model.proofs.ListTests.{passes_each, all_more}
use Rattle.lk_model.proofs.Literals.{filled}
use Rattle.general_laws.proofs.Chains.{stated}
use Rattle.general_laws.proofs.Learning.{few_steps}
use Rattle.refutation_log.specs.Derivation.{Derivation, next_number, are_numbered, are_chains, is_ascending, IsDerivation, step_of, Extends}
use Rattle.refutation_log.proofs.Chains.{names_below, derivation_more}
use Rattle.refutation_log.proofs.ChainNames.{pushed_law}
use Rattle.watch_prop.specs.declared.entry.Entry.{Entry}
use Rattle.watch_prop.specs.declared.entry.NumberedClause.{NumberedClause}
use Rattle.watch_prop.specs.Trail.{entry_of, present_level, clause_numbered}
use Rattle.watch_prop.specs.Propagation.{Propagation, IsPropagation, GoesOn, assigned, is_quiet, crossed_clauses, with_assigned, back_at}
use Rattle.watch_prop.proofs.Paths.{with_earlier_more}
use Rattle.watch_prop.proofs.Trails.{holds_more, propagation_more, may_open, unset_none}
use Rattle.learning_laws.specs.Learned.{IsLearnedFor, HoldsAll, held_step, names_held}
use Rattle.learning_laws.specs.ModelLaw.{is_open, clause_over}
use Rattle.learning_laws.specs.SolveLaw.{names_filled, all_learned, IsRoundOver, IsSolving, HasLearned, SolveLaw}
use Rattle.learning_laws.proofs.Levels.{trail_up_to}
use Rattle.learning_laws.proofs.News.{may_hold_learned, learned_same}
use Rattle.learning_laws.proofs.QuietLaws.{quiet_law}
use Rattle.learning_laws.proofs.Naming.{held_named, next_fresh}
use Rattle.learning_laws.proofs.Models.{model_law}

-- CLAUSES IN ORDER

-- in a clause in order no literal stands twice
ascending_distinct : (c : List ℤ) → is_ascending c ≡ true → is_distinct c ≡ true
ascending_distinct [] e = refl
ascending_distinct (l ∷ c) e =
    let both = and_true (list_all (λ k. nat_lt (rank_of l) (rank_of k)) c) (is_ascending c) e in
    let absent : contains c l ≡ false = false_from_ne_true (contains c l) (λ m.
    (let lower = leb-true (suc (rank_of l)) (rank_of l) (passes_each (λ k. nat_lt (rank_of l) (rank_of k)) c l both.0 m) in omega (arith, lower))) in
    rw (absent) (ascending_distinct c both.1)

-- two clauses with the same literals, the other way round
same_back : (c d : List ℤ) → is_same_set c d ≡ true → is_same_set d c ≡ true
same_back c d e = let both = and_true (is_within c d) (is_within d c) e in rw (both.1, both.0) refl

-- a step that extends a log states the clause of its chain
clause_stated : (over : Crossed) (d d' : Derivation) (first : ℕ) (turns : List Turn) (c : List ℤ) → (e : Extends over d first turns d')
    → chain_clause (premises_of over d.steps) first turns ≡ Some c → (is_same_set c e.clause ≡ true) × (is_distinct e.clause ≡ true)
clause_stated over d d' first turns c e chain =
    let w = stated (premises_of over d.steps) (step_of (next_number d) e.clause first turns) e.stated in
    let both : Some w.clause ≡ Some c = sym w.is ∙ chain in
    let same : w.clause ≡ c = cc both in (
      same_back e.clause c (subst (λ (x : List ℤ). is_same_set e.clause x ≡ true) same w.same),
      ascending_distinct e.clause e.ascending,
    )

-- a clause with the literals of the empty one is empty
same_as_none : (c : List ℤ) → is_same_set [] c ≡ true → c ≡ []
same_as_none [] e = refl
same_as_none (l ∷ c) e = absurd (let z : ⊥ = cc in z)

-- LOGS

-- what extends a derivation is one
derivation_kept : (over : Crossed) (d d' : Derivation) (first : ℕ) (turns : List Turn) → length over.formula.now.clauses < d.first → IsDerivation d.first d.steps
    → Extends over d first turns d' → IsDerivation d'.first d'.steps
derivation_kept over d d' first turns past form e =
    let s = step_of (next_number d) e.clause first turns in
    let w = stated (premises_of over d.steps) s e.stated in
    let some : IsSome (chain_clause (premises_of over d.steps) first turns) = subst (λ (o : Option (List ℤ)). IsSome o) (sym w.is) refl in
    let names = names_below (premises_of over d.steps) d.first first turns past form.numbers some in
    subst (λ (n : ℕ). IsDerivation n d'.steps) (sym e.same_first)
    (subst (λ (steps : List Step). IsDerivation d.first steps) (sym e.steps) (derivation_more d.first d.steps s form refl names e.ascending))

-- THE ROUND

-- one more learned clause
learned_more : (over : Crossed) (steps : List Step) (s : Step) → all_learned over steps ≡ true
    → (is_empty s.clause || is_learned (premises_of over steps) s.clause) ≡ true → all_learned over (steps ++ s ∷ []) ≡ true
unfolding all_learned
learned_more over steps s all one =
    let t = λ (q : List Step × Step). is_empty q.1.clause || is_learned (premises_of over q.0) q.1.clause in
    subst (λ (l : List (List Step × Step)). list_all t l ≡ true) (sym (with_earlier_more [] steps s))
    (all_more t (with_earlier [] steps) (steps, s) all one)

-- no step is learned at the start
learned_none : (over : Crossed) → all_learned over [] ≡ true
unfolding all_learned
learned_none over = refl

-- each number of a held clause is one that a chain may name
names_there : (over : Crossed) (d : Derivation) (p : Propagation) (ks : List ℕ) → IsCrossed over → length over.formula.now.clauses < d.first
    → are_numbered d.first d.steps ≡ true → HoldsAll over d.steps p → list_all (λ k. is_some (clause_numbered p.clauses k)) ks ≡ true
    → list_all (λ k. nat_lt (length over.formula.now.clauses) k || not (is_empty (clause_over over k))) ks ≡ true
names_there over d p [] crossed past numbers holds h = refl
names_there over d p (k ∷ ks) crossed past numbers holds h =
    let both = and_true (is_some (clause_numbered p.clauses k)) _ h in
    and_from (nat_lt (length over.formula.now.clauses) k || not (is_empty (clause_over over k))) _
    (at_clause (clause_numbered p.clauses k) refl both.0) (names_there over d p ks crossed past numbers holds both.1)
  where
    at_clause : (o : Option (List ℤ)) → clause_numbered p.clauses k ≡ o → is_some o ≡ true
        → (nat_lt (length over.formula.now.clauses) k || not (is_empty (clause_over over k))) ≡ true
    at_clause None f s = absurd (let z : ⊥ = cc in z)
    at_clause (Some c) f s = (held_named over d.steps p d.first k c crossed past numbers holds f).filled

-- a round with one more step
round_more : (over : Crossed) (d d' : Derivation) (p : Propagation) (first : ℕ) (turns : List Turn) → IsCrossed over → IsSolving over d p
    → (e : Extends over d first turns d') → names_held p first turns ≡ true → (is_empty e.clause || is_learned (premises_of over d.steps) e.clause) ≡ true
    → IsRoundOver over d'
round_more over d d' p first turns crossed s e held one =
    let r = s.round in
    let step = step_of (next_number d) e.clause first turns in
    let past = r.past in
    let same = e.same_first in
    record {
      past = omega (arith, past, same);
      form = derivation_kept over d d' first turns r.past r.form e;
      chains = pushed_law.more over d d' first turns r.chains e;
      names = subst (λ (steps : List Step). names_filled over steps ≡ true) (sym e.steps)
          (all_more (λ (s : Step). list_all (λ k. nat_lt (length over.formula.now.clauses) k || not (is_empty (clause_over over k))) (names_of s)) d.steps step r.names
          (names_there over d p (first ∷ map (λ (t : Turn). t.with) turns) crossed r.past r.form.numbers s.clauses held));
      learned = subst (λ (steps : List Step). all_learned over steps ≡ true) (sym e.steps) (learned_more over d.steps step r.learned one);
    }

-- the round's last clause
last_empty : (steps : List Step) (s : Step) → is_empty s.clause ≡ true → is_refutation (steps ++ s ∷ []) ≡ true
last_empty [] s e = e
last_empty (t ∷ []) s e = e
last_empty (t ∷ u ∷ steps) s e = last_empty (u ∷ steps) s e

-- held clauses with those of one more step
held_more : (steps : List Step) (s : Step) → map held_step (steps ++ s ∷ []) ≡ map held_step steps ++ held_step s ∷ []
held_more [] s = refl
held_more (t ∷ steps) s = ap (λ (hs : List NumberedClause). held_step t ∷ hs) (held_more steps s)

-- THE SOLVER

-- at the start
solving_start : (over : Crossed) (d : Derivation) (p : Propagation) → length over.formula.now.clauses < d.first → d.steps ≡ [] → IsPropagation p
    → p.vars ≡ over.formula.now.vars → p.clauses ≡ crossed_clauses over → p.trail ≡ [] → IsSolving over d p
solving_start over d p past none h vars clauses empty = record {
  round = record {
    past = past;
    form = subst (λ (steps : List Step). IsDerivation d.first steps) (sym none) (record { numbers = refl; names = refl; clauses = refl });
    chains = subst (λ (steps : List Step). are_chains over steps ≡ true) (sym none) (pushed_law.none over);
    names = subst (λ (steps : List Step). names_filled over steps ≡ true) (sym none) refl;
    learned = subst (λ (steps : List Step). all_learned over steps ≡ true) (sym none) (learned_none over);
  };
  held = h;
  vars = vars;
  clauses = subst (λ (steps : List Step). HoldsAll over steps p) (sym none) (clauses ∙ sym (append-nil (crossed_clauses over)));
  quiet = quiet_law.start p empty;
  no_blocked = model_law.start over p clauses empty;
  filled = subst (λ (steps : List Step). list_all (λ (s : Step). not (is_empty s.clause)) steps ≡ true) (sym none) refl;
}

-- with a literal that is assigned
solving_assigned : (over : Crossed) (d : Derivation) (p : Propagation) (l : ℤ) → IsSolving over d p → is_quiet (assigned p) p.clauses ≡ true
    → is_literal p.vars l ≡ true → IsNone (assigned p (variable l)) → is_open over l ≡ true → IsSolving over d (with_assigned p l)
solving_assigned over d p l s quiet literal unset o =
    let e : Entry = record { lit = l; level = present_level p.trail + 1; reason = None } in
    record {
      round = s.round;
      held = propagation_more p e s.held (may_open p.vars p.clauses p.trail e literal (unset_none (entry_of p.trail (variable l)) unset) refl refl);
      vars = s.vars;
      clauses = s.clauses;
      quiet = quiet_law.assigns p l s.held quiet s.quiet;
      no_blocked = model_law.assigns over p l o s.no_blocked;
      filled = s.filled;
    }

-- with what is forced
solving_goes_on : (over : Crossed) (d : Derivation) (p q : Propagation) → IsSolving over d p → GoesOn p q → IsPropagation q → IsSolving over d q
solving_goes_on over d p q s g h = record {
  round = s.round;
  held = h;
  vars = g.vars ∙ s.vars;
  clauses = g.clauses ∙ s.clauses;
  quiet = quiet_law.goes_on p q g s.quiet;
  no_blocked = model_law.goes_on over p q h g s.no_blocked;
  filled = s.filled;
}

-- with a learned clause
solving_learned : (over : Crossed) (d d' : Derivation) (p : Propagation) (first : ℕ) (turns : List Turn) (c : List ℤ) (u : ℤ) (level : ℕ) → IsCrossed over
    → IsSolving over d p → (e : Extends over d first turns d') → names_held p first turns ≡ true → chain_clause (premises_of over d.steps) first turns ≡ Some c
    → IsLearnedFor p.trail c u level → HasLearned over d' p (next_number d) level e.clause
solving_learned over d d' p first turns c u level crossed s e held chain l =
    let w = clause_stated over d d' first turns c e chain in
    let l' = learned_same p.trail c e.clause u level w.0 l in
    let may = may_hold_learned p e.clause u level s.held l' w.1 in
    let fresh = next_fresh over d.steps p d.first crossed s.round.past s.round.form.numbers s.clauses in
    let one = quiet_law.round over d.steps p e.clause u level s.held s.quiet s.clauses l' in
    let h = s.held in
    let back : IsPropagation (back_at p level) = record { vars = h.vars; clauses = h.clauses; numbers = h.numbers; trail = trail_up_to p level h } in
    let step : NumberedClause = record { number = next_number d; lits = e.clause } in
    record {
      may_hold = may;
      fresh = fresh;
      solving = record {
        round = round_more over d d' p first turns crossed s e held (or_right (is_empty e.clause) (is_learned (premises_of over d.steps) e.clause) one);
        held = holds_more (back_at p level) (p.clauses ++ step ∷ []) step back
            (and_true (not (is_empty e.clause) && is_clause p.vars e.clause) (not (is_tautology e.clause)) may).0 fresh refl;
        vars = s.vars;
        clauses = ap (λ (hs : List NumberedClause). hs ++ step ∷ []) s.clauses
            ∙ append_assoc (crossed_clauses over) (map held_step d.steps) (step ∷ [])
            ∙ ap (λ (hs : List NumberedClause). crossed_clauses over ++ hs)
            (sym (held_more d.steps (step_of (next_number d) e.clause first turns)) ∙ ap (λ (steps : List Step). map held_step steps) (sym e.steps));
        quiet = quiet_law.learns p e.clause u (next_number d) level s.held s.quiet l';
        no_blocked = model_law.holds over (back_at p level) (next_number d) e.clause
            (model_law.falsified over p e.clause s.held l'.falsified s.no_blocked) (model_law.back over p level s.no_blocked);
        filled = subst (λ (steps : List Step). list_all (λ (s : Step). not (is_empty s.clause)) steps ≡ true) (sym e.steps)
            (all_more (λ (s : Step). not (is_empty s.clause)) d.steps (step_of (next_number d) e.clause first turns) s.filled (filled e.clause u l'.there));
      };
    }

-- with the empty clause
solving_refuted : (over : Crossed) (d d' : Derivation) (p : Propagation) (first : ℕ) (turns : List Turn) → IsCrossed over → IsSolving over d p
    → Extends over d first turns d' → names_held p first turns ≡ true → chain_clause (premises_of over d.steps) first turns ≡ Some []
    → IsRoundOver over d' × (is_refutation d'.steps ≡ true)
solving_refuted over d d' p first turns crossed s e held chain =
    let none = same_as_none e.clause (clause_stated over d d' first turns [] e chain).0 in
    let empty : is_empty e.clause ≡ true = ap (λ (c : List ℤ). is_empty c) none in (
      round_more over d d' p first turns crossed s e held (or_left (is_empty e.clause) (is_learned (premises_of over d.steps) e.clause) empty),
      subst (λ (steps : List Step). is_refutation steps ≡ true) (sym e.steps) (last_empty d.steps (step_of (next_number d) e.clause first turns) empty),
    )

-- fewer than 3^n clauses are learned
few_learned : (over : Crossed) (d : Derivation) → is_formula over.formula.now ≡ true → IsRoundOver over d
    → length (filter (λ (s : Step). not (is_empty s.clause)) d.steps) < 3 ^ over.formula.now.vars
unfolding are_chains all_learned
few_learned over d form r = few_steps over.formula.now over.part.now (is_in over.blocked.now) d.steps form r.chains r.learned

-- a list of which each element passes is the filtered one
whole_filtered : {X : Type 0} (t : X → Bool) (xs : List X) → list_all t xs ≡ true → filter t xs ≡ xs
whole_filtered t [] h = refl
whole_filtered {X} t (x ∷ xs) h = let both = and_true (t x) (list_all t xs) h in rw (both.0) (ap (λ (ys : List X). x ∷ ys) (whole_filtered t xs both.1))

-- and all steps of a solver have
few_solved : (over : Crossed) (d : Derivation) (p : Propagation) → is_formula over.formula.now ≡ true → IsSolving over d p → length d.steps < 3 ^ over.formula.now.vars
few_solved over d p form s =
    subst (λ (steps : List Step). length steps < 3 ^ over.formula.now.vars) (whole_filtered (λ (s : Step). not (is_empty s.clause)) d.steps s.filled)
    (few_learned over d form s.round)

-- all of it
pub solve_law : SolveLaw
solve_law = record {
  start = solving_start;
  assigns = solving_assigned;
  goes_on = solving_goes_on;
  learns = solving_learned;
  refutes = solving_refuted;
  states = clause_stated;
  few = few_solved;
  few_of_round = few_learned;
}
