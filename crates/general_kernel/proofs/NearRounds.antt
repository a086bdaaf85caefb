-- A refutation around one clause as a round.
use Rattle.std.proofs.Common.{◌≡◌, ◌∙◌, ℕ, ◌+◌, ◌-◌, ◌*◌, ◌<◌, ◌≤◌, ◌^◌, ◌&&◌, Bool, true, false, cond, not, nat_le, nat_lt, List, [], ◌∷◌, Option, Some, None, length, map, replicate, sym, ap, subst, filter, refl, arith, ℤ}
use Rattle.std.specs.Prelude.{IfSome}
use Rattle.std.specs.List.{list_all}
use Rattle.std.proofs.lemmas.Bool.{and_from, lt-ltb, leb-true}
use Rattle.std.proofs.lemmas.List.{length-replicate}
use Rattle.lk_model.specs.Lists.{is_empty, is_between, rises_within, with_earlier}
use Rattle.lk_model.specs.Formulas.Formula.{Cnf, clause_at, positions_of, is_formula}
use Rattle.lk_model.specs.Formulas.Crossed.{Variables, no_variable}
use Rattle.lk_model.specs.Formulas.Lean.{are_positions}
use Rattle.lk_model.specs.Formulas.Literal.{rank_of, is_literal}
use Rattle.lk_model.specs.Held.VariableSets.{is_in, IsCrossed, premises_of}
use Rattle.lk_model.specs.Chains.Chain.{states_its_clause}
use Rattle.lk_model.specs.Chains.Rounds.{used_positions}
use Rattle.lk_model.specs.Documents.Form.{counts_from, is_turn, is_step, are_steps, ends_at_empty}
use Rattle.lk_model.specs.declared.crossed.Crossed.{Crossed}
use Rattle.lk_model.specs.declared.decided.Decided.TheVariants.{Refuted}
use Rattle.lk_model.specs.declared.document.Step.{Step}
use Rattle.lk_model.specs.declared.document.Turn.{Turn}
use Rattle.lk_model.proofs.Booleans.{and_true}
use Rattle.lk_model.proofs.ListTests.{all_weaker}
use Rattle.lk_model.proofs.Rising.{range_rises, rises, rises_from}
use Rattle.lk_model.proofs.Rounds.{whole_refutes}
use Rattle.lk_model.proofs.VariableLists.{none_in}
use Rattle.refutation_log.specs.Derivation.{Derivation, IsDerivation, IsLog, are_chains, are_numbered, is_ascending, names_lower}
use Rattle.refutation_log.specs.Trimmed.{are_filled_before_last}
use Rattle.refutation_log.proofs.InFormLaws.{form_law}
use Rattle.general_laws.specs.Found.{has_only, covered}
use Rattle.learning_laws.specs.SolveLaw.{all_learned}
use Rattle.cdcl_core.specs.Decision.{Outcome, IsRefutedOver}
use Rattle.renaming_laws.specs.CrossedCopies.{IsCrossedRefutation}
use Rattle.crossed_copy.specs.Learning.{are_learned}
use Rattle.crossed_copy.specs.Told.{IsTold}
use Rattle.crossed_copy.specs.declared.telling.CrossedRefutation.{CrossedRefutation}
use Rattle.general_kernel.specs.NearRefutations.{RefutesAll, IsRefutedNear}
use Rattle.general_kernel.specs.declared.rounds.Rounds.{Rounds}
use Rattle.general_kernel.proofs.Needed.{round_of}
use Rattle.general_kernel.proofs.NextRounds.{IsNextRound, refuted}
use Rattle.general_kernel.proofs.Results.{all_left}
use Rattle.general_kernel.proofs.States.{IsAt, ends_whole, fits}

-- WHAT IS DECIDED OF A COPY

to_stated : (over : Crossed) (steps : List Step) → are_chains over steps ≡ true
    → list_all (λ (earlier, s). states_its_clause (premises_of over earlier) s) (with_earlier [] steps) ≡ true
unfolding are_chains
to_stated over steps e = e

refutes_over : (over : Crossed) (next budget : ℕ) (log : Derivation) → IsCrossed over → is_formula over.formula.now ≡ true → next ≡ length over.formula.now.clauses + 1
    → next + budget < 2 ^ 64 - 1 → IsRefutedOver over next budget log
    → IsCrossedRefutation over.formula.now (is_in over.blocked.now) over.part.now (length over.formula.now.clauses) log.steps
refutes_over over next budget log crossed form is room h =
    let past = h.round.past in
    let numbered = h.numbered in
    let most = h.most in
    record {
      form = and_from (counts_from (length over.formula.now.clauses + 1) (map (λ (s : Step). s.number) log.steps)) (list_all (is_step over.formula.now.vars) log.steps)
          (subst (λ (k : ℕ). are_numbered k log.steps ≡ true) (numbered ∙ is) h.round.form.numbers)
          (form_law over log.first log.steps crossed form past (omega (arith, numbered, most, room)) h.round.form h.round.chains);
      stated = to_stated over log.steps h.round.chains;
      names = h.round.names;
      whole = ends_whole log.steps h.refutes h.filled;
    }

-- with no variable blocked
pub refutes_all : (F : Cnf) (part : List ℕ) (flags : List Bool) (next budget most : ℕ) (d : Outcome) (log : Derivation) (r : CrossedRefutation)
    → IsNextRound F part flags next budget d → d ≡ Refuted log → part ≡ positions_of F → flags ≡ replicate F.vars false → next ≡ length F.clauses + 1
    → is_formula F ≡ true → next + budget < 2 ^ 64 - 1 → budget ≤ most
    → r.round.steps ≡ log.steps → r.used ≡ used_positions F (round_of log.steps) → RefutesAll F most r
refutes_all F part flags next budget most d log r t is all none after form room few steps used = record {
  refutes = record {
    refutation = subst (IsCrossedRefutation F no_variable (positions_of F) (length F.clauses)) (sym steps) (at F t.formula form all none after);
    used = used ∙ ap (λ (us : List Step). used_positions F (round_of us)) (sym steps);
  };
  most = (let count = ap (λ (us : List Step). length us) steps in let at_most = h.most in omega (arith, count, at_most, few));
}
  where
    h : IsRefutedOver t.over next budget log
    h = refuted F part flags next budget d log t is

    nothing : flags ≡ replicate F.vars false → is_in t.over.blocked.now ≡ no_variable
    nothing none = ap is_in (t.blocked ∙ none) ∙ (λ i v. none_in F.vars v i)

    over_it : is_formula t.over.formula.now ≡ true → t.over.part.now ≡ positions_of t.over.formula.now → is_in t.over.blocked.now ≡ no_variable
        → length t.over.blocked.now ≡ t.over.formula.now.vars → next ≡ length t.over.formula.now.clauses + 1
        → IsCrossedRefutation t.over.formula.now no_variable (positions_of t.over.formula.now) (length t.over.formula.now.clauses) log.steps
    over_it form all none size after =
        let F = t.over.formula.now in
        let crossed : IsCrossed t.over = record {
          part = subst (λ (ps : List ℕ). are_positions F ps ≡ true) (sym all) (range_rises 0 (length F.clauses) 1 (length F.clauses) (omega arith) (omega arith));
          blocked = size;
        } in
        subst (λ (b : Variables). IsCrossedRefutation F b (positions_of F) (length F.clauses) log.steps) none
        (subst (λ (ps : List ℕ). IsCrossedRefutation F (is_in t.over.blocked.now) ps (length F.clauses) log.steps) all
        (refutes_over t.over next budget log crossed form after room h))

    at : (G : Cnf) → t.over.formula.now ≡ G → is_formula G ≡ true → part ≡ positions_of G → flags ≡ replicate G.vars false → next ≡ length G.clauses + 1
        → IsCrossedRefutation G no_variable (positions_of G) (length G.clauses) log.steps
    at G e = subst (λ (H : Cnf). is_formula H ≡ true → part ≡ positions_of H → flags ≡ replicate H.vars false → next ≡ length H.clauses + 1
        → IsCrossedRefutation H no_variable (positions_of H) (length H.clauses) log.steps) e
        (λ form all flat after. over_it form (t.positions ∙ all) (nothing none)
        (ap (λ (bs : List Bool). length bs) (t.blocked ∙ flat) ∙ length-replicate t.over.formula.now.vars false) after)

-- WHAT IS TOLD OF THE PART

-- what stands before a step
before : (number k : ℕ) → is_between 1 (number - 1) k ≡ true → nat_lt k number ≡ true
before number k e =
    let both = and_true (nat_le 1 k) (nat_le k (number - 1)) e in
    let least = leb-true 1 k both.0 in let most = leb-true k (number - 1) both.1 in
    lt-ltb k number (omega (arith, least, most))

turns_before : (n number : ℕ) (turns : List Turn) → list_all (is_turn n number) turns ≡ true → list_all (λ k. nat_lt k number) (map (λ (t : Turn). t.with) turns) ≡ true
turns_before n number [] e = refl
turns_before n number (t ∷ turns) e =
    let both = and_true (is_turn n number t) (list_all (is_turn n number) turns) e in
    let this = and_true (is_literal n t.lit) (is_between 1 (number - 1) t.with) both.0 in
    and_from (nat_lt t.with number) (list_all (λ k. nat_lt k number) (map (λ (t : Turn). t.with) turns)) (before number t.with this.1) (turns_before n number turns both.1)

-- literals whose ranks rise ascend
ranks_above : (low high : ℕ) (c : List ℤ) → rises_within low high (map rank_of c) ≡ true → list_all (λ k. nat_lt low (rank_of k)) c ≡ true
ranks_above low high [] e = refl
ranks_above low high (l ∷ c) e =
    let r = rises low high (rank_of l) (map rank_of c) e in
    let above = r.above in
    and_from (nat_lt low (rank_of l)) (list_all (λ k. nat_lt low (rank_of k)) c) (lt-ltb low (rank_of l) above)
    (ranks_above low high c (rises_from low (rank_of l) high (map rank_of c) (omega (arith, above)) r.more))

ascends : (low high : ℕ) (c : List ℤ) → rises_within low high (map rank_of c) ≡ true → is_ascending c ≡ true
ascends low high [] e = refl
ascends low high (l ∷ c) e =
    let r = rises low high (rank_of l) (map rank_of c) e in
    and_from (list_all (λ k. nat_lt (rank_of l) (rank_of k)) c) (is_ascending c) (ranks_above (rank_of l) high c r.more) (ascends (rank_of l) high c r.more)

-- so steps in form are those of a derivation
record HasForm (n : ℕ) (s : Step) : Type 0 where
  pub lower : names_lower s ≡ true
  pub order : is_ascending s.clause ≡ true

has_form : (n : ℕ) (s : Step) → is_step n s ≡ true → HasForm n s
has_form n s e =
    let a = and_true (nat_lt s.number (2 ^ 64) && rises_within 1 (2 * n + 1) (map rank_of s.clause) && is_between 1 (s.number - 1) s.first) (list_all (is_turn n s.number) s.turns) e in
    let b = and_true (nat_lt s.number (2 ^ 64) && rises_within 1 (2 * n + 1) (map rank_of s.clause)) (is_between 1 (s.number - 1) s.first) a.0 in
    let c = and_true (nat_lt s.number (2 ^ 64)) (rises_within 1 (2 * n + 1) (map rank_of s.clause)) b.0 in
    record {
      lower = and_from (nat_lt s.first s.number) (list_all (λ k. nat_lt k s.number) (map (λ (t : Turn). t.with) s.turns)) (before s.number s.first b.1) (turns_before n s.number s.turns a.1);
      order = ascends 1 (2 * n + 1) s.clause c.1;
    }

derived : (n last : ℕ) (steps : List Step) → are_steps n last steps ≡ true → IsDerivation (last + 1) steps
derived n last steps e =
    let both = and_true (counts_from (last + 1) (map (λ (s : Step). s.number) steps)) (list_all (is_step n) steps) e in
    record {
      numbers = both.0;
      names = all_weaker (is_step n) names_lower (λ s h. (has_form n s h).lower) steps both.1;
      clauses = all_weaker (is_step n) (λ (s : Step). is_ascending s.clause) (λ s h. (has_form n s h).order) steps both.1;
    }

-- of the clauses before the last none is empty
filled_before : (steps : List Step) → ends_at_empty steps ≡ true → are_filled_before_last steps ≡ true
filled_before [] e = refl
filled_before (s ∷ []) e = refl
filled_before (s ∷ t ∷ later) e = at_test (is_empty s.clause) e (filled_before (t ∷ later))
  where
    at_test : (b : Bool) → cond b false (ends_at_empty (t ∷ later)) ≡ true → (ends_at_empty (t ∷ later) ≡ true → are_filled_before_last (t ∷ later) ≡ true)
        → (not b && are_filled_before_last (t ∷ later)) ≡ true
    at_test true e rest = absurd (let f : ⊥ = cc in f)
    at_test false e rest = rest e

from_stated : (over : Crossed) (steps : List Step) → list_all (λ (earlier, s). states_its_clause (premises_of over earlier) s) (with_earlier [] steps) ≡ true
    → are_chains over steps ≡ true
unfolding are_chains
from_stated over steps e = e

to_learned : (over : Crossed) (steps : List Step) → are_learned over steps ≡ true → all_learned over steps ≡ true
unfolding all_learned
to_learned over steps e = e

pub refuted_near : (over : Crossed) (next last budget : ℕ) (F : Cnf) (r told : CrossedRefutation) → last + 1 ≡ next → length over.formula.now.clauses < next
    → RefutesAll F budget r → IsTold over last r told → are_learned over told.round.steps ≡ true → IsRefutedNear over next budget told
refuted_near over next last budget F r told is past all h learned =
    let steps = told.round.steps in
    let e = h.refutes.refutation in
    record {
      refuted = record {
        numbered = refl;
        round = record {
          past = past;
          form = subst (λ (k : ℕ). IsDerivation k steps) is (derived over.formula.now.vars last steps e.form);
          chains = from_stated over steps e.stated;
          names = e.names;
          learned = to_learned over steps learned;
        };
        refutes = whole_refutes steps e.whole;
        filled = filled_before steps e.whole;
        most = (let count = h.count in let most = all.most in omega (arith, count, most));
      };
      used = h.refutes.used;
    }

pub found_near : (over : Crossed) (next last budget : ℕ) (F : Cnf) (r : CrossedRefutation) (o : Option CrossedRefutation) → last + 1 ≡ next
    → length over.formula.now.clauses < next → RefutesAll F budget r → IfSome o (IsTold over last r)
    → IfSome o (λ (t : CrossedRefutation). are_learned over t.round.steps ≡ true) → IfSome o (IsRefutedNear over next budget)
found_near over next last budget F r None is past all told learned = told
found_near over next last budget F r (Some t) is past all told learned = refuted_near over next last budget F r t is past all told learned

-- what is answered
pub near_answered : (over : Crossed) (next budget : ℕ) (o : Option CrossedRefutation) (r : CrossedRefutation) → IfSome o (IsRefutedNear over next budget) → o ≡ Some r
    → IsRefutedNear over next budget r
near_answered over next budget o r a is = subst (λ (x : Option CrossedRefutation). IfSome x (IsRefutedNear over next budget)) is a

-- as a log
pub near_log : (over : Crossed) (conflicts : ℕ) (s : Rounds) (r : CrossedRefutation) → conflicts < 2 ^ 63 → IsRefutedNear over s.next s.budget r
    → IsAt over.formula.now over.part.now conflicts s → IsLog s.next r.round.steps
near_log over conflicts s r most h a =
    record { derivation = h.refuted.round.form; room = omega (arith, h.refuted.most, fits over.formula.now over.part.now conflicts s most a) }

-- as what is decided
pub near_round : (over : Crossed) (next budget : ℕ) (r : CrossedRefutation) → IsRefutedNear over next budget r
    → IsNextRound over.formula.now over.part.now over.blocked.now next budget (Refuted (record { first = next; steps = r.round.steps }))
near_round over next budget r h = record { over = over; decided = h.refuted; formula = refl; positions = refl; blocked = refl }

-- WHAT IS COVERED

all_kept : (t : ℕ → Bool) (ps : List ℕ) → list_all t ps ≡ true → filter t ps ≡ ps
all_kept t [] h = refl
all_kept t (p ∷ ps) h = let both = and_true (t p) (list_all t ps) h in rw (both.0) (ap (λ (qs : List ℕ). p ∷ qs) (all_kept t ps both.1))

-- all clauses are covered where each is
pub covered_all : (F : Cnf) (b : Variables) (part : List ℕ) → list_all (λ p. has_only b (clause_at F p)) part ≡ true → length (covered F b part) ≡ length part
covered_all F b part h = ap (λ (ps : List ℕ). length ps) (all_kept (λ p. has_only b (clause_at F p)) part h)

-- and not all where one is not
pub not_covered : (F : Cnf) (b : Variables) (part : List ℕ) → list_all (λ p. has_only b (clause_at F p)) part ≡ false → length (covered F b part) ≡ length part → ⊥
not_covered F b part n e =
    let y : list_all (λ p. has_only b (clause_at F p)) part ≡ true = all_left (λ p. has_only b (clause_at F p)) part e in
    let f : ⊥ = cc in f
