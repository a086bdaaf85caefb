-- A refutation by unit propagation as a round.
use Rattle.std.proofs.Common.{◌≡◌, ◌∙◌, ℕ, suc, ◌+◌, ◌<◌, ◌≤◌, ◌^◌, ◌==◌, ◌||◌, Bool, true, false, not, nat_lt, List, [], ◌∷◌, ◌++◌, Option, Some, ℤ, length, refl, sym, ap, subst, arith, inl, inr}
use Rattle.std.specs.List.{list_all}
use Rattle.std.specs.Option.{option_map_or}
use Rattle.std.proofs.lemmas.Bool.{eq-eqb, le-leb, and_from}
use Rattle.lk_model.specs.Lists.{among, is_empty, is_between}
use Rattle.lk_model.specs.Formulas.Literal.{is_same_set}
use Rattle.lk_model.specs.Formulas.Formula.{Cnf, positions_of, variable_occurs}
use Rattle.lk_model.specs.Formulas.Lean.{are_positions}
use Rattle.lk_model.specs.Held.VariableSets.{is_in, IsCrossed, premises_of}
use Rattle.lk_model.specs.Chains.Chain.{names_of, chain_clause, states_its_clause}
use Rattle.lk_model.specs.Chains.Rounds.{reached, used_positions}
use Rattle.lk_model.specs.declared.crossed.Crossed.{Crossed}
use Rattle.lk_model.specs.declared.document.Step.{Step}
use Rattle.lk_model.specs.declared.document.Turn.{Turn}
use Rattle.lk_model.proofs.Booleans.{and_true, or_true, or_right, same_tests}
use Rattle.lk_model.proofs.Counting.{in_filter}
use Rattle.lk_model.proofs.Rising.{bounded}
use Rattle.lk_model.proofs.Variables.{occurs, position_with, in_variables}
use Rattle.lk_model.proofs.ListTests.{one_number, each_number}
use Rattle.general_laws.proofs.Unblocked.{unblocked}
use Rattle.refutation_log.specs.Derivation.{IsLog, are_chains, names_lower}
use Rattle.learning_laws.specs.ModelLaw.{clause_over}
use Rattle.learning_laws.specs.SolveLaw.{all_learned}
use Rattle.cdcl_core.specs.Decision.{IsRefutedOver}
use Rattle.unit_refutations.specs.Chains.{is_filled}
use Rattle.unit_refutations.specs.Standing.{IsUnitRefutation, IsAnswer, IsKept, IsWithin, are_between}
use Rattle.unit_refutations.specs.declared.units.Units.{Units}
use Rattle.unit_refutations.specs.declared.units.UnitRefutation.{UnitRefutation}
use Rattle.general_kernel.specs.declared.rounds.Rounds.{Rounds}
use Rattle.general_kernel.proofs.Names.{used_named}
use Rattle.general_kernel.proofs.Needed.{round_of}
use Rattle.general_kernel.proofs.States.{IsAt, fits, goes_on}

-- the step that states the empty clause
abbrev empty_step : ℕ → ℕ → List Turn → Step
empty_step next first turns = record { number = next; clause = []; first = first; turns = turns }

-- it states the clause of its chain
states_empty : (over : Crossed) (next first : ℕ) (turns : List Turn) → chain_clause (premises_of over []) first turns ≡ Some []
    → states_its_clause (premises_of over []) (empty_step next first turns) ≡ true
unfolding states_its_clause
states_empty over next first turns e = ap (λ (o : Option (List ℤ)). option_map_or (is_same_set []) o false) e

chains_empty : (over : Crossed) (next first : ℕ) (turns : List Turn) → chain_clause (premises_of over []) first turns ≡ Some []
    → are_chains over (empty_step next first turns ∷ []) ≡ true
unfolding are_chains
chains_empty over next first turns e = and_from (states_its_clause (premises_of over []) (empty_step next first turns)) true (states_empty over next first turns e) refl

learned_empty : (over : Crossed) (next first : ℕ) (turns : List Turn) → all_learned over (empty_step next first turns ∷ []) ≡ true
unfolding all_learned
learned_empty over next first turns = refl

-- what a chain of filled positions names
record IsNamed (over : Crossed) (k : ℕ) : Type 0 where
  pub within : among over.part.now k ≡ true
  pub filled : not (is_empty (clause_over over k)) ≡ true
  pub first : 0 < k
  pub last : k ≤ length over.formula.now.clauses

is_named_at : (over : Crossed) (ns : List ℕ) (k : ℕ) → IsCrossed over → list_all (is_filled over) ns ≡ true → among ns k ≡ true → IsNamed over k
is_named_at over ns k crossed h there =
    let both = and_true (among over.part.now k) (not (is_empty (clause_over over k))) (one_number (is_filled over) ns k h there) in
    let bounds = bounded 0 (length over.formula.now.clauses) over.part.now k crossed.part both.0 in
    record { within = both.0; filled = both.1; first = bounds.0; last = bounds.1 }

pub unit_refuted : (over : Crossed) (next budget : ℕ) (r : UnitRefutation) → IsCrossed over → length over.formula.now.clauses < next → IsUnitRefutation over next r
    → IsRefutedOver over next budget (record { first = next; steps = r.round.steps })
unit_refuted over next budget r crossed past u =
    subst (λ (ss : List Step). IsRefutedOver over next budget (record { first = next; steps = ss })) (sym u.steps) at_step
  where
    m : ℕ
    m = length over.formula.now.clauses

    s : Step
    s = empty_step next u.first u.turns

    all_filled : list_all (is_filled over) (names_of s) ≡ true
    all_filled = ap (list_all (is_filled over)) (sym u.names) ∙ u.filled

    lower : (k : ℕ) → among (names_of s) k ≡ true → nat_lt k next ≡ true
    lower k there = let last = (is_named_at over (names_of s) k crossed all_filled there).last in le-leb (suc k) next (omega (arith, last, past))

    filled : (k : ℕ) → among (names_of s) k ≡ true → (nat_lt (length over.formula.now.clauses) k || not (is_empty (clause_over over k))) ≡ true
    filled k there = or_right (nat_lt (length over.formula.now.clauses) k) _ (is_named_at over (names_of s) k crossed all_filled there).filled

    at_step : IsRefutedOver over next budget (record { first = next; steps = s ∷ [] })
    at_step = record {
      numbered = refl;
      round = record {
        past = past;
        form = record {
          numbers = and_from (next == next) true (eq-eqb next next refl) refl;
          names = and_from (names_lower s) true (each_number (λ k. nat_lt k next) (names_of s) lower) refl;
          clauses = refl;
        };
        chains = chains_empty over next u.first u.turns u.empty;
        names = and_from (list_all (λ k. nat_lt (length over.formula.now.clauses) k || not (is_empty (clause_over over k))) (names_of s)) true
            (each_number (λ k. nat_lt (length over.formula.now.clauses) k || not (is_empty (clause_over over k))) (names_of s) filled) refl;
        learned = learned_empty over next u.first u.turns;
      };
      refutes = refl;
      filled = refl;
      most = omega arith;
    }

-- the positions that it names have the variables of those that it uses
reached_names : (s : Step) (k : ℕ) → among (names_of s) k ≡ true → among (reached (s ∷ [])) k ≡ true
unfolding reached
reached_names s k there = or_right (s.number == k) (among (names_of s) k) there

pub unit_used : (over : Crossed) (next : ℕ) (r : UnitRefutation) (v : ℕ) → IsCrossed over → length over.formula.now.clauses < next → IsUnitRefutation over next r
    → variable_occurs over.formula.now r.used v ≡ variable_occurs over.formula.now (used_positions over.formula.now (round_of r.round.steps)) v
unit_used over next r v crossed past u = same_tests _ _ forth back
  where
    F : Cnf
    F = over.formula.now

    s : Step
    s = empty_step next u.first u.turns

    used_is : used_positions over.formula.now (round_of r.round.steps) ≡ used_positions over.formula.now (round_of (s ∷ []))
    used_is = ap (λ (ss : List Step). used_positions over.formula.now (round_of ss)) u.steps

    forth : variable_occurs over.formula.now r.used v ≡ true → variable_occurs over.formula.now (used_positions over.formula.now (round_of r.round.steps)) v ≡ true
    forth e =
        let w = position_with F r.used v e in
        let x = is_named_at over r.used w.0 crossed u.filled w.1 in
        let there : among (names_of s) w.0 ≡ true = subst (λ (ns : List ℕ). among ns w.0 ≡ true) u.names w.1 in
        ap (λ (ps : List ℕ). variable_occurs F ps v) used_is
        ∙ occurs F (used_positions F (round_of (s ∷ []))) w.0 v
        (in_filter (among (reached (s ∷ []))) (positions_of F) w.0 (reached_names s w.0 there)
        (in_variables (length F.clauses) w.0 (x.first, x.last))) w.2

    back : variable_occurs over.formula.now (used_positions over.formula.now (round_of r.round.steps)) v ≡ true → variable_occurs over.formula.now r.used v ≡ true
    back e =
        let w = position_with F (used_positions F (round_of (s ∷ []))) v (ap (λ (ps : List ℕ). variable_occurs F ps v) (sym used_is) ∙ e) in
        let named = used_named F next (s ∷ []) w.0 past (and_from (next == next) true (eq-eqb next next refl) refl) w.1 in
        let there : among (names_of s) w.0 ≡ true = elim (or_true (among (names_of s) w.0) false named.0) [ inl y ↦ y | inr n ↦ absurd (let f : ⊥ = cc in f) ] in
        occurs F r.used w.0 v (subst (λ (ns : List ℕ). among ns w.0 ≡ true) (sym u.names) there) w.2

-- and they are positions
pub unit_between : (over : Crossed) (next : ℕ) (r : UnitRefutation) → IsCrossed over → IsUnitRefutation over next r → are_between over.formula.now r.used ≡ true
unit_between over next r crossed u = each_number (is_between 1 (length over.formula.now.clauses)) r.used
    (λ k there. (let x = is_named_at over r.used k crossed u.filled there in and_from _ _ (le-leb 1 k x.first) (le-leb k (length over.formula.now.clauses) x.last)))

-- as positions that ascend are
pub rise_between : (F : Cnf) (ps : List ℕ) → are_positions F ps ≡ true → are_between F ps ≡ true
rise_between F ps h = each_number (is_between 1 (length F.clauses)) ps
    (λ k there. (let b = bounded 0 (length F.clauses) ps k h there in and_from _ _ (le-leb 1 k b.0) (le-leb k (length F.clauses) b.1)))

-- what is answered
pub answered : (over : Crossed) (next : ℕ) (o : Option UnitRefutation) (r : UnitRefutation) → IsAnswer over next o → o ≡ Some r → IsUnitRefutation over next r
answered over next o r a is = subst (λ (x : Option UnitRefutation). IsAnswer over next x) is a

-- what is kept where the rounds take a refutation, and where variables are blocked
pub same_blocked : (F : Cnf) (u : Units) (b c : List Bool) → c ≡ b → IsKept F b u → IsKept F c u
same_blocked F u b c e h = subst (λ (x : List Bool). IsKept F x u) (sym e) h

pub within_same : (part : List ℕ) (u u' : Units) → u'.agenda.inside ≡ u.agenda.inside → IsWithin part u → IsWithin part u'
within_same part u u' e h = λ p there. h p (ap (λ (x : List Bool). is_in x p) (sym e) ∙ there)

-- what is answered, as a log
pub unit_log : (over : Crossed) (conflicts : ℕ) (s : Rounds) (r : UnitRefutation) → conflicts < 2 ^ 63 → IsCrossed over → IsUnitRefutation over s.next r
    → IsAt over.formula.now over.part.now conflicts s → IsLog s.next r.round.steps
unit_log over conflicts s r most crossed u a =
    let past : length over.formula.now.clauses < s.next = omega (arith, a.next) in
    let h = unit_refuted over s.next s.budget r crossed past u in
    record { derivation = h.round.form; room = omega (arith, h.most, fits over.formula.now over.part.now conflicts s most a) }

-- what a refutation by unit propagation is over
pub record IsUnitRound (F : Cnf) (part : List ℕ) (flags : List Bool) (next : ℕ) (r : UnitRefutation) : Type 0 where
  pub over : Crossed
  pub refuted : IsUnitRefutation over next r
  pub formula : over.formula.now ≡ F
  pub positions : over.part.now ≡ part
  pub blocked : over.blocked.now ≡ flags

-- what is put into the rounds, with the positions that it names
pub record IsUnitPut (F : Cnf) (s s' : Rounds) (r : UnitRefutation) : Type 0 where
  pub first : s'.first ≡ s.first
  pub logs : s'.logs.items ≡ s.logs.items ++ record { first = s.next; steps = r.round.steps } ∷ []
  pub next : s'.next ≡ s.next + length r.round.steps
  pub budget : s'.budget + length r.round.steps ≡ s.budget + 1
  pub size : length s'.blocked ≡ length s.blocked
  pub blocked : (v : ℕ) → is_in s'.blocked v ≡ (is_in s.blocked v || variable_occurs F r.used v)

-- the rounds go on
pub unit_round : (F : Cnf) (part : List ℕ) (conflicts : ℕ) (s s' : Rounds) (r : UnitRefutation) → IsUnitRound F part s.blocked s.next r
    → conflicts < 2 ^ 63 → are_positions F part ≡ true → IsAt F part conflicts s → IsUnitPut F s s' r
    → IsAt F part conflicts s' × (length (unblocked F.vars (is_in s'.blocked)) < length (unblocked F.vars (is_in s.blocked)))
unit_round F part conflicts s s' r t most positions a p = at F part t.formula t.positions positions a p
  where
    over_it : are_positions t.over.formula.now t.over.part.now ≡ true → IsAt t.over.formula.now t.over.part.now conflicts s → IsUnitPut t.over.formula.now s s' r
        → IsAt t.over.formula.now t.over.part.now conflicts s'
        × (length (unblocked t.over.formula.now.vars (is_in s'.blocked)) < length (unblocked t.over.formula.now.vars (is_in s.blocked)))
    over_it positions a p =
        let crossed : IsCrossed t.over = record { part = positions; blocked = ap (λ (bs : List Bool). length bs) t.blocked ∙ a.size } in
        let past : length t.over.formula.now.clauses < s.next = let n = a.next in omega (arith, n) in
        goes_on t.over conflicts s s' (record { first = s.next; steps = r.round.steps }) most crossed t.blocked a (unit_refuted t.over s.next s.budget r crossed past t.refuted) (record {
          first = p.first;
          logs = p.logs;
          next = p.next;
          budget = p.budget;
          size = p.size;
          blocked = λ v. p.blocked v ∙ ap (λ (b : Bool). is_in s.blocked v || b) (unit_used t.over s.next r v crossed past t.refuted);
        })

    at : (G : Cnf) (ps : List ℕ) → t.over.formula.now ≡ G → t.over.part.now ≡ ps → are_positions G ps ≡ true → IsAt G ps conflicts s → IsUnitPut G s s' r
        → IsAt G ps conflicts s' × (length (unblocked G.vars (is_in s'.blocked)) < length (unblocked G.vars (is_in s.blocked)))
    at G ps e f = subst (λ (H : Cnf). are_positions H ps ≡ true → IsAt H ps conflicts s → IsUnitPut H s s' r
        → IsAt H ps conflicts s' × (length (unblocked H.vars (is_in s'.blocked)) < length (unblocked H.vars (is_in s.blocked)))) e
        (subst (λ (qs : List ℕ). are_positions t.over.formula.now qs ≡ true → IsAt t.over.formula.now qs conflicts s → IsUnitPut t.over.formula.now s s' r
        → IsAt t.over.formula.now qs conflicts s' × (length (unblocked t.over.formula.now.vars (is_in s'.blocked)) < length (unblocked t.over.formula.now.vars (is_in s.blocked)))) f
        over_it)
