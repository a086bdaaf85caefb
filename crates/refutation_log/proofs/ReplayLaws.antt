-- Logs of chains that are given.
use Rattle.std.proofs.Common.{◌≡◌, ◌∙◌, ℕ, zero, suc, ◌+◌, ◌<◌, ◌≤◌, Bool, true, false, not, nat_lt, List, [], ◌∷◌, ◌++◌, refl, sym, ap, subst, inl, inr, arith, ℤ, Option, Some, None, length, map, take, get_or, IsSome}
use Rattle.std.specs.List.{list_all}
use Rattle.std.specs.Option.{option_map_or}
use Rattle.std.specs.Ordering.{int_eq}
use Rattle.std.proofs.Math.Bool.{or-true}
use Rattle.std.proofs.lemmas.Bool.{ltb-true}
use Rattle.std.proofs.lemmas.List.{append-nil, append_assoc, length-map, length-take-le, map-append, get_or-map, get_or_default, take_more}
use Rattle.lk_model.specs.Lists.{is_empty}
use Rattle.lk_model.specs.Formulas.Literal.{contains, rank_of, is_same_set}
use Rattle.lk_model.specs.Held.VariableSets.{premises_of}
use Rattle.lk_model.specs.Chains.Chain.{Premises, chain_clause, states_its_clause}
use Rattle.lk_model.specs.Chains.Rounds.{is_refutation}
use Rattle.lk_model.specs.declared.crossed.Crossed.{Crossed}
use Rattle.lk_model.specs.declared.document.Step.{Step}
use Rattle.lk_model.specs.declared.document.Turn.{Turn}
use Rattle.lk_model.proofs.Booleans.{and_true, or_true, same_tests}
use Rattle.lk_model.proofs.Literals.{same_int, int_self}
use Rattle.lk_model.proofs.ListTests.{all_at, passes_each}
use Rattle.refutation_log.specs.declared.chain.Chain.{Chain}
use Rattle.refutation_log.specs.Derivation.{Derivation, Extends, are_chains, is_ascending, next_number, step_of}
use Rattle.refutation_log.specs.Replayed.{IsReplayed, chain_of}
use Rattle.refutation_log.specs.SameClause.{HaveSame}
use Rattle.refutation_log.specs.Trimmed.{are_filled_before_last}
use Rattle.refutation_log.proofs.ChainNames.{from_chains, has_clause, pushed_law, state_clauses}
use Rattle.refutation_log.proofs.Clauses.{have_same}
use Rattle.refutation_log.proofs.Steps.{number_get}

-- A LOG SO FAR

-- a step for each of the chains so far, where no clause before the last is empty
pub record IsReplay (over : Crossed) (next : ℕ) (given : List Chain) (log : Derivation) : Type 0 where
  pub numbered : log.first ≡ next
  pub steps : map chain_of log.steps ≡ given
  pub chains : are_chains over log.steps ≡ true
  pub filled : are_filled_before_last log.steps ≡ true

pub replay_none : (over : Crossed) (log : Derivation) → log.steps ≡ [] → IsReplay over log.first [] log
replay_none over log none = record {
  numbered = refl;
  steps = rw none refl;
  chains = rw none (pushed_law.none over);
  filled = rw none refl;
}

filled_more : (steps : List Step) (s : Step) → is_refutation steps ≡ false → are_filled_before_last steps ≡ true
    → are_filled_before_last (steps ++ s ∷ []) ≡ true
filled_more [] s last filled = refl
filled_more (t ∷ []) s last filled = rw last refl
filled_more (t ∷ u ∷ later) s last filled =
    let both = and_true (not (is_empty t.clause)) (are_filled_before_last (u ∷ later)) filled in rw (both.0) (filled_more (u ∷ later) s last both.1)

pub replay_more : {over : Crossed} {next first : ℕ} {given : List Chain} {turns : List Turn} {before after : Derivation}
    → IsReplay over next given before → is_refutation before.steps ≡ false → Extends over before first turns after
    → IsReplay over next (given ++ record { first = first; turns = turns } ∷ []) after
replay_more {over} {next} {first} {given} {turns} {before} {after} so_far last one =
    let s = step_of (next_number before) one.clause first turns in record {
      numbered = one.same_first ∙ so_far.numbered;
      steps = rw (one.steps) (map-append chain_of before.steps (s ∷ []) ∙ ap (λ (cs : List Chain). cs ++ chain_of s ∷ []) so_far.steps);
      chains = pushed_law.more over before after first turns so_far.chains one;
      filled = rw (one.steps) (filled_more before.steps s last so_far.filled);
    }

pub so_many : {over : Crossed} {next : ℕ} {log : Derivation} (given : List Chain) (i : ℕ) → IsReplay over next (take i given) log → i ≤ length given
    → length log.steps ≡ i
so_many {over} {next} {log} given i so_far le =
    sym (length-map log.steps chain_of) ∙ ap (λ (cs : List Chain). length cs) so_far.steps ∙ length-take-le i given le

-- ONE LOG

-- two clauses in order with the same literals
one_order : (c d : List ℤ) → is_ascending c ≡ true → is_ascending d ≡ true → HaveSame c d → c ≡ d
one_order [] [] a b same = refl
one_order [] (l ∷ d) a b same = absurd (let e = same.members l in let s = int_self l in let f : false ≡ true = e ∙ rw s refl in let z : ⊥ = cc in z)
one_order (k ∷ c) [] a b same = absurd (let e = same.members k in let s = int_self k in let f : false ≡ true = sym e ∙ rw s refl in let z : ⊥ = cc in z)
one_order (k ∷ c) (l ∷ d) a b same =
    let ours = and_true (list_all (λ j. nat_lt (rank_of k) (rank_of j)) c) (is_ascending c) a in
    let theirs = and_true (list_all (λ j. nat_lt (rank_of l) (rank_of j)) d) (is_ascending d) b in
    let head = one_head ours.0 theirs.0 in
    let rest = one_order c d ours.1 theirs.1 (record {
      members = λ j. same_tests (contains c j) (contains d j)
          (λ m. stays k l c d head ours.0 j m (sym (same.members j)))
          (λ m. stays l k d c (sym head) theirs.0 j m (same.members j));
    }) in
    ap (λ (j : ℤ). j ∷ c) head ∙ ap (λ (e : List ℤ). l ∷ e) rest
  where
    higher : (l k : ℤ) (c : List ℤ) → list_all (λ j. nat_lt (rank_of l) (rank_of j)) c ≡ true → contains c k ≡ true → rank_of l < rank_of k
    higher l k c all m = ltb-true (rank_of l) (rank_of k) (passes_each (λ j. nat_lt (rank_of l) (rank_of j)) c k all m)

    one_head : list_all (λ j. nat_lt (rank_of k) (rank_of j)) c ≡ true → list_all (λ j. nat_lt (rank_of l) (rank_of j)) d ≡ true → k ≡ l
    one_head below above =
        let here : contains (l ∷ d) k ≡ true = sym (same.members k) ∙ rw (int_self k) refl in
        let there : contains (k ∷ c) l ≡ true = same.members l ∙ rw (int_self l) refl in
        elim (or_true (int_eq k l) (contains d k) here) [
          | inl is ↦ same_int k l is
          | inr later ↦ elim (or_true (int_eq l k) (contains c l) there) [
            | inl is ↦ sym (same_int l k is)
            | inr after ↦ absurd (let m = higher l k d above later in let n = higher k l c below after in omega (arith, m, n))
          ]
        ]

    stays : (k l : ℤ) (c d : List ℤ) → k ≡ l → list_all (λ j. nat_lt (rank_of k) (rank_of j)) c ≡ true → (j : ℤ) → contains c j ≡ true
        → contains (l ∷ d) j ≡ contains (k ∷ c) j → contains d j ≡ true
    stays k l c d head below j m e =
        let there : contains (l ∷ d) j ≡ true = e ∙ rw m (or-true (int_eq j k)) in
        elim (or_true (int_eq j l) (contains d j) there) [
          | inl is ↦ absurd (
              let lt = higher k j c below m in
              let same_rank : rank_of j ≡ rank_of k = ap rank_of (same_int j l is ∙ sym head) in
              omega (arith, lt, same_rank)
              )
          | inr later ↦ later
        ]

-- two steps that state the clause of one chain
one_step : (from : Premises) (s t : Step) → s.number ≡ t.number → chain_of s ≡ chain_of t → states_its_clause from s ≡ true → states_its_clause from t ≡ true
    → is_ascending s.clause ≡ true → is_ascending t.clause ≡ true → s ≡ t
unfolding states_its_clause
one_step from s t number chain ours theirs up rising =
    let first = ap (λ (c : Chain). c.first) chain in
    let turns = ap (λ (c : Chain). c.turns) chain in
    let same = at (chain_clause from s.first s.turns) ours (rw (first, turns) theirs) in
    let clause = one_order s.clause t.clause up rising same in
    rw (← number, ← clause, ← first, ← turns) refl
  where
    at : (o : Option (List ℤ)) → option_map_or (is_same_set s.clause) o false ≡ true → option_map_or (is_same_set t.clause) o false ≡ true
        → HaveSame s.clause t.clause
    at None a b = absurd (let f : ⊥ = cc in f)
    at (Some c) a b =
        let h = have_same s.clause c a in let j = have_same t.clause c b in record { members = λ k. h.members k ∙ sym (j.members k) }

stated_after : (over : Crossed) (before steps : List Step) (i : ℕ) (d : Step) → state_clauses over before steps ≡ true → i < length steps
    → states_its_clause (premises_of over (before ++ take i steps)) (get_or steps i d) ≡ true
stated_after over before [] i d e lt = absurd (omega (arith, lt))
stated_after over before (s ∷ steps) zero d e lt =
    rw (append-nil before) (and_true (states_its_clause (premises_of over before) s) (state_clauses over (before ++ s ∷ []) steps) e).0
stated_after over before (s ∷ steps) (suc i) d e lt =
    let both = and_true (states_its_clause (premises_of over before) s) (state_clauses over (before ++ s ∷ []) steps) e in
    subst (λ (earlier : List Step). states_its_clause (premises_of over earlier) (get_or steps i d) ≡ true) (append_assoc before (s ∷ []) (take i steps))
    (stated_after over (before ++ s ∷ []) steps i d both.1 (omega (arith, lt)))

-- each step states its clause over those before it
stated_at : (over : Crossed) (steps : List Step) (i : ℕ) (d : Step) → are_chains over steps ≡ true → i < length steps
    → states_its_clause (premises_of over (take i steps)) (get_or steps i d) ≡ true
stated_at over steps i d e lt = stated_after over [] steps i d (from_chains over steps e) lt

no_step : Step
no_step = record { number = 0; clause = []; first = 0; turns = [] }

module _ {over : Crossed} {next : ℕ} {given : List Chain} {log : Derivation} (h : IsReplayed over next given log) where
  as_many : length log.steps ≡ length given
  as_many = sym (length-map log.steps chain_of) ∙ ap (λ (cs : List Chain). length cs) h.steps

  chain_at : (i : ℕ) (c : Chain) → i < length given → chain_of (get_or log.steps i no_step) ≡ get_or given i c
  chain_at i c lt =
      sym (get_or-map chain_of log.steps i no_step c (omega (arith, as_many, lt))) ∙ ap (λ (cs : List Chain). get_or cs i c) h.steps

  -- each chain has a clause over the steps before it
  pub goes : (i : ℕ) (c : Chain) → i < length given → c ≡ get_or given i c → IsSome (chain_clause (premises_of over (take i log.steps)) c.first c.turns)
  goes i c lt at =
      let from = premises_of over (take i log.steps) in
      let s = get_or log.steps i no_step in
      let same : chain_of s ≡ c = chain_at i c lt ∙ sym at in
      subst (λ (d : Chain). IsSome (chain_clause from d.first d.turns)) same
      (has_clause from s (stated_at over log.steps i no_step h.chains (omega (arith, as_many, lt))))

  -- and the clauses before the last one have a literal
  pub never_early : (i : ℕ) → i < length given → is_refutation (take i log.steps) ≡ true → ⊥
  never_early i lt early = filled_early log.steps i (omega (arith, as_many, lt)) early h.filled
    where
      filled_early : (steps : List Step) (i : ℕ) → i < length steps → is_refutation (take i steps) ≡ true → are_filled_before_last steps ≡ true → ⊥
      filled_early [] i lt e f = omega (arith, lt)
      filled_early (s ∷ steps) zero lt e f = cc
      filled_early (s ∷ []) (suc i) lt e f = omega (arith, lt)
      filled_early (s ∷ t ∷ later) (suc zero) lt e f =
          let both = and_true (not (is_empty s.clause)) (are_filled_before_last (t ∷ later)) f in apart (is_empty s.clause) e both.0
        where
          apart : (b : Bool) → b ≡ true → not b ≡ true → ⊥
          apart true e g = cc
          apart false e g = cc
      filled_early (s ∷ t ∷ later) (suc (suc i)) lt e f =
          filled_early (t ∷ later) (suc i) (omega (arith, lt)) e (and_true (not (is_empty s.clause)) (are_filled_before_last (t ∷ later)) f).1

  -- it begins with each log of its first chains
  pub begins : {i : ℕ} {before after : Derivation} (c : Chain) → i < length given → c ≡ get_or given i c → before.first ≡ next → length before.steps ≡ i
      → before.steps ≡ take i log.steps → Extends over before c.first c.turns after → after.steps ≡ take (i + 1) log.steps
  begins {i} {before} {after} c lt at first long same one =
      let s = step_of (next_number before) one.clause c.first c.turns in
      let t = get_or log.steps i no_step in
      let within : i < length log.steps = omega (arith, as_many, lt) in
      let kept = h.derivation in
      let their_number = number_get log.first log.steps i t kept.numbers within (get_or_default log.steps i no_step t within) in
      let number : next_number before ≡ t.number = omega (arith, their_number, h.numbered, first, long) in
      let is : s ≡ t = one_step (premises_of over before.steps) s t number (at ∙ sym (chain_at i c lt)) one.stated
      (rw same (stated_at over log.steps i no_step h.chains within)) one.ascending
      (all_at (λ (u : Step). is_ascending u.clause) log.steps i no_step kept.clauses within) in
      one.steps ∙ ap (λ (ss : List Step). ss ++ s ∷ []) same ∙ ap (λ (u : Step). take i log.steps ++ u ∷ []) is ∙ sym (take_more log.steps i no_step within)
