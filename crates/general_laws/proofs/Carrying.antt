-- Rounds over other positions, with other variables blocked and by new numbers.
use Rattle.std.proofs.Common.{◌≡◌, ℕ, ◌≤◌, Bool, true, false, cond, not, ◌&&◌, ◌||◌, ◌==◌, List, [], ◌∷◌, ◌++◌, refl, sym, ◌∙◌, ap, subst, ℤ, Some, ◌⊎◌, inl, inr, map, filter, length, arith}
use Rattle.std.specs.Prelude.{⊤}
use Rattle.std.specs.List.{flat_map}
use Rattle.std.proofs.lemmas.Bool.{le-leb, eqb-true, eq-eqb, not-false, not_from_true}
use Rattle.std.proofs.lemmas.List.{map-append}
use Rattle.lk_model.specs.Lists.{among}
use Rattle.lk_model.specs.Formulas.Literal.{variable, contains}
use Rattle.lk_model.specs.Formulas.Formula.{Cnf, clause_at, positions_of, variable_occurs}
use Rattle.lk_model.specs.Formulas.Crossed.{Variables, crossed_out}
use Rattle.lk_model.specs.Chains.Chain.{Premises, clause_named, names_of, after_turns, states_its_clause}
use Rattle.lk_model.specs.Chains.Rounds.{reached, is_refutation, used_positions, variables_used, blocked_after_round, blocked_after}
use Rattle.lk_model.specs.Documents.Documents.{steps_of}
use Rattle.lk_model.specs.declared.document.Turn.{Turn}
use Rattle.lk_model.specs.declared.document.Step.{Step}
use Rattle.lk_model.specs.declared.document.Round.{Round}
use Rattle.lk_model.proofs.Booleans.{and_true, or_true, or_left, or_right}
use Rattle.lk_model.proofs.Founds.{up_to_bounds}
use Rattle.lk_model.proofs.Counting.{from_filter}
use Rattle.lk_model.proofs.Literals.{int_self}
use Rattle.lk_model.proofs.Lists.{among_either}
use Rattle.kernel_laws.proofs.Clauses.{from_filtered}
use Rattle.kernel_laws.proofs.Occurrences.{occurs_here}
use Rattle.kernel_laws.proofs.Tests.{filter_same}
use Rattle.general_laws.specs.JoinLaw.{renumbered, renumbered_round}
use Rattle.general_laws.proofs.Chains.{turned, chained, stated}
use Rattle.general_laws.proofs.Numbering.{AreRising, first_rise, rest_rise, premises_in, named_position}
use Rattle.general_laws.proofs.Stated.{NoneOf, NoneIn}
use Rattle.general_laws.proofs.Reaching.{is_misstated}
use Rattle.general_laws.proofs.Blocking.{used_at}
use Rattle.general_laws.proofs.Renumbering.{IsRenumbering, named_carried, step_carried, among_renumbered, reached_renumbered, refutation_renumbered}

-- WHAT STEPS NAME

-- each position that the steps' chains name is among these
abbrev pub NamesIn : Cnf → List ℕ → List Step → Type 0
NamesIn F P [] = ⊤
NamesIn F P (s ∷ steps) = ((k : ℕ) → among (names_of s) k ≡ true → k ≤ length F.clauses → among P k ≡ true) × NamesIn F P steps

-- the first of some steps name no more than all
pub names_first : (F : Cnf) (P : List ℕ) (steps more : List Step) → NamesIn F P (steps ++ more) → NamesIn F P steps
names_first F P [] more n = tt
names_first F P (s ∷ steps) more n = (n.0, names_first F P steps more n.1)

-- nor do the rest
pub names_rest : (F : Cnf) (P : List ℕ) (steps more : List Step) → NamesIn F P (steps ++ more) → NamesIn F P more
names_rest F P [] more n = n
names_rest F P (s ∷ steps) more n = names_rest F P steps more n.1

-- and all name what the first or the rest do
pub names_both : (F : Cnf) (P : List ℕ) (steps more : List Step) → NamesIn F P steps → NamesIn F P more → NamesIn F P (steps ++ more)
names_both F P [] more n h = h
names_both F P (s ∷ steps) more n h = (n.0, names_both F P steps more n.1 h)

-- what is named among some positions is among more
pub names_more : (F : Cnf) (P Q : List ℕ) (steps : List Step) → ((p : ℕ) → among P p ≡ true → among Q p ≡ true) → NamesIn F P steps → NamesIn F Q steps
names_more F P Q [] h n = tt
names_more F P Q (s ∷ steps) h n = (λ k m le. h k (n.0 k m le), names_more F P Q steps h n.1)

-- what a chain names stands for a clause
pub turn_named : (from : Premises) (turns : List Turn) (c e : List ℤ) → after_turns from c turns ≡ Some e
    → (k : ℕ) → among (map (λ (t : Turn). t.with) turns) k ≡ true → (d : List ℤ) × (clause_named from k ≡ Some d)
turn_named from [] c e h k m = absurd (let f : ⊥ = cc in f)
turn_named from (t ∷ turns) c e h k m =
    let w = turned from c t turns e h in
    elim (or_true (t.with == k) (among (map (λ (t : Turn). t.with) turns) k) m) [
      | inl here ↦ (w.other, subst (λ (j : ℕ). clause_named from j ≡ Some w.other) (eqb-true t.with k here) w.named)
      | inr later ↦ turn_named from turns _ e w.rest k later
    ]

-- so does what a step names
pub name_named : (from : Premises) (s : Step) → states_its_clause from s ≡ true → (k : ℕ) → among (names_of s) k ≡ true → (d : List ℤ) × (clause_named from k ≡ Some d)
name_named from s h k m =
    let w = stated from s h in
    let x = chained from s.first s.turns w.clause w.is in
    elim (or_true (s.first == k) (among (map (λ (t : Turn). t.with) s.turns) k) m) [
      | inl here ↦ (x.start, subst (λ (j : ℕ). clause_named from j ≡ Some x.start) (eqb-true s.first k here) x.named)
      | inr later ↦ turn_named from s.turns x.start w.clause x.rest k later
    ]

-- so each position that is named is one of those over which the steps state their clauses
pub names_stated : (F : Cnf) (P : List ℕ) (b : Variables) (earlier steps : List Step) → NoneOf is_misstated F P b earlier steps → NamesIn F P steps
names_stated F P b earlier [] none = tt
names_stated F P b earlier (s ∷ steps) none = (
  λ k m le.
      let w = name_named (premises_in F P b earlier) s (not-false (states_its_clause (premises_in F P b earlier) s) none.0) k m in
      (named_position F P b earlier k w.0 (le-leb k (length F.clauses) le) w.1).0,
  names_stated F P b (earlier ++ s ∷ []) steps none.1,
)

-- and so through all rounds
pub names_of_rounds : (F : Cnf) (P : List ℕ) (b : Variables) (rounds : List Round) → NoneIn is_misstated F P b rounds → NamesIn F P (steps_of rounds)
names_of_rounds F P b [] none = tt
names_of_rounds F P b (r ∷ rounds) none =
    names_both F P r.steps (steps_of rounds) (names_stated F P b [] r.steps none.0) (names_of_rounds F P (blocked_after_round F b r) rounds none.1)

-- and so is each that is reached
pub reached_in : (F : Cnf) (P : List ℕ) (steps : List Step) (low : ℕ) → length F.clauses ≤ low → AreRising low steps → NamesIn F P steps
    → (k : ℕ) → among (reached steps) k ≡ true → k ≤ length F.clauses → among P k ≡ true
unfolding reached
reached_in F P [] low past rising names k m le = absurd (let f : ⊥ = cc in f)
reached_in F P (s ∷ []) low past rising names k m le = elim (or_true (s.number == k) (among (names_of s) k) m) [
  | inl here ↦ (let same = eqb-true s.number k here in let above = rising.0 in absurd (omega (arith, past, above, same, le)))
  | inr named ↦ names.0 k named le
]
reached_in F P (s ∷ t ∷ later) low past rising names k m le =
    at_test (λ j. reached_in F P (t ∷ later) s.number (let above = rising.0 in omega (arith, past, above)) rising.1 names.1 j) (among (reached (t ∷ later)) s.number) m
  where
    at_test : ((j : ℕ) → among (reached (t ∷ later)) j ≡ true → j ≤ length F.clauses → among P j ≡ true) → (b : Bool)
        → among (cond b (names_of s ++ reached (t ∷ later)) (reached (t ∷ later))) k ≡ true → among P k ≡ true
    at_test rest false m = rest k m le
    at_test rest true m = elim (among_either (names_of s) (reached (t ∷ later)) k m) [
      | inl named ↦ names.0 k named le
      | inr known ↦ rest k known le
    ]

-- OTHER BLOCKED VARIABLES

-- on the variables of these positions the two sets agree
abbrev pub AgreeOn : Cnf → List ℕ → Variables → Variables → Type 0
AgreeOn F P b c = (v : ℕ) → variable_occurs F P v ≡ true → b v ≡ c v

-- tests that agree on the literals of a clause leave the same of it
same_filter : (t u : ℤ → Bool) (c : List ℤ) → ((l : ℤ) → contains c l ≡ true → t l ≡ u l) → filter t c ≡ filter u c
same_filter t u [] h = refl
same_filter t u (l ∷ c) h =
    ap (λ (b : Bool). cond b (l ∷ filter t c) (filter t c)) (h l (or_left _ (contains c l) (int_self l)))
    ∙ ap (λ (d : List ℤ). cond (u l) (l ∷ d) d) (same_filter t u c (λ k m. h k (or_right _ (contains c k) m)))

-- lists that are put together from the same are the same
same_flat_map : (f g : ℕ → List ℕ) (ks : List ℕ) → ((k : ℕ) → among ks k ≡ true → f k ≡ g k) → flat_map f ks ≡ flat_map g ks
same_flat_map f g [] h = refl
same_flat_map f g (k ∷ ks) h =
    ap (λ (js : List ℕ). js ++ flat_map f ks) (h k (or_left (k == k) (among ks k) (eq-eqb k k refl)))
    ∙ ap (λ (js : List ℕ). g k ++ js) (same_flat_map f g ks (λ j m. h j (or_right (k == j) (among ks j) m)))

-- so the crossed clauses there are the same
pub crossed_same : (F : Cnf) (P : List ℕ) (b c : Variables) → AgreeOn F P b c → (p : ℕ) → among P p ≡ true → crossed_out b (clause_at F p) ≡ crossed_out c (clause_at F p)
crossed_same F P b c agree p m =
    same_filter (λ l. not (b (variable l))) (λ l. not (c (variable l))) (clause_at F p) (λ l held. ap not (agree (variable l) (occurs_here F P p l m held)))

-- ONE ROUND CARRIED OVER

-- the steps of a round state their clauses over the other positions too
pub steps_carried : (F : Cnf) (f : ℕ → ℕ) (P Q : List ℕ) (b c : Variables) (earlier steps : List Step) → IsRenumbering (length F.clauses) f → AgreeOn F P b c
    → NamesIn F Q steps → NoneOf is_misstated F P b earlier steps → NoneOf is_misstated F Q c (map (renumbered f) earlier) (map (renumbered f) steps)
steps_carried F f P Q b c earlier [] new agree names none = tt
steps_carried F f P Q b c earlier (s ∷ steps) new agree names none = (
  not_from_true (states_its_clause (premises_in F Q c (map (renumbered f) earlier)) (renumbered f s))
      (step_carried f (premises_in F P b earlier) (premises_in F Q c (map (renumbered f) earlier)) s
      (λ k d m e. named_carried F f P Q b c earlier new (crossed_same F P b c agree) k d (names.0 k m) e)
      (not-false (states_its_clause (premises_in F P b earlier) s) none.0)),
  subst (λ (us : List Step). NoneOf is_misstated F Q c us (map (renumbered f) steps)) (map-append (renumbered f) earlier (s ∷ []))
      (steps_carried F f P Q b c (earlier ++ s ∷ []) steps new agree names.1 none.1),
)

-- a round uses the same positions by new numbers
pub used_carried : (F : Cnf) (f : ℕ → ℕ) (r : Round) → IsRenumbering (length F.clauses) f → used_positions F r ≡ used_positions F (renumbered_round f r)
used_carried F f r new = filter_same (among (reached r.steps)) (among (reached (map (renumbered f) r.steps))) (positions_of F) same
  where
    same : (p : ℕ) → among (positions_of F) p ≡ true → among (reached r.steps) p ≡ among (reached (map (renumbered f) r.steps)) p
    same p m =
        let le = (up_to_bounds (length F.clauses) p m).1 in
        sym (among_renumbered f new.same (reached r.steps) p)
        ∙ ap (λ (ks : List ℕ). among ks (f p)) (sym (reached_renumbered f new.same r.steps))
        ∙ ap (λ (j : ℕ). among (reached (map (renumbered f) r.steps)) j) (new.fixed p le)

-- so it uses the same variables
pub variables_carried : (F : Cnf) (f : ℕ → ℕ) (P : List ℕ) (b c : Variables) (low : ℕ) (r : Round) → IsRenumbering (length F.clauses) f → AgreeOn F P b c
    → length F.clauses ≤ low → AreRising low r.steps → NamesIn F P r.steps → variables_used F b r ≡ variables_used F c (renumbered_round f r)
variables_carried F f P b c low r new agree past rising names =
    same_flat_map (λ p. map variable (crossed_out b (clause_at F p))) (λ p. map variable (crossed_out c (clause_at F p))) (used_positions F r) same
    ∙ ap (flat_map (λ p. map variable (crossed_out c (clause_at F p)))) (used_carried F f r new)
  where
    same : (p : ℕ) → among (used_positions F r) p ≡ true → map variable (crossed_out b (clause_at F p)) ≡ map variable (crossed_out c (clause_at F p))
    same p m =
        let w = from_filter (among (reached r.steps)) (positions_of F) p m in
        ap (map variable) (crossed_same F P b c agree p (reached_in F P r.steps low past rising names p w.0 (up_to_bounds (length F.clauses) p w.1).1))

-- and after it the two sets of blocked variables still agree
pub agree_after_round : (F : Cnf) (f : ℕ → ℕ) (P : List ℕ) (b c : Variables) (low : ℕ) (r : Round) → IsRenumbering (length F.clauses) f → AgreeOn F P b c
    → length F.clauses ≤ low → AreRising low r.steps → NamesIn F P r.steps
    → AgreeOn F P (blocked_after_round F b r) (blocked_after_round F c (renumbered_round f r))
agree_after_round F f P b c low r new agree past rising names v there =
    ap (λ (x : Bool). x || (is_refutation r.steps && among (variables_used F b r) v)) (agree v there)
    ∙ ap (λ (x : Bool). c v || (x && among (variables_used F b r) v)) (sym (refutation_renumbered f r.steps))
    ∙ ap (λ (vs : List ℕ). c v || (is_refutation (map (renumbered f) r.steps) && among vs v)) (variables_carried F f P b c low r new agree past rising names)

-- ROUNDS CARRIED OVER

-- all rounds state their clauses over the other positions, and what is blocked agrees on the first ones
pub rounds_carried : (F : Cnf) (f : ℕ → ℕ) (P Q : List ℕ) (b c : Variables) (low : ℕ) (rounds : List Round) → IsRenumbering (length F.clauses) f → AgreeOn F P b c
    → length F.clauses ≤ low → AreRising low (steps_of rounds) → NamesIn F Q (steps_of rounds) → NoneIn is_misstated F P b rounds
    → NoneIn is_misstated F Q c (map (renumbered_round f) rounds) × AgreeOn F P (blocked_after F b rounds) (blocked_after F c (map (renumbered_round f) rounds))
unfolding blocked_after
rounds_carried F f P Q b c low [] new agree past rising names none = (tt, agree)
rounds_carried F f P Q b c low (r ∷ rounds) new agree past rising names none =
    let here = steps_carried F f P Q b c [] r.steps new agree (names_first F Q r.steps (steps_of rounds) names) none.0 in
    let next = agree_after_round F f P b c low r new agree past (first_rise low r.steps (steps_of rounds) rising) (names_stated F P b [] r.steps none.0) in
    let more = rounds_carried F f P Q (blocked_after_round F b r) (blocked_after_round F c (renumbered_round f r)) low rounds new next past
    (rest_rise low r.steps (steps_of rounds) rising) (names_rest F Q r.steps (steps_of rounds) names) none.1 in
    ((here, more.0), more.1)

-- WHAT ROUNDS BLOCK

-- nothing else is blocked than variables of the positions
pub blocked_own : (F : Cnf) (P : List ℕ) (b : Variables) (low : ℕ) (rounds : List Round) → length F.clauses ≤ low → AreRising low (steps_of rounds)
    → NoneIn is_misstated F P b rounds → (v : ℕ) → blocked_after F b rounds v ≡ true → (b v ≡ true) ⊎ (variable_occurs F P v ≡ true)
unfolding blocked_after
blocked_own F P b low [] past rising none v e = inl e
blocked_own F P b low (r ∷ rounds) past rising none v e =
    elim (blocked_own F P (blocked_after_round F b r) low rounds past (rest_rise low r.steps (steps_of rounds) rising) none.1 v e) [
      | inr there ↦ inr there
      | inl now ↦ elim (or_true (b v) (is_refutation r.steps && among (variables_used F b r) v) now) [
        | inl before ↦ inl before
        | inr used ↦
            (let at = used_at F b r v (and_true (is_refutation r.steps) _ used).1 in
            let inside = reached_in F P r.steps low past (first_rise low r.steps (steps_of rounds) rising) (names_stated F P b [] r.steps none.0) at.position at.used at.inside.1 in
            let held = (from_filtered (λ l. not (b (variable l))) (clause_at F at.position) at.literal at.held).1 in
            inr (subst (λ (w : ℕ). variable_occurs F P w ≡ true) at.on (occurs_here F P at.position at.literal inside held)))
      ]
    ]
