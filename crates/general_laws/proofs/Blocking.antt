-- An autarky on the positions of rounds sets no variable that they block.
use Rattle.std.proofs.Common.{◌≡◌, ℕ, ◌≤◌, true, false, not, ◌&&◌, ◌==◌, List, [], ◌∷◌, refl, sym, ◌∙◌, subst, ℤ, inl, inr, length, map, is_some}
use Rattle.std.specs.List.{flat_map}
use Rattle.std.proofs.lemmas.Bool.{eqb-true, eq-eqb, cases_Bool, both_ways, not_from_false, le-leb, and_from}
use Rattle.std.proofs.lemmas.List.Folds.{list_all-append, list_any-append}
use Rattle.std.specs.Ordering.{int_eq}
use Rattle.lk_model.specs.Lists.{among}
use Rattle.lk_model.specs.Formulas.Literal.{variable, contains, mentions}
use Rattle.lk_model.specs.Formulas.Formula.{Cnf, clause_at, positions_of}
use Rattle.lk_model.specs.Formulas.Crossed.{Variables, crossed_out}
use Rattle.lk_model.specs.Chains.Rounds.{reached, is_refutation, used_positions, variables_used, blocked_after_round, blocked_after}
use Rattle.lk_model.specs.Documents.Documents.{steps_of}
use Rattle.lk_model.specs.Formulas.Assignment.{Assignment, touches}
use Rattle.lk_model.specs.Formulas.Autarky.{IsAutarky}
use Rattle.lk_model.specs.Formulas.Protected.{SetsNone}
use Rattle.lk_model.specs.declared.document.Step.{Step}
use Rattle.lk_model.specs.declared.document.Round.{Round}
use Rattle.lk_model.proofs.Booleans.{and_true, or_true, or_left, or_right}
use Rattle.lk_model.proofs.Counting.{from_filter}
use Rattle.lk_model.proofs.Founds.{up_to_bounds}
use Rattle.lk_model.proofs.Variables.{literal_passing}
use Rattle.lk_model.proofs.Literals.{int_self}
use Rattle.kernel_laws.proofs.Clauses.{in_filtered, from_filtered, variables_among}
use Rattle.kernel_laws.proofs.Assignments.{touched_at, touching, satisfied_at, satisfying, set_where_true}
use Rattle.general_laws.proofs.Touching.{IsFair}
use Rattle.general_laws.proofs.Chains.{AreFair, are_real}
use Rattle.general_laws.proofs.Numbering.{AreRising, first_rise, rest_rise, premises_in, named_first, named_position}
use Rattle.general_laws.proofs.Stated.{NoneOf, NoneIn}
use Rattle.general_laws.proofs.Reaching.{is_misstated, are_real_steps, IsStanding, reached_untouched}

-- crossed out, a clause that is satisfied where it is touched still is
pub fair_crossed : (φ : Assignment) (blocked : Variables) (c : List ℤ) → SetsNone blocked φ → IsFair φ c → IsFair φ (crossed_out blocked c)
fair_crossed φ blocked c none fair t =
    let w = touching φ (crossed_out blocked c) t in
    let x = satisfying φ c (fair (touched_at φ c w.0 (from_filtered (λ l. not (blocked (variable l))) c w.0 w.1).1 w.2)) in
    let unblocked : blocked (variable x.0) ≡ false = elim (cases_Bool (blocked (variable x.0))) [
      | inl b ↦ absurd (both_ways (is_some (φ (variable x.0))) (none (variable x.0) b) (set_where_true φ x.0 x.2))
      | inr n ↦ n
    ] in
    satisfied_at φ (crossed_out blocked c) x.0 (in_filtered (λ l. not (blocked (variable l))) c x.0 (not_from_false (blocked (variable x.0)) unblocked) x.1) x.2

-- so each clause that a round begins with is fair
pub first_fair : (φ : Assignment) (F : Cnf) (part : List ℕ) (blocked : Variables) → IsAutarky F (among part) φ → SetsNone blocked φ
    → AreFair φ (premises_in F part blocked [])
first_fair φ F part blocked a none k c e =
    let w = named_first F part blocked k c e in
    subst (λ (x : List ℤ). IsFair φ x) w.1 (fair_crossed φ blocked (clause_at F k) none (a k w.0))

-- a number of a list that is put together stands in the list of one of its places
among_flat_map : (f : ℕ → List ℕ) (ps : List ℕ) (v : ℕ) → among (flat_map f ps) v ≡ true → (p : ℕ) × (among ps p ≡ true) × (among (f p) v ≡ true)
among_flat_map f [] v e = absurd (let g : ⊥ = cc in g)
among_flat_map f (p ∷ ps) v e =
    elim (or_true (among (f p) v) (among (flat_map f ps) v) (sym (list_any-append (λ k. k == v) (f p) (flat_map f ps)) ∙ e)) [
      | inl here ↦ (p, or_left (p == p) (among ps p) (eq-eqb p p refl), here)
      | inr later ↦ (let w = among_flat_map f ps v later in (w.0, or_right (p == w.0) (among ps w.0) w.1, w.2))
    ]

-- a literal of the clause on the variable
literal_on : (c : List ℤ) (v : ℕ) → among (map variable c) v ≡ true → (l : ℤ) × (contains c l ≡ true) × (variable l ≡ v)
literal_on [] v e = absurd (let f : ⊥ = cc in f)
literal_on (l ∷ c) v e = elim (or_true (variable l == v) (among (map variable c) v) e) [
  | inl here ↦ (l, or_left _ (contains c l) (self l), eqb-true (variable l) v here)
  | inr later ↦ (let w = literal_on c v later in (w.0, or_right _ (contains c w.0) w.1, w.2))
]
  where
    self : (l : ℤ) → int_eq l l ≡ true
    self l = int_self l

-- what a whole round blocks, with the position and the literal that show it
pub record IsUsedAt (F : Cnf) (blocked : Variables) (r : Round) (v : ℕ) : Type 0 where
  pub position : ℕ
  pub inside : (1 ≤ position) × (position ≤ length F.clauses)
  pub used : among (reached r.steps) position ≡ true
  pub literal : ℤ
  pub held : contains (crossed_out blocked (clause_at F position)) literal ≡ true
  pub on : variable literal ≡ v

-- each variable that a whole round blocks is used at one of its positions
pub used_at : (F : Cnf) (blocked : Variables) (r : Round) (v : ℕ) → among (variables_used F blocked r) v ≡ true → IsUsedAt F blocked r v
used_at F blocked r v e =
    let w = among_flat_map (λ p. map variable (crossed_out blocked (clause_at F p))) (used_positions F r) v e in
    let p = from_filter (among (reached r.steps)) (positions_of F) w.0 w.1 in
    let l = literal_on (crossed_out blocked (clause_at F w.0)) v w.2 in
    record { position = w.0; inside = up_to_bounds (length F.clauses) w.0 p.1; used = p.0; literal = l.0; held = l.1; on = l.2 }

-- ONE ROUND AND MANY

-- all steps of a round stand after none
round_standing : (φ : Assignment) (F : Cnf) (part : List ℕ) (blocked : Variables) (low : ℕ) (steps : List Step) → IsAutarky F (among part) φ
    → SetsNone blocked φ → length F.clauses ≤ low → AreRising low steps → are_real_steps steps ≡ true
    → NoneOf is_misstated F part blocked [] steps → IsStanding φ F part blocked steps [] low steps
round_standing φ F part blocked low steps a none past rising real stated = record {
  joined = refl;
  past = past;
  below = λ k above. refl;
  rising = rising;
  real = real;
  stated = stated;
  fair = first_fair φ F part blocked a none;
}

-- after a round no blocked variable is set
pub round_blocks : (φ : Assignment) (F : Cnf) (part : List ℕ) (blocked : Variables) (low : ℕ) (r : Round) → IsAutarky F (among part) φ
    → SetsNone blocked φ → length F.clauses ≤ low → AreRising low r.steps → are_real_steps r.steps ≡ true
    → NoneOf is_misstated F part blocked [] r.steps → SetsNone (blocked_after_round F blocked r) φ
round_blocks φ F part blocked low r a none past rising real stated v e = elim (or_true (blocked v) (is_refutation r.steps && among (variables_used F blocked r) v) e) [
  | inl before ↦ none v before
  | inr now ↦
      (let both = and_true (is_refutation r.steps) (among (variables_used F blocked r) v) now in
      let at = used_at F blocked r v both.1 in
      let u = reached_untouched φ F part blocked r.steps [] low r.steps (round_standing φ F part blocked low r.steps a none past rising real stated) both.0 at.position at.used in
      let c = named_position F part blocked r.steps at.position u.clause (le-leb at.position (length F.clauses) at.inside.1) u.is in
      let held : contains u.clause at.literal ≡ true = subst (λ (x : List ℤ). contains x at.literal ≡ true) c.1 at.held in
      subst (λ (w : ℕ). is_some (φ w) ≡ false) at.on (unset u.clause at.literal u.free held))
]
  where
    unset : (c : List ℤ) (l : ℤ) → touches φ c ≡ false → contains c l ≡ true → is_some (φ (variable l)) ≡ false
    unset c l free held = elim (cases_Bool (is_some (φ (variable l)))) [
      | inl set ↦ absurd (both_ways (touches φ c) free (touched_at φ c l held set))
      | inr n ↦ n
    ]

-- after all rounds neither
pub rounds_block : (φ : Assignment) (F : Cnf) (part : List ℕ) (blocked : Variables) (low : ℕ) (rounds : List Round) → IsAutarky F (among part) φ
    → SetsNone blocked φ → length F.clauses ≤ low → AreRising low (steps_of rounds) → are_real_steps (steps_of rounds) ≡ true
    → NoneIn is_misstated F part blocked rounds → SetsNone (blocked_after F blocked rounds) φ
unfolding blocked_after
rounds_block φ F part blocked low [] a none past rising real stated = none
rounds_block φ F part blocked low (r ∷ rounds) a none past rising real stated =
    let reals = and_true (are_real_steps r.steps) (are_real_steps (steps_of rounds))
    (sym (list_all-append (λ (s : Step). are_real s.turns) r.steps (steps_of rounds)) ∙ real) in
    rounds_block φ F part (blocked_after_round F blocked r) low rounds a
    (round_blocks φ F part blocked low r a none past (first_rise low r.steps (steps_of rounds) rising) reals.0 stated.0)
    past (rest_rise low r.steps (steps_of rounds) rising) reals.1 stated.1

-- WHAT ROUNDS BLOCK

-- what stands in the list of one place stands in the list that is put together
among_flat : (f : ℕ → List ℕ) (ps : List ℕ) (p v : ℕ) → among ps p ≡ true → among (f p) v ≡ true → among (flat_map f ps) v ≡ true
among_flat f [] p v m e = absurd (let g : ⊥ = cc in g)
among_flat f (q ∷ ps) p v m e =
    list_any-append (λ k. k == v) (f q) (flat_map f ps) ∙ elim (or_true (q == p) (among ps p) m) [
      | inl here ↦ or_left (among (f q) v) _ (subst (λ (k : ℕ). among (f k) v ≡ true) (sym (eqb-true q p here)) e)
      | inr later ↦ or_right (among (f q) v) _ (among_flat f ps p v later e)
    ]

-- a literal on the variable, where it is mentioned
mentioned : (c : List ℤ) (v : ℕ) → mentions c v ≡ true → (l : ℤ) × (contains c l ≡ true) × (variable l ≡ v)
mentioned c v m = let w = literal_passing (λ l. variable l == v) c m in (w.0, w.1, eqb-true (variable w.0) v w.2)

-- a whole round blocks all variables of the clauses that it uses
pub used_blocked : (F : Cnf) (blocked : Variables) (r : Round) (p v : ℕ) → is_refutation r.steps ≡ true → among (used_positions F r) p ≡ true
    → mentions (clause_at F p) v ≡ true → blocked_after_round F blocked r v ≡ true
used_blocked F blocked r p v whole used m =
    let w = mentioned (clause_at F p) v m in
    elim (cases_Bool (blocked v)) [
      | inl before ↦ or_left (blocked v) _ before
      | inr n ↦
          (let unblocked : blocked (variable w.0) ≡ false = subst (λ (u : ℕ). blocked u ≡ false) (sym w.2) n in
          let there = in_filtered (λ l. not (blocked (variable l))) (clause_at F p) w.0 (not_from_false (blocked (variable w.0)) unblocked) w.1 in
          let now : among (variables_used F blocked r) v ≡ true =
          among_flat (λ q. map variable (crossed_out blocked (clause_at F q))) (used_positions F r) p v used
          (subst (λ (u : ℕ). among (map variable (crossed_out blocked (clause_at F p))) u ≡ true) w.2 (variables_among (crossed_out blocked (clause_at F p)) w.0 there)) in
          or_right (blocked v) _ (and_from (is_refutation r.steps) _ whole now))
    ]

-- what is blocked stays blocked
pub blocked_stays : (F : Cnf) (b : Variables) (rounds : List Round) (v : ℕ) → b v ≡ true → blocked_after F b rounds v ≡ true
unfolding blocked_after
blocked_stays F b [] v e = e
blocked_stays F b (r ∷ rounds) v e = blocked_stays F (blocked_after_round F b r) rounds v (or_left (b v) _ e)
