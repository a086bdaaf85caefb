-- What a learned clause contains, by lists and flags.
use Rattle.std.proofs.Common.{◌≡◌, ◌∙◌, ℕ, zero, suc, ◌+◌, ◌<◌, ◌≤◌, Bool, true, false, not, ◌&&◌, ◌||◌, ◌==◌, nat_le, List, [], ◌∷◌, length, get_or, ◌*◌, take, drop, refl, sym, ap, subst, arith, ℤ, Option, Some, None, inl, inr}
use Rattle.std.specs.List.{list_any, list_all, range_with_len}
use Rattle.std.proofs.lemmas.List.Folds.{list_all-append}
use Rattle.std.specs.Option.{option_map_or}
use Rattle.std.proofs.lemmas.Bool.{cases_Bool, not-true, leb-true, leb-false, le-leb, lt-ltb}
use Rattle.std.proofs.lemmas.List.{get_or-take, get_or_default, length-take, take-append-drop}
use Rattle.lk_model.specs.Lists.{is_empty, among, rises_within, up_to}
use Rattle.lk_model.specs.Formulas.Literal.{variable, contains, complement, is_literal, is_tautology, is_within}
use Rattle.lk_model.specs.Formulas.Formula.{Cnf, clause_at, positions_of, is_formula}
use Rattle.lk_model.specs.Formulas.Crossed.{Variables, crossed_out}
use Rattle.lk_model.specs.Chains.Chain.{is_learned}
use Rattle.lk_model.specs.Documents.Form.{is_step}
use Rattle.lk_model.specs.declared.document.Step.{Step}
use Rattle.lk_model.specs.declared.document.Round.{Round}
use Rattle.lk_model.proofs.Booleans.{and_true, or_true, same_tests}
use Rattle.lk_model.proofs.Clauses.{literals_of, clause_past}
use Rattle.lk_model.proofs.Counting.{among-range}
use Rattle.lk_model.proofs.Founds.{up_to_bounds}
use Rattle.lk_model.proofs.Literals.{complement_literal}
use Rattle.lk_model.proofs.ListTests.{passes_one, passes_each, passes_among, passing, all_left, all_at}
use Rattle.lk_model.proofs.Rounds.{step_literals}
use Rattle.lk_model.proofs.Variables.{literal_passing}
use Rattle.check_rounds.specs.declared.chains.RoundAt.{RoundAt}
use Rattle.check_rounds.specs.declared.learned.Known.{Known}
use Rattle.check_rounds.specs.declared.steps.Rounds.{Rounds}
use Rattle.check_rounds.specs.Blocking.{is_before}
use Rattle.check_rounds.specs.Chains.{IsRoundAt, step_numbered, step_behind, is_unlearned}
use Rattle.check_rounds.specs.Index.{list_of, IsListed, AreClausesListed, AreStepsListed, AreRoundsListed}
use Rattle.check_rounds.specs.Learned.{AreKnown, IsKnown, are_open_but_last, is_clause_within, is_step_within, shows_known}
use Rattle.check_tables.specs.LiteralSets.{IsSetOf, has_literal}
use Rattle.check_rounds.proofs.ChainChecks.{crossed_none, number_found, step_form}
use Rattle.check_tables.proofs.FirstTables.{found_passes}
use Rattle.check_tables.proofs.LiteralSetLemmas.{all_told}
use Rattle.check_rounds.specs.Steps.{AreRounds, IsRoundOf}
use Rattle.check_rounds.proofs.StepPlaces.{no_round, round_is}
use Rattle.kernel_laws.proofs.Lines.{found_any}

-- LITERALS THAT ARE LEFT

pub left_held : (b : Variables) (flags : List Bool) (c : List ℤ) → list_all (λ l. b (variable l) || has_literal flags l) c ≡ list_all (has_literal flags) (crossed_out b c)
left_held b flags [] = refl
left_held b flags (l ∷ c) = elim (cases_Bool (b (variable l))) [
  | inl y ↦ rw y (left_held b flags c)
  | inr n ↦ rw n (ap (λ (t : Bool). has_literal flags l && t) (left_held b flags c))
]

pub some_left : (b : Variables) (c : List ℤ) → list_any (λ l. not (b (variable l))) c ≡ not (is_empty (crossed_out b c))
some_left b [] = refl
some_left b (l ∷ c) = elim (cases_Bool (b (variable l))) [
  | inl y ↦ rw y (some_left b c)
  | inr n ↦ rw n refl
]

-- both tests of the clause at a position
pub within_is : (over : RoundAt) (flags : List Bool) (p : ℕ) (c : List ℤ) (all some : Bool) → c ≡ clause_at over.formula.now p
    → all ≡ list_all (λ l. is_before over.round over.blocked_at.now (variable l) || has_literal flags l) c
    → some ≡ list_any (λ l. not (is_before over.round over.blocked_at.now (variable l))) c → (all && some) ≡ is_clause_within over flags p
within_is over flags p c all some is a s =
    let b : Variables = is_before over.round over.blocked_at.now in
    (λ i. (a ∙ left_held b flags c) i && (s ∙ some_left b c) i) ∙ ap (λ (d : List ℤ). list_all (has_literal flags) (crossed_out b d) && not (is_empty (crossed_out b d))) is

-- CLAUSES OF THE FORMULA

-- what is found by the lists of a clause's literals is what it contains
pub clauses_found : (over : RoundAt) (known : Known) (c : List ℤ) (flags : List Bool) → is_formula over.formula.now ≡ true → IsKnown over known → IsSetOf over.formula.now.vars c flags
    → list_any (λ l. list_any (is_clause_within over flags) (list_of known.clauses l)) c
    ≡ list_any (λ p. not (is_empty (crossed_out (is_before over.round over.blocked_at.now) (clause_at over.formula.now p))) && is_within (crossed_out (is_before over.round over.blocked_at.now) (clause_at over.formula.now p)) c) (positions_of over.formula.now)
clauses_found over known c flags form h s =
    let F : Cnf = over.formula.now in
    let b : Variables = is_before over.round over.blocked_at.now in
    let left : ℕ → List ℤ = λ p. crossed_out b (clause_at F p) in
    let holds : ℕ → Bool = λ p. not (is_empty (left p)) && is_within (left p) c in
    let told : (p : ℕ) → list_all (has_literal flags) (left p) ≡ is_within (left p) c =
    λ p. all_told F.vars c (left p) flags s (all_left (is_literal F.vars) (λ l. not (b (variable l))) (clause_at F p) (literals_of F p form)) in
    same_tests (list_any (λ l. list_any (is_clause_within over flags) (list_of known.clauses l)) c) (list_any holds (positions_of F))
    (λ e.
    let one = literal_passing (λ l. list_any (is_clause_within over flags) (list_of known.clauses l)) c e in
    let at = passing (is_clause_within over flags) (list_of known.clauses one.0) one.2 in
    let both = and_true (list_all (has_literal flags) (left at.0)) (not (is_empty (left at.0))) at.2 in
    let range = in_formula F b at.0 both.1 in
    passes_among holds (positions_of F) at.0 (among-range 1 (length F.clauses) at.0 range.0 (omega (arith, range.1))) (rw (both.1) (sym (told at.0) ∙ both.0)))
    (λ e.
    let at = passing holds (positions_of F) e in
    let both = and_true (not (is_empty (left at.0))) (is_within (left at.0) c) at.2 in
    let range = up_to_bounds (length F.clauses) at.0 at.1 in
    let one = h.clauses at.0 range.0 range.1 in
    let as_one : left at.0 ≡ left one.at = ap (crossed_out b) (sym one.same) in
    let found = one.listed over.round (ap is_empty (sym as_one) ∙ not-true (is_empty (left at.0)) both.0) in
    let there : contains c found.0 ≡ true = passes_each (contains c) (left at.0) found.0 both.1 (ap (λ (d : List ℤ). contains d found.0) as_one ∙ found.1) in
    let held : is_clause_within over flags one.at ≡ true = ap (λ (d : List ℤ). list_all (has_literal flags) d && not (is_empty d)) (sym as_one) ∙ rw (told at.0 ∙ both.1) both.0 in
    passes_one (λ l. list_any (is_clause_within over flags) (list_of known.clauses l)) c found.0 there
    (passes_among (is_clause_within over flags) (list_of known.clauses found.0) one.at found.2 held))
  where
    in_formula : (F : Cnf) (b : Variables) (p : ℕ) → not (is_empty (crossed_out b (clause_at F p))) ≡ true → (1 ≤ p) × (p ≤ length F.clauses)
    in_formula F b zero e = absurd (let f : ⊥ = cc in f)
    in_formula F b (suc k) e = elim (cases_Bool (nat_le (suc k) (length F.clauses))) [
      | inl y ↦ (omega arith, leb-true (suc k) (length F.clauses) y)
      | inr n ↦ absurd (let f : ⊥ = cc (rw (clause_past F (suc k) (leb-false (suc k) (length F.clauses) n)) at e) in f)
    ]

-- EARLIER STEPS

-- the place of an item that passes
any_place : (q : Step → Bool) (xs : List Step) → list_any q xs ≡ true → (j : ℕ) × (s : Step) × (j < length xs) × (s ≡ get_or xs j s) × (q s ≡ true)
any_place q [] e = absurd (let f : ⊥ = cc in f)
any_place q (x ∷ xs) e = elim (or_true (q x) (list_any q xs) e) [
  | inl here ↦ (0, x, omega arith, refl, here)
  | inr later ↦ (let w = any_place q xs later in (suc w.0, w.1, omega (arith, w.2), w.3, w.4))
]

-- a step before the last one is not empty
open_at : (steps : List Step) (j : ℕ) (s : Step) → are_open_but_last steps ≡ true → j + 1 < length steps → s ≡ get_or steps j s → is_empty s.clause ≡ false
open_at [] j s all lt is = absurd (omega (arith, lt))
open_at (t ∷ []) j s all lt is = absurd (omega (arith, lt))
open_at (t ∷ u ∷ later) zero s all lt is =
    ap (λ (v : Step). is_empty v.clause) is ∙ not-true (is_empty t.clause) (and_true (not (is_empty t.clause)) (are_open_but_last (u ∷ later)) all).0
open_at (t ∷ u ∷ later) (suc j) s all lt is = open_at (u ∷ later) j s (and_true (not (is_empty t.clause)) (are_open_but_last (u ∷ later)) all).1 (omega (arith, lt)) is

-- what the test of a number finds
within_found : (flags : List Bool) (o : Option Step) → option_map_or (λ (s : Step). list_all (has_literal flags) s.clause) o false ≡ true
    → (s : Step) × (o ≡ Some s) × (list_all (has_literal flags) s.clause ≡ true)
within_found flags None e = absurd (let f : ⊥ = cc in f)
within_found flags (Some s) e = (s, refl, e)

-- the first steps are in form too
front_form : (n i : ℕ) (steps : List Step) → list_all (is_step n) steps ≡ true → list_all (is_step n) (take i steps) ≡ true
front_form n i steps all =
    (and_true (list_all (is_step n) (take i steps)) (list_all (is_step n) (drop i steps))
    (sym (list_all-append (is_step n) (take i steps) (drop i steps)) ∙ ap (list_all (is_step n)) (take-append-drop i steps) ∙ all)).0

-- an earlier step whose clause stands within the flags is one that the clause contains
step_held : (over : RoundAt) (i : ℕ) (c : List ℤ) (flags : List Bool) (k : ℕ) (s : Step) → IsRoundAt over → IsSetOf over.formula.now.vars c flags → step_numbered over i k ≡ Some s
    → list_all (has_literal flags) s.clause ≡ true → list_any (λ (t : Step). is_within t.clause c) (take i over.steps.now) ≡ true
step_held over i c flags k s round set is up =
    found_any (λ (t : Step). t.number == k) (λ (t : Step). is_within t.clause c) (take i over.steps.now) s is
    (sym (all_told over.formula.now.vars c s.clause flags set (step_literals over.formula.now.vars s
    (found_passes (is_step over.formula.now.vars) (λ (t : Step). t.number == k) (take i over.steps.now) s (front_form over.formula.now.vars i over.steps.now round.steps.form) is)))
    ∙ up)

-- a step that the clause contains is found under a literal of its clause in whose list it stands
step_under : (over : RoundAt) (known : Known) (i j : ℕ) (c : List ℤ) (flags : List Bool) (s : Step) (l : ℤ) → IsRoundAt over → i < length over.steps.now → IsSetOf over.formula.now.vars c flags → j < i
    → s ≡ get_or over.steps.now j s → is_within s.clause c ≡ true → contains s.clause l ≡ true → among (list_of known.steps l) s.number ≡ true
    → list_any (λ k. list_any (is_step_within over i flags) (list_of known.steps k)) c ≡ true
step_under over known i j c flags s l round inside set low is within there listed =
    let form : is_step over.formula.now.vars s ≡ true = step_form over j s round (omega (arith, low, inside)) is in
    let up : list_all (has_literal flags) s.clause ≡ true = all_told over.formula.now.vars c s.clause flags set (step_literals over.formula.now.vars s form) ∙ within in
    passes_one (λ k. list_any (is_step_within over i flags) (list_of known.steps k)) c l (passes_each (contains c) s.clause l within there)
    (passes_among (is_step_within over i flags) (list_of known.steps l) s.number listed
    (ap (λ (o : Option Step). option_map_or (λ (u : Step). list_all (has_literal flags) u.clause) o false) (number_found over i j s round inside low is) ∙ up))

-- and it stands in the list of one, since nothing is crossed out before the first round
step_listed : (over : RoundAt) (known : Known) (i j : ℕ) (c : List ℤ) (flags : List Bool) (s : Step) → IsKnown over known → i < length over.steps.now → IsSetOf over.formula.now.vars c flags → j < i
    → s ≡ get_or over.steps.now j s → is_within s.clause c ≡ true
    → (l : ℤ) × (contains (crossed_out (is_before 0 over.blocked_at.now) s.clause) l ≡ true) × (among (list_of known.steps l) s.number ≡ true)
    → list_any (λ k. list_any (is_step_within over i flags) (list_of known.steps k)) c ≡ true
step_listed over known i j c flags s h inside set low is within (l, there, listed) =
    step_under over known i j c flags s l h.round inside set low is within (ap (λ (d : List ℤ). contains d l) (sym (crossed_none over.blocked_at.now s.clause)) ∙ there) listed

step_contained : (over : RoundAt) (known : Known) (i j : ℕ) (c : List ℤ) (flags : List Bool) (s : Step) → IsKnown over known → i < length over.steps.now → IsSetOf over.formula.now.vars c flags → j < i
    → s ≡ get_or over.steps.now j s → is_within s.clause c ≡ true → list_any (λ k. list_any (is_step_within over i flags) (list_of known.steps k)) c ≡ true
step_contained over known i j c flags s h inside set low is within =
    let some : is_empty s.clause ≡ false = open_at over.steps.now j s h.steps_open (omega (arith, low, inside)) is in
    let there : IsListed over.blocked_at.now known.steps s.clause s.number =
    subst (λ (u : Step). IsListed over.blocked_at.now known.steps u.clause u.number) (sym is) (h.steps j s (omega (arith, low, inside))) in
    step_listed over known i j c flags s h inside set low is within (there 0 (ap is_empty (crossed_none over.blocked_at.now s.clause) ∙ some))

pub steps_found : (over : RoundAt) (known : Known) (i : ℕ) (c : List ℤ) (flags : List Bool) → IsKnown over known → i < length over.steps.now → IsSetOf over.formula.now.vars c flags
    → list_any (λ l. list_any (is_step_within over i flags) (list_of known.steps l)) c ≡ list_any (λ (s : Step). is_within s.clause c) (take i over.steps.now)
steps_found over known i c flags h inside set =
    same_tests (list_any (λ l. list_any (is_step_within over i flags) (list_of known.steps l)) c) (list_any (λ (s : Step). is_within s.clause c) (take i over.steps.now))
    (λ e.
    let one = literal_passing (λ l. list_any (is_step_within over i flags) (list_of known.steps l)) c e in
    let at = passing (is_step_within over i flags) (list_of known.steps one.0) one.2 in
    let found = within_found flags (step_numbered over i at.0) at.2 in
    step_held over i c flags at.0 found.0 h.round set found.1 found.2)
    (λ e.
    let at = any_place (λ (s : Step). is_within s.clause c) (take i over.steps.now) e in
    let low : at.0 < i = omega (arith, at.2, length-take i over.steps.now) in
    step_contained over known i at.0 c flags at.1 h inside set low (at.3 ∙ get_or-take i over.steps.now at.0 at.1 low) at.4)

-- ALL TOGETHER

-- of three tests one passes at some literal where one of them passes at some literal
any_of_three : (a b d : ℤ → Bool) (c : List ℤ) → list_any (λ l. a l || b l || d l) c ≡ (list_any a c || list_any b c || list_any d c)
any_of_three a b d [] = refl
any_of_three a b d (l ∷ c) =
    ap (λ (t : Bool). (a l || b l || d l) || t) (any_of_three a b d c) ∙ turned (a l) (b l) (d l) (list_any a c) (list_any b c) (list_any d c)
  where
    turned : (x y z u v w : Bool) → ((x || y || z) || (u || v || w)) ≡ ((x || u) || (y || v) || (z || w))
    turned true y z u v w = refl
    turned false true z true v w = refl
    turned false true z false v w = refl
    turned false false true true v w = refl
    turned false false true false true w = refl
    turned false false true false false w = refl
    turned false false false u v w = refl

tautology_told : (n : ℕ) (c d : List ℤ) (flags : List Bool) → IsSetOf n c flags → list_all (is_literal n) d ≡ true → list_any (λ l. has_literal flags (complement l)) d ≡ list_any (λ l. contains c (complement l)) d
tautology_told n c [] flags set all = refl
tautology_told n c (l ∷ d) flags set all =
    let both = and_true (is_literal n l) (list_all (is_literal n) d) all in
    λ i. set.told (complement l) (complement_literal n l both.0) i || tautology_told n c d flags set both.1 i

pub unlearned_is : (over : RoundAt) (known : Known) (i : ℕ) (s : Step) (flags : List Bool) → is_formula over.formula.now ≡ true → IsKnown over known → i < length over.steps.now → s ≡ get_or over.steps.now i s
    → IsSetOf over.formula.now.vars s.clause flags
    → list_any (shows_known over known i flags) s.clause ≡ is_unlearned (step_behind over (take i over.steps.now) s)
unfolding is_learned
unlearned_is over known i s flags form h inside is set =
    let n = over.formula.now.vars in
    let literals = step_literals n s (step_form over i s h.round inside is) in
    let a = tautology_told n s.clause s.clause flags set literals in
    let b = clauses_found over known s.clause flags form h set in
    let d = steps_found over known i s.clause flags h inside set in
    let test : List ℤ → Bool = λ c. list_any (λ l. has_literal flags (complement l)) c || list_any (λ l. list_any (is_clause_within over flags) (list_of known.clauses l)) c
    || list_any (λ l. list_any (is_step_within over i flags) (list_of known.steps l)) c in
    let clause : ℕ → Bool = λ p. not (is_empty (crossed_out (is_before over.round over.blocked_at.now) (clause_at over.formula.now p)))
    && is_within (crossed_out (is_before over.round over.blocked_at.now) (clause_at over.formula.now p)) s.clause in
    let at_part = ap (list_any clause) (sym h.part) in
    let all : test s.clause ≡ (is_tautology s.clause || list_any clause over.part.now || list_any (λ (u : Step). is_within u.clause s.clause) (take i over.steps.now)) = λ m. a m || (b ∙ at_part) m || d m in
    any_of_three (λ l. has_literal flags (complement l)) (λ l. list_any (is_clause_within over flags) (list_of known.clauses l)) (λ l. list_any (is_step_within over i flags) (list_of known.steps l)) s.clause
    ∙ all ∙ learned_or (is_empty s.clause) (is_tautology s.clause) (list_any clause over.part.now) (list_any (λ (u : Step). is_within u.clause s.clause) (take i over.steps.now))
    (λ e. sym all ∙ ap test (none_left s.clause e))
  where
    learned_or : (e t x y : Bool) → (e ≡ true → (t || x || y) ≡ false) → (t || x || y) ≡ (not e && not (not e && not t && not x && not y))
    learned_or true t x y f = f refl
    learned_or false true x y f = refl
    learned_or false false true y f = refl
    learned_or false false false true f = refl
    learned_or false false false false f = refl

    none_left : (c : List ℤ) → is_empty c ≡ true → c ≡ []
    none_left [] e = refl
    none_left (l ∷ c) e = absurd (let f : ⊥ = cc in f)

-- IN A WHOLE DOCUMENT

-- what is known of all rounds is known of the one at a place
known_round : (rounds : List Round) (blocks : List ℕ) (lists : List (List ℕ)) (k : ℕ) (r : Round) → AreRoundsListed blocks lists rounds → k < length rounds → r ≡ get_or rounds k r → AreStepsListed blocks lists r.steps
known_round rounds blocks lists k r h lt is = subst (λ (q : Round). AreStepsListed blocks lists q.steps) (sym is) (h k r lt)

open_round : (rounds : List Round) (k : ℕ) (r : Round) → list_all (λ (q : Round). are_open_but_last q.steps) rounds ≡ true → k < length rounds → r ≡ get_or rounds k r → are_open_but_last r.steps ≡ true
open_round rounds k r all lt is = ap (λ (q : Round). are_open_but_last q.steps) is ∙ all_at (λ (q : Round). are_open_but_last q.steps) rounds k r all lt

pub known_at : (over : Rounds) (k : ℕ) (r : RoundAt) (known : Known) → AreRounds over → AreKnown over known → IsRoundOf over k r → k < length over.rounds.now → IsKnown r known
known_at over k r known h all of lt =
    let q : Round = get_or over.rounds.now k no_round in
    let is : q ≡ get_or over.rounds.now k q = get_or_default over.rounds.now k no_round q lt in
    let size : 2 * over.formula.now.vars + 2 ≡ 2 * r.formula.now.vars + 2 = ap (λ (F : Cnf). 2 * F.vars + 2) (sym of.formula) in
    record {
      round = round_is over k r h of lt;
      part = of.part ∙ all.part ∙ ap positions_of (sym of.formula);
      steps_open = ap are_open_but_last of.steps ∙ open_round over.rounds.now k q all.rounds_open lt is;
      clauses_size = all.clauses_size ∙ size;
      steps_size = all.steps_size ∙ size;
      clauses = subst (λ (F : Cnf). AreClausesListed r.blocked_at.now known.clauses F (length F.clauses)) (sym of.formula)
          (subst (λ (blocks : List ℕ). AreClausesListed blocks known.clauses over.formula.now (length over.formula.now.clauses)) (sym of.blocked_at) all.clauses);
      steps = subst (λ (steps : List Step). AreStepsListed r.blocked_at.now known.steps steps) (sym of.steps)
          (subst (λ (blocks : List ℕ). AreStepsListed blocks known.steps q.steps) (sym of.blocked_at) (known_round over.rounds.now over.blocked_at.now known.steps k q all.steps lt is));
    }

-- all positions rise
pub positions_rise : (m : ℕ) → rises_within 0 m (up_to m) ≡ true
positions_rise m = from 0 1 m m (omega arith) (omega arith)
  where
    from : (low a n high : ℕ) → low < a → a + n ≤ high + 1 → rises_within low high (range_with_len a n) ≡ true
    from low a zero high above within = refl
    from low a (suc n) high above within =
        rw (lt-ltb low a above, le-leb a high (omega (arith, within)), from a (a + 1) n high (omega arith) (omega (arith, within))) refl
