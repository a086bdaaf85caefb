-- What a chain may name and makes, and the first bad step round by round.
use Rattle.std.proofs.Common.{◌≡◌, ◌∙◌, ℕ, zero, suc, ◌+◌, ◌-◌, ◌<◌, ◌≤◌, Bool, true, false, ◌==◌, List, [], ◌∷◌, ◌++◌, length, get_or, map, take, drop, refl, sym, ap, subst, arith, ℤ, Option, Some, None, find, option_map, slice_index_or}
use Rattle.std.specs.Prelude.{option_and_then}
use Rattle.std.specs.Option.{option_or}
use Rattle.std.proofs.lemmas.Bool.{eqb-true, eq-eqb, ne_eqb, le-leb, lt-leb, le-ltb}
use Rattle.std.proofs.lemmas.List.{drop_more, drop_all, take_more, length-take, get_or-take, take-append-drop, get_or_default}
use Rattle.std.proofs.lemmas.List.Folds.{find-append}
use Rattle.lk_model.specs.Lists.{among}
use Rattle.lk_model.specs.Formulas.Literal.{variable, contains, complement, is_same_set}
use Rattle.lk_model.specs.Formulas.Formula.{Cnf, clause_at}
use Rattle.lk_model.specs.Formulas.Crossed.{Variables, crossed_out}
use Rattle.lk_model.specs.Chains.Chain.{Premises, clause_named, without, resolvent, after_turns, chain_clause, states_its_clause}
use Rattle.lk_model.specs.Chains.Rounds.{StepAt, steps_in_round, steps_in_rounds, blocked_after_round, blocked_after}
use Rattle.lk_model.specs.Checks.RoundChecks.{bad_step, not_learned}
use Rattle.lk_model.specs.Documents.Form.{counts_from, is_step}
use Rattle.lk_model.specs.declared.document.Step.{Step}
use Rattle.lk_model.specs.declared.document.Turn.{Turn}
use Rattle.lk_model.specs.declared.document.Round.{Round}
use Rattle.lk_model.proofs.Booleans.{and_true}
use Rattle.lk_model.proofs.ListTests.{all_at}
use Rattle.general_laws.proofs.JoinLaws.{blocked_joined}
use Rattle.check_tables.proofs.Parts.{map_or}
use Rattle.check_rounds.specs.declared.chains.RoundAt.{RoundAt}
use Rattle.check_rounds.specs.declared.work.Work.{Work}
use Rattle.check_rounds.specs.Blocking.{is_before}
use Rattle.check_rounds.specs.Chains.{IsRoundAt, IsWork, IsMade, premises_at, round_of, step_numbered, misstates, is_unlearned, first_in_round, first_in_rounds}
use Rattle.check_rounds.proofs.Reaching.{number_at, counts_split}

-- WHAT A NUMBER STANDS FOR

-- no variable is blocked before the round 0
pub crossed_none : (blocks : List ℕ) (c : List ℤ) → crossed_out (is_before 0 blocks) c ≡ c
crossed_none blocks [] = refl
crossed_none blocks (l ∷ c) = rw (none (variable l)) (ap (λ (ls : List ℤ). l ∷ ls) (crossed_none blocks c))
  where
    none : (v : ℕ) → is_before 0 blocks v ≡ false
    none zero = refl
    none (suc j) = le-ltb (slice_index_or blocks j 0) 0 (omega arith)

-- a position of the part
pub position_named : (over : RoundAt) (i k : ℕ) (c : List ℤ) → k ≤ length over.formula.now.clauses → (among over.part.now k ≡ true) × (c ≡ clause_at over.formula.now k)
    → clause_named (premises_at over i) k ≡ Some (crossed_out (is_before (round_of over k) over.blocked_at.now) c)
position_named over i k c le h = rw (le-leb k (length over.formula.now.clauses) le, h.0, h.1) refl

-- the step of a number is found at its offset
found_at : (first : ℕ) (steps : List Step) (j : ℕ) (d : Step) → counts_from first (map (λ (s : Step). s.number) steps) ≡ true → j < length steps
    → find (λ (s : Step). s.number == first + j) steps ≡ Some (get_or steps j d)
found_at first [] j d counts lt = absurd (omega (arith, lt))
found_at first (s ∷ steps) zero d counts lt =
    let both = and_true (s.number == first) (counts_from (first + 1) (map (λ (t : Step). t.number) steps)) counts in
    rw (eq-eqb s.number (first + 0) (eqb-true s.number first both.0 ∙ omega arith)) refl
found_at first (s ∷ steps) (suc j) d counts lt =
    let both = and_true (s.number == first) (counts_from (first + 1) (map (λ (t : Step). t.number) steps)) counts in
    let here = eqb-true s.number first both.0 in
    let more = found_at (first + 1) steps j d both.1 (omega (arith, lt)) in
    let same : first + 1 + j ≡ first + suc j = omega arith in
    rw (ne_eqb s.number (first + suc j) (λ e. omega (arith, e, here))) (subst (λ (k : ℕ). find (λ (t : Step). t.number == k) steps ≡ Some (get_or steps j d)) same more)

-- and a lower number than the first one's is found nowhere
found_none : (first : ℕ) (steps : List Step) (k : ℕ) → counts_from first (map (λ (s : Step). s.number) steps) ≡ true → k < first → find (λ (s : Step). s.number == k) steps ≡ None
found_none first [] k counts lt = refl
found_none first (s ∷ steps) k counts lt =
    let both = and_true (s.number == first) (counts_from (first + 1) (map (λ (t : Step). t.number) steps)) counts in
    rw (ne_eqb s.number k (λ e. omega (arith, e, lt, eqb-true s.number first both.0))) (found_none (first + 1) steps k both.1 (omega (arith, lt)))

-- the first steps are counted too
counts_front : (first : ℕ) (steps : List Step) (i : ℕ) → counts_from first (map (λ (s : Step). s.number) steps) ≡ true → counts_from first (map (λ (s : Step). s.number) (take i steps)) ≡ true
counts_front first steps i counts = (counts_split first (take i steps) (drop i steps) (ap (λ (ss : List Step). counts_from first (map (λ (s : Step). s.number) ss)) (take-append-drop i steps) ∙ counts)).0

-- nor a greater one than the last one's
found_past : (first : ℕ) (steps : List Step) (k : ℕ) → counts_from first (map (λ (s : Step). s.number) steps) ≡ true → first + length steps ≤ k → find (λ (s : Step). s.number == k) steps ≡ None
found_past first [] k counts le = refl
found_past first (s ∷ steps) k counts le =
    let both = and_true (s.number == first) (counts_from (first + 1) (map (λ (t : Step). t.number) steps)) counts in
    rw (ne_eqb s.number k (λ e. omega (arith, e, le, eqb-true s.number first both.0))) (found_past (first + 1) steps k both.1 (omega (arith, le)))

-- an earlier step, at its offset back from the step at a place
pub step_back : (over : RoundAt) (i k j : ℕ) (s t : Step) → IsRoundAt over → i < length over.steps.now → s ≡ get_or over.steps.now i s
    → k < s.number → j + (s.number - k) ≡ i → t ≡ get_or over.steps.now j t → step_numbered over i k ≡ Some t
step_back over i k j s t h inside is low back it =
    let steps : List Step = over.steps.now in
    let at = number_at h.steps.first steps i s h.steps.numbered inside is in
    let front : j < length (take i steps) = omega (arith, back, low, inside, length-take i steps) in
    let found = found_at h.steps.first (take i steps) j t (counts_front h.steps.first steps i h.steps.numbered) front in
    let read : get_or (take i steps) j t ≡ t = get_or-take i steps j t (omega (arith, back, low)) ∙ sym it in
    let number_is : h.steps.first + j ≡ k = omega (arith, at, back, low) in
    subst (λ (n : ℕ). find (λ (u : Step). u.number == n) (take i steps) ≡ Some (get_or (take i steps) j t)) number_is found ∙ ap Some read

-- none of them, where the offset goes back too far or not back at all
pub step_none : (over : RoundAt) (i k : ℕ) (s : Step) → IsRoundAt over → i < length over.steps.now → s ≡ get_or over.steps.now i s
    → k < s.number → i < s.number - k → step_numbered over i k ≡ None
step_none over i k s h inside is low far =
    let at = number_at h.steps.first over.steps.now i s h.steps.numbered inside is in
    found_none h.steps.first (take i over.steps.now) k (counts_front h.steps.first over.steps.now i h.steps.numbered) (omega (arith, at, far, low))

pub step_past : (over : RoundAt) (i k : ℕ) (s : Step) → IsRoundAt over → i < length over.steps.now → s ≡ get_or over.steps.now i s → s.number ≤ k → step_numbered over i k ≡ None
step_past over i k s h inside is high =
    let at = number_at h.steps.first over.steps.now i s h.steps.numbered inside is in
    found_past h.steps.first (take i over.steps.now) k (counts_front h.steps.first over.steps.now i h.steps.numbered) (omega (arith, at, high, length-take i over.steps.now, inside))

-- a step is found by its number
pub number_found : (over : RoundAt) (i j : ℕ) (t : Step) → IsRoundAt over → i < length over.steps.now → j < i → t ≡ get_or over.steps.now j t → step_numbered over i t.number ≡ Some t
number_found over i j t h inside low it =
    let steps : List Step = over.steps.now in
    let at = number_at h.steps.first steps j t h.steps.numbered (omega (arith, inside, low)) it in
    let found = found_at h.steps.first (take i steps) j t (counts_front h.steps.first steps i h.steps.numbered) (omega (arith, low, inside, length-take i steps)) in
    subst (λ (n : ℕ). find (λ (u : Step). u.number == n) (take i steps) ≡ Some (get_or (take i steps) j t)) (sym at) found ∙ ap Some (get_or-take i steps j t low ∙ sym it)

-- so a number past the positions stands for the clause of an earlier step, or for nothing
pub step_named : (over : RoundAt) (i k : ℕ) (c : List ℤ) → length over.formula.now.clauses < k → option_map (λ (u : Step). u.clause) (step_numbered over i k) ≡ Some c
    → clause_named (premises_at over i) k ≡ Some (crossed_out (is_before (round_of over k) over.blocked_at.now) c)
step_named over i k c past e = rw (lt-leb k (length over.formula.now.clauses) past) (e ∙ ap Some (sym (crossed_none over.blocked_at.now c)))

-- the form of the step at a place
pub step_form : (over : RoundAt) (i : ℕ) (s : Step) → IsRoundAt over → i < length over.steps.now → s ≡ get_or over.steps.now i s → is_step over.formula.now.vars s ≡ true
step_form over i s h inside is = ap (is_step over.formula.now.vars) is ∙ all_at (is_step over.formula.now.vars) over.steps.now i s h.steps.form inside

-- TURNS

-- one turn, and then the others
pub turn_first : (from : Premises) (c : List ℤ) (t : Turn) (turns : List Turn)
    → after_turns from c (t ∷ turns) ≡ option_and_then (λ r. after_turns from r turns) (option_and_then (resolvent t.lit c) (clause_named from t.with))
turn_first from c t turns = at (clause_named from t.with)
  where
    at : (o : Option (List ℤ)) → option_and_then (λ d. option_and_then (λ r. after_turns from r turns) (resolvent t.lit c d)) o ≡ option_and_then (λ r. after_turns from r turns) (option_and_then (resolvent t.lit c) o)
    at None = refl
    at (Some d) = refl

-- the turn at a place
pub turn_at : (from : Premises) (c : List ℤ) (turns : List Turn) (i : ℕ) (t : Turn) → i < length turns → t ≡ get_or turns i t
    → after_turns from c (drop i turns) ≡ option_and_then (λ r. after_turns from r (drop (i + 1) turns)) (option_and_then (resolvent t.lit c) (clause_named from t.with))
turn_at from c turns i t lt is = ap (after_turns from c) (drop_more turns i t lt ∙ ap (λ (u : Turn). u ∷ drop (i + 1) turns) (sym is)) ∙ turn_first from c t (drop (i + 1) turns)

-- where none was made there is none, and where one was made it is held
pub made_none : (n : ℕ) (o : Option (List ℤ)) (w : Work) → IsMade n o false w → (o ≡ None) × ((c : List ℤ) × IsWork n c w)
made_none n None w h = (refl, h.1)
made_none n (Some c) w h = absurd (let f : ⊥ = cc (h.0) in f)

pub made_some : (n : ℕ) (o : Option (List ℤ)) (w : Work) → IsMade n o true w → (c : List ℤ) × (o ≡ Some c) × IsWork n c w
made_some n None w h = absurd (let f : ⊥ = cc (h.0) in f)
made_some n (Some c) w h = (c, refl, h.1)

pub some_work : (n : ℕ) (o : Option (List ℤ)) (made : Bool) (w : Work) → IsMade n o made w → (c : List ℤ) × IsWork n c w
some_work n None made w h = h.1
some_work n (Some c) made w h = (c, h.1)

-- what a step states by its chain's clause
pub stated_is : (from : Premises) (s : Step) (c : List ℤ) → chain_clause from s.first s.turns ≡ Some c → is_same_set s.clause c ≡ states_its_clause from s
unfolding states_its_clause
stated_is from s c e = rw e refl

pub unstated_is : (from : Premises) (s : Step) → chain_clause from s.first s.turns ≡ None → false ≡ states_its_clause from s
unfolding states_its_clause
unstated_is from s e = rw e refl

-- two readings of a place are one
pub one_step : (steps : List Step) (i : ℕ) (s t : Step) → i < length steps → s ≡ get_or steps i s → t ≡ get_or steps i t → s ≡ t
one_step steps i s t lt is it = is ∙ get_or_default steps i s t lt ∙ sym it

-- a turn with a number that stands for nothing
pub turn_unnamed : (n : ℕ) (c : List ℤ) (t : ℤ) (o : Option (List ℤ)) (w : Work) → o ≡ None → IsWork n c w → IsMade n (option_and_then (resolvent t c) o) false w
turn_unnamed n c t o w is h = rw is (refl, (c, h))

-- a turn that can be made
pub turn_made : (n : ℕ) (c d : List ℤ) (t : ℤ) (o : Option (List ℤ)) (w : Work) → o ≡ Some d → contains c t ≡ true → contains d (complement t) ≡ true
    → IsWork n (without c t ++ without d (complement t)) w → IsMade n (option_and_then (resolvent t c) o) true w
turn_made n c d t o w is held against h = rw (is, held, against) (refl, h)

-- ROUND BY ROUND

-- the first such step of the round at a place, or of those behind it
pub round_first : (t : StepAt → Bool) (F : Cnf) (P : Variables) (part : List ℕ) (rounds : List Round) (k : ℕ) (r : Round) (blocked : Variables) → k < length rounds → r ≡ get_or rounds k r → blocked ≡ blocked_after F P (take k rounds)
    → first_in_rounds t F part (blocked_after F P (take k rounds)) (drop k rounds)
    ≡ option_or (first_in_round t F part blocked r) (first_in_rounds t F part (blocked_after F P (take (k + 1) rounds)) (drop (k + 1) rounds))
unfolding steps_in_rounds blocked_after
round_first t F P part rounds k r blocked lt is before =
    let b : Variables = blocked_after F P (take k rounds) in
    let here : drop k rounds ≡ r ∷ drop (k + 1) rounds = drop_more rounds k r lt ∙ ap (λ (q : Round). q ∷ drop (k + 1) rounds) (sym is) in
    let more : take (k + 1) rounds ≡ take k rounds ++ r ∷ [] = take_more rounds k r lt ∙ ap (λ (q : Round). take k rounds ++ q ∷ []) (sym is) in
    let next : blocked_after_round F b r ≡ blocked_after F P (take (k + 1) rounds) = sym (ap (blocked_after F P) more ∙ blocked_joined F P (take k rounds) (r ∷ [])) in
    let number : StepAt → ℕ = λ (s : StepAt). s.step.number in
    let rest : List StepAt = steps_in_rounds F part (blocked_after_round F b r) (drop (k + 1) rounds) in
    ap (first_in_rounds t F part b) here
    ∙ ap (option_map number) (find-append t (steps_in_round F part b r) rest)
    ∙ map_or number (find t (steps_in_round F part b r)) (find t rest)
    ∙ ap (λ (q : Variables). option_or (first_in_round t F part q r) (option_map number (find t rest))) (sym before)
    ∙ ap (λ (q : Variables). option_or (first_in_round t F part blocked r) (first_in_rounds t F part q (drop (k + 1) rounds))) next

-- where no round is left, none is found
pub rounds_end : (t : StepAt → Bool) (F : Cnf) (part : List ℕ) (blocked : Variables) (rounds : List Round) (k : ℕ) → length rounds ≤ k → first_in_rounds t F part blocked (drop k rounds) ≡ None
unfolding steps_in_rounds
rounds_end t F part blocked rounds k le = ap (first_in_rounds t F part blocked) (drop_all k rounds le)

-- before the first round what is blocked is P
pub rounds_begin : (t : StepAt → Bool) (F : Cnf) (P : Variables) (part : List ℕ) (rounds : List Round) → first_in_rounds t F part (blocked_after F P []) rounds ≡ first_in_rounds t F part P rounds
unfolding blocked_after
rounds_begin t F P part rounds = refl

-- the places of the two checks of steps
pub bad_step_is : (P : Variables) (F : Cnf) (part : List ℕ) (rounds : List Round) → first_in_rounds misstates F part P rounds ≡ (bad_step P F part rounds).place
unfolding bad_step
bad_step_is P F part rounds = refl

pub not_learned_is : (P : Variables) (F : Cnf) (part : List ℕ) (rounds : List Round) → first_in_rounds is_unlearned F part P rounds ≡ (not_learned P F part rounds).place
unfolding not_learned
not_learned_is P F part rounds = refl
