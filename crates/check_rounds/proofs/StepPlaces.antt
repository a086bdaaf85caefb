-- The places of all steps lead to the steps of all rounds, in their order.
use Rattle.std.proofs.Common.{◌≡◌, ◌∙◌, ℕ, zero, suc, ◌+◌, ◌<◌, Bool, true, false, ◌&&◌, nat_lt, List, [], ◌∷◌, ◌++◌, length, get_or, map, take, drop, append_assoc, append-nil, refl, sym, ap, subst, arith, Option, Some, find, option_map, inl, inr}
use Rattle.std.specs.List.{list_all}
use Rattle.std.specs.Option.{option_or}
use Rattle.std.proofs.lemmas.Bool.{cases_Bool, lt-ltb, ltb-true}
use Rattle.std.proofs.lemmas.List.{drop_more, drop_all, take_more, length-take, get_or_default}
use Rattle.std.proofs.lemmas.List.Folds.{find-append, list_all-append}
use Rattle.lk_model.specs.Lists.{with_earlier}
use Rattle.lk_model.specs.Formulas.Formula.{Cnf, is_formula}
use Rattle.lk_model.specs.Formulas.Crossed.{no_variable}
use Rattle.lk_model.specs.Documents.Documents.{steps_of}
use Rattle.lk_model.specs.Documents.Form.{are_steps}
use Rattle.lk_model.specs.Chains.Rounds.{StepAt, blocked_after}
use Rattle.lk_model.specs.declared.document.Step.{Step}
use Rattle.lk_model.specs.declared.document.Round.{Round}
use Rattle.lk_model.proofs.Booleans.{and_true}
use Rattle.lk_model.proofs.ListTests.{all_at}
use Rattle.check_rounds.specs.declared.chains.RoundAt.{RoundAt}
use Rattle.check_rounds.specs.declared.steps.Rounds.{Rounds}
use Rattle.check_rounds.specs.declared.steps.StepPlace.{StepPlace}
use Rattle.check_rounds.specs.Blocking.{AreBlocks, AreRoundSteps, is_before}
use Rattle.check_rounds.specs.Chains.{IsRoundAt, first_in_round, first_in_rounds, step_behind}
use Rattle.check_tables.specs.Flags.{AreKeptFlags}
use Rattle.check_tables.specs.Places.{IsPart}
use Rattle.check_rounds.specs.Steps.{AreRounds, IsRoundOf, steps_at, is_step_place, places_in_round, places_from, step_at, first_step}
use Rattle.check_rounds.proofs.BlockTables.{before_is}
use Rattle.check_tables.proofs.Parts.{map_or}
use Rattle.check_rounds.proofs.ChainChecks.{round_first, rounds_begin, rounds_end}
use Rattle.check_rounds.proofs.Reaching.{round_steps}

abbrev pub no_round : Round
no_round = record { steps = [] }

-- LISTS OF PLACES

-- the first of two lists of places
pub first_joined : (t : StepAt → Bool) (over : Rounds) (ps qs : List StepPlace) → first_step t over (ps ++ qs) ≡ option_or (first_step t over ps) (first_step t over qs)
first_joined t over ps qs =
    let test : StepPlace → Bool = λ at. t (step_at over at) in
    let tell : StepPlace → ℕ = λ at. (step_at over at).step.number in
    ap (option_map tell) (find-append test ps qs) ∙ map_or tell (find test ps) (find test qs)

-- the place at an index passes, or not
pub place_first : (t : StepAt → Bool) (over : Rounds) (ps : List StepPlace) (j : ℕ) (at : StepPlace) → j < length ps → at ≡ get_or ps j at → t (step_at over at) ≡ true
    → first_step t over (drop j ps) ≡ Some (step_at over at).step.number
place_first t over ps j at lt is passes = ap (first_step t over) (drop_more ps j at lt ∙ ap (λ (q : StepPlace). q ∷ drop (j + 1) ps) (sym is)) ∙ rw passes refl

pub place_later : (t : StepAt → Bool) (over : Rounds) (ps : List StepPlace) (j : ℕ) (at : StepPlace) → j < length ps → at ≡ get_or ps j at → t (step_at over at) ≡ false
    → first_step t over (drop j ps) ≡ first_step t over (drop (j + 1) ps)
place_later t over ps j at lt is fails = ap (first_step t over) (drop_more ps j at lt ∙ ap (λ (q : StepPlace). q ∷ drop (j + 1) ps) (sym is)) ∙ rw fails refl

-- one round more
pub places_joined : (k : ℕ) (rounds more : List Round) → places_from k (rounds ++ more) ≡ places_from k rounds ++ places_from (k + length rounds) more
places_joined k [] more = let at : k ≡ k + 0 = omega arith in ap (λ (j : ℕ). places_from j more) at
places_joined k (r ∷ rounds) more =
    let at : k + 1 + length rounds ≡ k + suc (length rounds) = omega arith in
    let here : List StepPlace = places_in_round k 0 (length r.steps) in
    ap (λ (ps : List StepPlace). here ++ ps) (places_joined (k + 1) rounds more ∙ ap (λ (j : ℕ). places_from (k + 1) rounds ++ places_from j more) at)
    ∙ sym (append_assoc here (places_from (k + 1) rounds) (places_from (k + suc (length rounds)) more))

pub round_more : (rounds : List Round) (k : ℕ) (r : Round) → k < length rounds → r ≡ get_or rounds k r
    → places_from 0 (take (k + 1) rounds) ≡ places_from 0 (take k rounds) ++ places_in_round k 0 (length r.steps)
round_more rounds k r lt is =
    let at : 0 + length (take k rounds) ≡ k = omega (arith, length-take k rounds, lt) in
    let front : List StepPlace = places_from 0 (take k rounds) in
    ap (places_from 0) (take_more rounds k r lt ∙ ap (λ (q : Round). take k rounds ++ q ∷ []) (sym is))
    ∙ places_joined 0 (take k rounds) (r ∷ [])
    ∙ ap (λ (j : ℕ). front ++ (places_in_round j 0 (length r.steps) ++ [])) at
    ∙ ap (λ (ps : List StepPlace). front ++ ps) (append-nil (places_in_round k 0 (length r.steps)))

-- and one place more of a round
place_behind : (k a m : ℕ) → places_in_round k a (suc m) ≡ places_in_round k a m ++ (let at : StepPlace = record { round = k; index = a + m } in at) ∷ []
place_behind k a zero = let at : a ≡ a + 0 = omega arith in ap (λ (i : ℕ). (let p : StepPlace = record { round = k; index = i } in p) ∷ []) at
place_behind k a (suc m) =
    let at : a + 1 + m ≡ a + suc m = omega arith in
    ap (λ (ps : List StepPlace). (let p : StepPlace = record { round = k; index = a } in p) ∷ ps)
    (place_behind k (a + 1) m ∙ ap (λ (i : ℕ). places_in_round k (a + 1) m ++ (let p : StepPlace = record { round = k; index = i } in p) ∷ []) at)

pub place_more : (k i : ℕ) → places_in_round k 0 (i + 1) ≡ places_in_round k 0 i ++ (let at : StepPlace = record { round = k; index = i } in at) ∷ []
place_more k i =
    let on : i + 1 ≡ suc i = omega arith in
    let at : 0 + i ≡ i = omega arith in
    ap (places_in_round k 0) on ∙ place_behind k 0 i ∙ ap (λ (j : ℕ). places_in_round k 0 i ++ (let p : StepPlace = record { round = k; index = j } in p) ∷ []) at

-- THEY ARE PLACES OF STEPS

module _ (rounds : List Round) where
  round_places : (k m i : ℕ) → k < length rounds → i + m ≡ length (steps_at rounds k) → list_all (is_step_place rounds) (places_in_round k i m) ≡ true
  round_places k zero i lt sum = refl
  round_places k (suc m) i lt sum = rw (lt-ltb k (length rounds) lt, lt-ltb i (length (steps_at rounds k)) (omega (arith, sum)), round_places k m (i + 1) lt (omega (arith, sum))) refl

  places_left : (m k : ℕ) → k + m ≡ length rounds → list_all (is_step_place rounds) (places_from k (drop k rounds)) ≡ true
  places_left zero k sum = ap (λ (rs : List Round). list_all (is_step_place rounds) (places_from k rs)) (drop_all k rounds (omega (arith, sum)))
  places_left (suc m) k sum =
      let lt : k < length rounds = omega (arith, sum) in
      let here : List StepPlace = places_in_round k 0 (length (steps_at rounds k)) in
      let rest : List StepPlace = places_from (k + 1) (drop (k + 1) rounds) in
      ap (λ (rs : List Round). list_all (is_step_place rounds) (places_from k rs)) (drop_more rounds k no_round lt)
      ∙ list_all-append (is_step_place rounds) here rest
      ∙ (λ i. round_places k (length (steps_at rounds k)) 0 lt (omega arith) i && places_left m (k + 1) (omega (arith, sum)) i)

  pub all_places : list_all (is_step_place rounds) (places_from 0 rounds) ≡ true
  all_places = places_left (length rounds) 0 (omega arith)

-- and so are those of a part
pub part_places : (rounds : List Round) (part all : List StepPlace) → all ≡ places_from 0 rounds → IsPart part all → list_all (is_step_place rounds) part ≡ true
part_places rounds part all is w =
    let test : StepPlace → Bool = is_step_place rounds in
    let cut : list_all test (w.0 ++ (part ++ w.1)) ≡ true = ap (list_all test) (sym w.2 ∙ is) ∙ all_places rounds in
    let back = and_true (list_all test w.0) (list_all test (part ++ w.1)) (sym (list_all-append test w.0 (part ++ w.1)) ∙ cut) in
    (and_true (list_all test part) (list_all test w.1) (sym (list_all-append test part w.1) ∙ back.1)).0

-- THE STEPS THERE

abbrev no_step : Step
no_step = record { number = 0; clause = []; first = 0; turns = [] }

-- those of a round, from an index on, with what stands before them
abbrev first_behind : (StepAt → Bool) → Rounds → ℕ → List Step → List Step → Option ℕ
first_behind t over k earlier steps = option_map (λ (s : StepAt). s.step.number)
    (find t (map (λ (entry : List Step × Step). let s : StepAt = record { step = entry.1; premises = record { formula = over.formula.now; part = over.part.now; blocked = is_before k over.blocked_at.now; earlier = entry.0 } } in s) (with_earlier earlier steps)))

round_found : (t : StepAt → Bool) (over : Rounds) (k m i : ℕ) → i + m ≡ length (steps_at over.rounds.now k)
    → first_step t over (places_in_round k i m) ≡ first_behind t over k (take i (steps_at over.rounds.now k)) (drop i (steps_at over.rounds.now k))
round_found t over k zero i sum =
    sym (ap (first_behind t over k (take i (steps_at over.rounds.now k))) (drop_all i (steps_at over.rounds.now k) (omega (arith, sum))))
round_found t over k (suc m) i sum =
    let steps : List Step = steps_at over.rounds.now k in
    let at : StepPlace = record { round = k; index = i } in
    let s : Step = get_or steps i no_step in
    let lt : i < length steps = omega (arith, sum) in
    let here : drop i steps ≡ s ∷ drop (i + 1) steps = drop_more steps i no_step lt in
    let more : take i steps ++ s ∷ [] ≡ take (i + 1) steps = sym (take_more steps i no_step lt) in
    let next = round_found t over k m (i + 1) (omega (arith, sum)) in
    elim (cases_Bool (t (step_at over at))) [
      | inl y ↦ rw y (sym (ap (first_behind t over k (take i steps)) here ∙ rw y refl))
      | inr n ↦ rw n (next ∙ sym (ap (first_behind t over k (take i steps)) here ∙ rw n (ap (λ (earlier : List Step). first_behind t over k earlier (drop (i + 1) steps)) more)))
    ]

-- and those of all rounds
module _ (t : StepAt → Bool) (over : Rounds) (h : AreRounds over) where
  found_left : (m k : ℕ) → k + m ≡ length over.rounds.now
      → first_step t over (places_from k (drop k over.rounds.now))
      ≡ first_in_rounds t over.formula.now over.part.now (blocked_after over.formula.now no_variable (take k over.rounds.now)) (drop k over.rounds.now)
  found_left zero k sum =
      ap (λ (rs : List Round). first_step t over (places_from k rs)) (drop_all k over.rounds.now (omega (arith, sum)))
      ∙ sym (rounds_end t over.formula.now over.part.now (blocked_after over.formula.now no_variable (take k over.rounds.now)) over.rounds.now k (omega (arith, sum)))
  found_left (suc m) k sum =
      let F = over.formula.now in
      let rounds : List Round = over.rounds.now in
      let r : Round = get_or rounds k no_round in
      let lt : k < length rounds = omega (arith, sum) in
      let is : r ≡ get_or rounds k r = get_or_default rounds k no_round r lt in
      let here : List StepPlace = places_in_round k 0 (length r.steps) in
      let rest : List StepPlace = places_from (k + 1) (drop (k + 1) rounds) in
      let before : is_before k over.blocked_at.now ≡ blocked_after F no_variable (take k rounds) = before_is F rounds over.blocked_at.now k h.formula h.blocks (omega (arith, sum)) in
      let round : first_step t over here ≡ first_in_round t F over.part.now (is_before k over.blocked_at.now) r = round_found t over k (length r.steps) 0 (omega arith) in
      let later = found_left m (k + 1) (omega (arith, sum)) in
      ap (λ (rs : List Round). first_step t over (places_from k rs)) (drop_more rounds k no_round lt)
      ∙ first_joined t over here rest
      ∙ (λ i. option_or (round i) (later i))
      ∙ sym (round_first t F no_variable over.part.now rounds k r (is_before k over.blocked_at.now) lt is before)

  pub steps_told : first_step t over (places_from 0 over.rounds.now) ≡ first_in_rounds t over.formula.now over.part.now no_variable over.rounds.now
  steps_told = found_left (length over.rounds.now) 0 (omega arith) ∙ rounds_begin t over.formula.now no_variable over.part.now over.rounds.now

-- THE ROUND OF A PLACE

place_bounds : (rounds : List Round) (at : StepPlace) → is_step_place rounds at ≡ true → (at.round < length rounds) × (at.index < length (steps_at rounds at.round))
place_bounds rounds at e =
    let both = and_true (nat_lt at.round (length rounds)) (nat_lt at.index (length (steps_at rounds at.round))) e in
    (ltb-true at.round (length rounds) both.0, ltb-true at.index (length (steps_at rounds at.round)) both.1)

-- what is said of the flags of so many positions is said of those of the formula
pub are_rounds : (over : Rounds) (m : ℕ) (flags : List Bool) → is_formula over.formula.now ≡ true → m ≡ length over.formula.now.clauses → over.flags.now ≡ flags → AreKeptFlags m over.part.now flags
    → AreBlocks over.formula.now 0 over.rounds.now over.blocked_at.now → are_steps over.formula.now.vars (length over.formula.now.clauses) (steps_of over.rounds.now) ≡ true → AreRounds over
are_rounds over m flags form count same told blocks steps = record {
  formula = form;
  flags = subst (λ (k : ℕ). AreKeptFlags k over.part.now over.flags.now) count (subst (λ (fs : List Bool). AreKeptFlags m over.part.now fs) (sym same) told);
  blocks = blocks;
  steps = steps;
}

-- the place at an index of a list
abbrev no_place : StepPlace
no_place = record { round = 0; index = 0 }

abbrev pub place_at : List StepPlace → ℕ → StepPlace
place_at places j = get_or places j no_place

pub record IsPlaceAt (rounds : List Round) (places : List StepPlace) (j : ℕ) : Type 0 where
  pub is : place_at places j ≡ get_or places j (place_at places j)
  pub round : (place_at places j).round < length rounds
  pub index : (place_at places j).index < length (steps_at rounds (place_at places j).round)

pub place_of : (rounds : List Round) (places : List StepPlace) (j : ℕ) → list_all (is_step_place rounds) places ≡ true → j < length places → IsPlaceAt rounds places j
place_of rounds places j all lt =
    let b = place_bounds rounds (place_at places j) (all_at (is_step_place rounds) places j no_place all lt) in
    record { is = get_or_default places j no_place (place_at places j) lt; round = b.0; index = b.1 }

pub round_is : (over : Rounds) (k : ℕ) (r : RoundAt) → AreRounds over → IsRoundOf over k r → k < length over.rounds.now → IsRoundAt r
round_is over k r h of lt =
    let F = over.formula.now in
    let q : Round = get_or over.rounds.now k no_round in
    let steps = round_steps F.vars (length F.clauses) over.rounds.now k q h.steps lt (get_or_default over.rounds.now k no_round q lt) in
    record {
      flags = subst (λ (flags : List Bool). AreKeptFlags (length r.formula.now.clauses) r.part.now flags) (sym of.flags)
          (subst (λ (part : List ℕ). AreKeptFlags (length r.formula.now.clauses) part over.flags.now) (sym of.part)
          (subst (λ (G : Cnf). AreKeptFlags (length G.clauses) over.part.now over.flags.now) (sym of.formula) h.flags));
      blocks = ap length of.blocked_at ∙ h.blocks.size ∙ ap (λ (G : Cnf). G.vars) (sym of.formula);
      steps = subst (λ (ss : List Step). AreRoundSteps r.formula.now.vars (length r.formula.now.clauses) ss) (sym of.steps)
          (subst (λ (G : Cnf). AreRoundSteps G.vars (length G.clauses) q.steps) (sym of.formula) steps);
    }

-- the step at its index is the step at the place
abbrev pub step_in : RoundAt → StepPlace → Step
step_in r at = get_or r.steps.now at.index no_step

pub step_reads : (r : RoundAt) (at : StepPlace) → at.index < length r.steps.now → step_in r at ≡ get_or r.steps.now at.index (step_in r at)
step_reads r at lt = get_or_default r.steps.now at.index no_step (step_in r at) lt

pub step_is : (over : Rounds) (at : StepPlace) (r : RoundAt) (s : Step) → IsRoundOf over at.round r → at.index < length r.steps.now → s ≡ get_or r.steps.now at.index s
    → step_behind r (take at.index r.steps.now) s ≡ step_at over at
step_is over at r s of lt is =
    let e : s ≡ get_or (steps_at over.rounds.now at.round) at.index no_step = is ∙ get_or_default r.steps.now at.index s no_step lt ∙ ap (λ (ss : List Step). get_or ss at.index no_step) of.steps in
    λ m. record { step = e m; premises = record { formula = of.formula m; part = of.part m; blocked = is_before (of.round m) (of.blocked_at m); earlier = take at.index (of.steps m) } }
