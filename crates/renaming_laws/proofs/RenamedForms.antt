-- Steps and rounds in form under other variables and other numbers.
use Rattle.std.proofs.Common.{◌≡◌, ℕ, ◌+◌, ◌-◌, ◌*◌, ◌^◌, ◌<◌, ◌≤◌, Bool, true, false, cond, not, ◌&&◌, ◌==◌, nat_lt, nat_le, List, [], ◌∷◌, ◌++◌, refl, sym, ◌∙◌, ap, subst, ℤ, map, filter, length, arith}
use Rattle.std.specs.List.{list_all}
use Rattle.std.proofs.lemmas.Bool.{leb-true, le-leb, lt-ltb, eqb-true, eq-eqb, and_from}
use Rattle.std.proofs.lemmas.List.{map-append, length-map}
use Rattle.lk_model.specs.Lists.{is_empty, is_between, rises_within}
use Rattle.lk_model.specs.Formulas.Literal.{variable, is_positive, rank_of, is_literal}
use Rattle.lk_model.specs.Documents.Documents.{steps_of}
use Rattle.lk_model.specs.Documents.Form.{counts_from, is_turn, is_step, are_steps, is_open, ends_at_empty, is_whole, end_open}
use Rattle.lk_model.specs.Checks.RoundChecks.{learned_steps}
use Rattle.lk_model.specs.declared.document.Turn.{Turn}
use Rattle.lk_model.specs.declared.document.Step.{Step}
use Rattle.lk_model.specs.declared.document.Round.{Round}
use Rattle.lk_model.proofs.Booleans.{and_true}
use Rattle.renaming_laws.proofs.Mapped.{all_mapped, filter_mapped, empty_mapped, map_twice, rising_le, rises_by}
use Rattle.renaming_laws.specs.Renaming.{turn_under, step_under, round_under}

-- ROUNDS

-- all steps of new rounds
pub steps_renamed : (g : ℤ → ℤ) (f : ℕ → ℕ) (rounds : List Round) → steps_of (map (round_under g f) rounds) ≡ map (step_under g f) (steps_of rounds)
steps_renamed g f [] = refl
steps_renamed g f (r ∷ rounds) =
    ap (λ (us : List Step). map (step_under g f) r.steps ++ us) (steps_renamed g f rounds) ∙ sym (map-append (step_under g f) r.steps (steps_of rounds))

-- a round is whole where the old one is
pub whole_renamed : (g : ℤ → ℤ) (f : ℕ → ℕ) (steps : List Step) → ends_at_empty (map (step_under g f) steps) ≡ ends_at_empty steps
whole_renamed g f [] = refl
whole_renamed g f (s ∷ steps) = rw (empty_mapped g s.clause, empty_mapped (step_under g f) steps, whole_renamed g f steps) refl

pub wholes_renamed : (g : ℤ → ℤ) (f : ℕ → ℕ) (rounds : List Round) → list_all is_whole (map (round_under g f) rounds) ≡ list_all is_whole rounds
wholes_renamed g f rounds = all_mapped (round_under g f) is_whole is_whole (λ r. whole_renamed g f r.steps) rounds

-- and open where that is
open_renamed : (g : ℤ → ℤ) (f : ℕ → ℕ) (r : Round) → is_open (round_under g f r) ≡ is_open r
open_renamed g f r =
    all_mapped (step_under g f) (λ (s : Step). not (is_empty s.clause)) (λ (s : Step). not (is_empty s.clause)) (λ s. ap not (empty_mapped g s.clause)) r.steps

pub ends_renamed : (g : ℤ → ℤ) (f : ℕ → ℕ) (rounds : List Round) → end_open (map (round_under g f) rounds) ≡ end_open rounds
ends_renamed g f [] = refl
ends_renamed g f (r ∷ []) = open_renamed g f r
ends_renamed g f (r ∷ s ∷ rounds) = rw (whole_renamed g f r.steps, ends_renamed g f (s ∷ rounds)) refl

-- as many steps learn a clause
pub learned_count : (g : ℤ → ℤ) (f : ℕ → ℕ) (rounds : List Round) → length (learned_steps (map (round_under g f) rounds)) ≡ length (learned_steps rounds)
learned_count g f rounds =
    ap (λ (us : List Step). length (filter (λ (s : Step). not (is_empty s.clause)) us)) (steps_renamed g f rounds)
    ∙ ap (λ (us : List Step). length us)
    (filter_mapped (step_under g f) (λ (s : Step). not (is_empty s.clause)) (λ (s : Step). not (is_empty s.clause)) (λ s. ap not (empty_mapped g s.clause)) (steps_of rounds))
    ∙ length-map (learned_steps rounds) (step_under g f)

-- STEPS IN FORM

-- The new numbers of variables from 1 to n lie from 1 to top, those of positions and steps rise, those of steps without
-- a gap from past m on as the old ones do from past k on.
pub record AreInOrder (n top k m : ℕ) (ν : ℕ → ℕ) (g : ℤ → ℤ) (f : ℕ → ℕ) : Type 0 where
  pub on : (l : ℤ) → variable (g l) ≡ ν (variable l)
  pub sign : (l : ℤ) → is_positive (g l) ≡ is_positive l
  pub variables : (a b : ℕ) → a < b → ν a < ν b
  pub most : (v : ℕ) → v ≤ n → ν v ≤ top
  pub numbers : (a b : ℕ) → a < b → f a < f b
  pub shift : (j : ℕ) → k < j → f j + k ≡ j + m

-- the rank of a new literal
rank_renamed : (n top k m : ℕ) (ν : ℕ → ℕ) (g : ℤ → ℤ) (f : ℕ → ℕ) → AreInOrder n top k m ν g f → (l : ℤ)
    → rank_of (g l) ≡ cond (is_positive l) (2 * ν (variable l)) (2 * ν (variable l) + 1)
rank_renamed n top k m ν g f order l = rw (order.on l, order.sign l) refl

-- ranks rise with variables
ranks_rise : (n top k m : ℕ) (ν : ℕ → ℕ) (g : ℤ → ℤ) (f : ℕ → ℕ) → AreInOrder n top k m ν g f → (l j : ℤ) → rank_of l < rank_of j → rank_of (g l) < rank_of (g j)
ranks_rise n top k m ν g f order l j lt = rw (rank_renamed n top k m ν g f order l, rank_renamed n top k m ν g f order j) (by_sign (is_positive l) (is_positive j) (variable l) (variable j) lt)
  where
    by_sign : (p q : Bool) (v w : ℕ) → cond p (2 * v) (2 * v + 1) < cond q (2 * w) (2 * w + 1) → cond p (2 * ν v) (2 * ν v + 1) < cond q (2 * ν w) (2 * ν w + 1)
    by_sign true true v w lt = let up = order.variables v w (omega (arith, lt)) in omega (arith, up)
    by_sign true false v w lt = let up = rising_le ν order.variables v w (omega (arith, lt)) in omega (arith, up)
    by_sign false true v w lt = let up = order.variables v w (omega (arith, lt)) in omega (arith, up)
    by_sign false false v w lt = let up = order.variables v w (omega (arith, lt)) in omega (arith, up)

-- from above 0
rank_above : (n top k m : ℕ) (ν : ℕ → ℕ) (g : ℤ → ℤ) (f : ℕ → ℕ) → AreInOrder n top k m ν g f → (l : ℤ) → 1 < rank_of l → 1 < rank_of (g l)
rank_above n top k m ν g f order l lt = rw (rank_renamed n top k m ν g f order l) (by_sign (is_positive l) (variable l) lt)
  where
    by_sign : (p : Bool) (v : ℕ) → 1 < cond p (2 * v) (2 * v + 1) → 1 < cond p (2 * ν v) (2 * ν v + 1)
    by_sign true v lt = let up = order.variables 0 v (omega (arith, lt)) in omega (arith, up)
    by_sign false v lt = let up = order.variables 0 v (omega (arith, lt)) in omega (arith, up)

-- to within the variables
rank_within : (n top k m : ℕ) (ν : ℕ → ℕ) (g : ℤ → ℤ) (f : ℕ → ℕ) → AreInOrder n top k m ν g f → (l : ℤ) → rank_of l ≤ 2 * n + 1 → rank_of (g l) ≤ 2 * top + 1
rank_within n top k m ν g f order l le = rw (rank_renamed n top k m ν g f order l) (by_sign (is_positive l) (variable l) le)
  where
    by_sign : (p : Bool) (v : ℕ) → cond p (2 * v) (2 * v + 1) ≤ 2 * n + 1 → cond p (2 * ν v) (2 * ν v + 1) ≤ 2 * top + 1
    by_sign true v le = let up = order.most v (omega (arith, le)) in omega (arith, up)
    by_sign false v le = let up = order.most v (omega (arith, le)) in omega (arith, up)

-- so a clause in order stays one
clause_renamed : (n top k m : ℕ) (ν : ℕ → ℕ) (g : ℤ → ℤ) (f : ℕ → ℕ) → AreInOrder n top k m ν g f → (c : List ℤ)
    → rises_within 1 (2 * n + 1) (map rank_of c) ≡ true → rises_within 1 (2 * top + 1) (map rank_of (map g c)) ≡ true
clause_renamed n top k m ν g f order c e =
    subst (λ (rs : List ℕ). rises_within 1 (2 * top + 1) rs ≡ true) (sym (map_twice g rank_of (λ l. rank_of (g l)) (λ l. refl) c))
    (rises_by rank_of (λ l. rank_of (g l)) (2 * n + 1) (2 * top + 1) (ranks_rise n top k m ν g f order) (rank_within n top k m ν g f order) 1 1
    (rank_above n top k m ν g f order) c e)

-- what stands before a step still does
before_renamed : (n top k m : ℕ) (ν : ℕ → ℕ) (g : ℤ → ℤ) (f : ℕ → ℕ) → AreInOrder n top k m ν g f → (number j : ℕ)
    → is_between 1 (number - 1) j ≡ true → is_between 1 (f number - 1) (f j) ≡ true
before_renamed n top k m ν g f order number j e =
    let both = and_true (nat_le 1 j) (nat_le j (number - 1)) e in
    let least = leb-true 1 j both.0 in let most = leb-true j (number - 1) both.1 in
    let above = order.numbers 0 j (omega (arith, least)) in
    let below = order.numbers j number (omega (arith, least, most)) in
    and_from _ _ (le-leb 1 (f j) (omega (arith, above))) (le-leb (f j) (f number - 1) (omega (arith, below)))

literal_renamed : (n top k m : ℕ) (ν : ℕ → ℕ) (g : ℤ → ℤ) (f : ℕ → ℕ) → AreInOrder n top k m ν g f → (l : ℤ) → is_literal n l ≡ true → is_literal top (g l) ≡ true
literal_renamed n top k m ν g f order l e =
    let both = and_true (nat_le 1 (variable l)) (nat_le (variable l) n) e in
    let least = leb-true 1 (variable l) both.0 in
    let above = order.variables 0 (variable l) (omega (arith, least)) in
    let within = order.most (variable l) (leb-true (variable l) n both.1) in
    let on = order.on l in
    and_from _ _ (le-leb 1 (variable (g l)) (omega (arith, above, on))) (le-leb (variable (g l)) top (omega (arith, within, on)))

turns_renamed : (n top k m : ℕ) (ν : ℕ → ℕ) (g : ℤ → ℤ) (f : ℕ → ℕ) → AreInOrder n top k m ν g f → (number : ℕ) (turns : List Turn)
    → list_all (is_turn n number) turns ≡ true → list_all (is_turn top (f number)) (map (turn_under g f) turns) ≡ true
turns_renamed n top k m ν g f order number [] e = refl
turns_renamed n top k m ν g f order number (t ∷ turns) e =
    let both = and_true (is_turn n number t) (list_all (is_turn n number) turns) e in
    let this = and_true (is_literal n t.lit) (is_between 1 (number - 1) t.with) both.0 in
    and_from _ _ (and_from _ _ (literal_renamed n top k m ν g f order t.lit this.0) (before_renamed n top k m ν g f order number t.with this.1))
    (turns_renamed n top k m ν g f order number turns both.1)

step_renamed : (n top k m : ℕ) (ν : ℕ → ℕ) (g : ℤ → ℤ) (f : ℕ → ℕ) → AreInOrder n top k m ν g f → (s : Step) → f s.number < 2 ^ 64
    → is_step n s ≡ true → is_step top (step_under g f s) ≡ true
step_renamed n top k m ν g f order s fits e =
    let a = and_true (nat_lt s.number (2 ^ 64) && rises_within 1 (2 * n + 1) (map rank_of s.clause) && is_between 1 (s.number - 1) s.first) (list_all (is_turn n s.number) s.turns) e in
    let b = and_true (nat_lt s.number (2 ^ 64) && rises_within 1 (2 * n + 1) (map rank_of s.clause)) (is_between 1 (s.number - 1) s.first) a.0 in
    let c = and_true (nat_lt s.number (2 ^ 64)) (rises_within 1 (2 * n + 1) (map rank_of s.clause)) b.0 in
    let small : nat_lt (f s.number) (2 ^ 64) ≡ true = lt-ltb (f s.number) (2 ^ 64) fits in
    and_from _ _ (and_from _ _ (and_from _ _ small (clause_renamed n top k m ν g f order s.clause c.1)) (before_renamed n top k m ν g f order s.number s.first b.1))
    (turns_renamed n top k m ν g f order s.number s.turns a.1)

-- ALL STEPS

-- numbers without a gap have none when they are told anew
counts_renamed : (n top k m : ℕ) (ν : ℕ → ℕ) (g : ℤ → ℤ) (f : ℕ → ℕ) → AreInOrder n top k m ν g f → (steps : List Step) (next then : ℕ) → k < next → next + m ≡ then + k
    → counts_from next (map (λ (s : Step). s.number) steps) ≡ true → counts_from then (map (λ (s : Step). s.number) (map (step_under g f) steps)) ≡ true
counts_renamed n top k m ν g f order [] next then past same e = refl
counts_renamed n top k m ν g f order (s ∷ steps) next then past same e =
    let both = and_true (s.number == next) (counts_from (next + 1) (map (λ (s : Step). s.number) steps)) e in
    let is = eqb-true s.number next both.0 in
    let shift = order.shift s.number (omega (arith, past, is)) in
    and_from _ _ (eq-eqb (f s.number) then (omega (arith, shift, is, same)))
    (counts_renamed n top k m ν g f order steps (next + 1) (then + 1) (omega (arith, past)) (omega (arith, same)) both.1)

-- and so all steps stay in form
forms_renamed : (n top k m : ℕ) (ν : ℕ → ℕ) (g : ℤ → ℤ) (f : ℕ → ℕ) → AreInOrder n top k m ν g f → (steps : List Step) (next : ℕ) → k < next → next + m + length steps ≤ 2 ^ 64 + k
    → counts_from next (map (λ (s : Step). s.number) steps) ≡ true → list_all (is_step n) steps ≡ true → list_all (is_step top) (map (step_under g f) steps) ≡ true
forms_renamed n top k m ν g f order [] next past fits e h = refl
forms_renamed n top k m ν g f order (s ∷ steps) next past fits e h =
    let both = and_true (s.number == next) (counts_from (next + 1) (map (λ (s : Step). s.number) steps)) e in
    let is = eqb-true s.number next both.0 in
    let forms = and_true (is_step n s) (list_all (is_step n) steps) h in
    let shift = order.shift s.number (omega (arith, past, is)) in
    and_from _ _ (step_renamed n top k m ν g f order s (omega (arith, shift, is, fits)) forms.0)
    (forms_renamed n top k m ν g f order steps (next + 1) (omega (arith, past)) (omega (arith, fits)) both.1 forms.1)

pub all_steps_renamed : (n top k m : ℕ) (ν : ℕ → ℕ) (g : ℤ → ℤ) (f : ℕ → ℕ) → AreInOrder n top k m ν g f → (steps : List Step) → m + length steps < 2 ^ 64
    → are_steps n k steps ≡ true → are_steps top m (map (step_under g f) steps) ≡ true
all_steps_renamed n top k m ν g f order steps fits e =
    let both = and_true (counts_from (k + 1) (map (λ (s : Step). s.number) steps)) (list_all (is_step n) steps) e in
    and_from _ _ (counts_renamed n top k m ν g f order steps (k + 1) (m + 1) (omega arith) (omega arith) both.0)
    (forms_renamed n top k m ν g f order steps (k + 1) (omega arith) (omega (arith, fits)) both.0 both.1)

pub are_steps_renamed : (n top k m : ℕ) (ν : ℕ → ℕ) (g : ℤ → ℤ) (f : ℕ → ℕ) → AreInOrder n top k m ν g f → (rounds : List Round) → m + length (steps_of rounds) < 2 ^ 64
    → are_steps n k (steps_of rounds) ≡ true → are_steps top m (steps_of (map (round_under g f) rounds)) ≡ true
are_steps_renamed n top k m ν g f order rounds fits e =
    subst (λ (us : List Step). are_steps top m us ≡ true) (sym (steps_renamed g f rounds)) (all_steps_renamed n top k m ν g f order (steps_of rounds) fits e)
