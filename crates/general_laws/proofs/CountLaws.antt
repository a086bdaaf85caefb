-- Rounds with progress over n variables learn fewer than n * 3^n clauses.
use Rattle.std.proofs.Common.{◌≡◌, ℕ, zero, suc, ◌<◌, ◌≤◌, ◌+◌, ◌-◌, ◌*◌, ◌^◌, Bool, true, false, not, ◌||◌, ◌==◌, List, [], ◌∷◌, refl, sym, ◌∙◌, ap, subst, None, length, length-append, arith}
use Rattle.std.proofs.Math.Nat.{suc-mul, mul-suc, mul-le-mul_right}
use Rattle.std.proofs.lemmas.Bool.{eqb-true, not-true}
use Rattle.std.proofs.lemmas.List.Elements.{filter-append}
use Rattle.lk_model.specs.Lists.{is_empty}
use Rattle.lk_model.specs.Formulas.Formula.{Cnf, is_formula, positions_of}
use Rattle.lk_model.specs.Formulas.Crossed.{Variables}
use Rattle.lk_model.specs.Chains.Rounds.{is_refutation, variables_used, blocked_after_round, has_progress}
use Rattle.lk_model.specs.Documents.Documents.{steps_of}
use Rattle.lk_model.specs.Documents.Form.{is_whole, end_open, are_clause_lines, is_open_in_form}
use Rattle.lk_model.specs.Checks.RoundChecks.{learned_steps, bad_step, bad_count, not_learned}
use Rattle.lk_model.specs.Checks.Checks.{checks_under, first_failure_under, IsSoundUnder, HasProgressUnder}
use Rattle.lk_model.specs.declared.document.Step.{Step}
use Rattle.lk_model.specs.declared.document.Round.{Round}
use Rattle.lk_model.specs.declared.document.Document.TheVariants.{Unfinished}
use Rattle.lk_model.specs.declared.document.OpenDocument.{OpenDocument}
use Rattle.lk_model.proofs.Booleans.{and_true}
use Rattle.lk_model.proofs.Founds.{option_map-none}
use Rattle.lk_model.proofs.Rounds.{whole_refutes}
use Rattle.kernel_laws.proofs.Passed.{none_fails, at_one_place}
use Rattle.general_laws.specs.CountLaw.{CountLaw}
use Rattle.general_laws.proofs.Stated.{NoneOf, NoneIn, none_in}
use Rattle.general_laws.proofs.Reaching.{is_misstated}
use Rattle.general_laws.proofs.Learning.{is_unlearned, filled_steps, round_learns, round_learns_none, few_steps}
use Rattle.general_laws.proofs.Unblocked.{unblocked, few_unblocked, all_blocked, round_blocks_one}
use Rattle.general_laws.proofs.Codes.{few_clauses}

-- what the rounds learn is what the first learns and what the others do
learned_parts : (r : Round) (rounds : List Round) → length (learned_steps (r ∷ rounds)) ≡ length (filled_steps r.steps) + length (learned_steps rounds)
learned_parts r rounds =
    ap (λ (xs : List Step). length xs) (filter-append (λ (s : Step). not (is_empty s.clause)) r.steps (steps_of rounds))
    ∙ length-append (filled_steps r.steps) (learned_steps rounds)

-- one more factor
one_more : (a b u v p : ℕ) → v + 1 ≤ u → a ≤ p → b ≤ v * p → a + b ≤ u * p
one_more a b u v p h f g =
    let e = suc-mul v p in
    let le : suc v * p ≤ u * p = mul-le-mul_right {m = suc v} {n = u} p (omega (arith, h)) in
    omega (arith, e, le, f, g)

-- a round learns nothing where nothing is left to block, and else fewer than 3^n clauses
last_learns : (F : Cnf) (part : List ℕ) (blocked : Variables) (steps : List Step) → is_formula F ≡ true → NoneOf is_misstated F part blocked [] steps
    → NoneOf is_unlearned F part blocked [] steps → (u : ℕ) → length (unblocked F.vars blocked) ≡ u → length (filled_steps steps) ≤ u * (3 ^ F.vars - 1)
last_learns F part blocked steps form stated learned zero e =
    let none = round_learns_none F part blocked steps form stated (all_blocked F.vars blocked e) in omega (arith, none)
last_learns F part blocked steps form stated learned (suc u) e =
    let few = round_learns F part blocked steps form stated learned in
    let one = one_more (length (filled_steps steps)) 0 (suc u) u (3 ^ F.vars - 1) (omega arith) (omega (arith, few)) (omega arith) in
    omega (arith, one)

-- rounds with progress learn at most as many times 3^n - 1 clauses as variables are unblocked before them
pub rounds_learn : (F : Cnf) (part : List ℕ) (blocked : Variables) (rounds : List Round) → is_formula F ≡ true → end_open rounds ≡ true
    → NoneIn is_misstated F part blocked rounds → NoneIn is_unlearned F part blocked rounds → has_progress F blocked rounds ≡ true
    → length (learned_steps rounds) ≤ length (unblocked F.vars blocked) * (3 ^ F.vars - 1)
unfolding has_progress
rounds_learn F part blocked [] form ends stated learned progress = absurd (let f : ⊥ = cc in f)
rounds_learn F part blocked (r ∷ []) form ends stated learned progress =
    let parts = learned_parts r [] in
    let last = last_learns F part blocked r.steps form stated.0 learned.0 (length (unblocked F.vars blocked)) refl in
    omega (arith, parts, last)
rounds_learn F part blocked (r ∷ s ∷ rounds) form ends stated learned progress =
    let e = and_true (is_whole r) (end_open (s ∷ rounds)) ends in
    let p = and_true (not (is_refutation r.steps) || not (is_empty (variables_used F blocked r))) (has_progress F (blocked_after_round F blocked r) (s ∷ rounds)) progress in
    let whole = whole_refutes r.steps e.0 in
    let more = rounds_learn F part (blocked_after_round F blocked r) (s ∷ rounds) form e.1 stated.1 learned.1 p.1 in
    let few = round_learns F part blocked r.steps form stated.0 learned.0 in
    let less = round_blocks_one F blocked r form whole (new_used (is_refutation r.steps) (is_empty (variables_used F blocked r)) whole p.0) in
    let parts = learned_parts r (s ∷ rounds) in
    let all = one_more (length (filled_steps r.steps)) (length (learned_steps (s ∷ rounds))) (length (unblocked F.vars blocked))
    (length (unblocked F.vars (blocked_after_round F blocked r))) (3 ^ F.vars - 1) less (omega (arith, few)) more in
    omega (arith, parts, all)
  where
    new_used : (a b : Bool) → a ≡ true → (not a || not b) ≡ true → b ≡ false
    new_used true b a e = not-true b e
    new_used false b a e = absurd (let f : ⊥ = cc in f)

-- and so at most n times as many
count_rounds : (F : Cnf) (base : Variables) (part : List ℕ) (rounds : List Round) → is_formula F ≡ true → end_open rounds ≡ true → (bad_step base F part rounds).place ≡ None
    → (not_learned base F part rounds).place ≡ None → has_progress F base rounds ≡ true → length (learned_steps rounds) ≤ F.vars * (3 ^ F.vars - 1)
unfolding bad_step not_learned
count_rounds F base part rounds form ends stated learned progress =
    let few = rounds_learn F part base rounds form ends (none_in is_misstated F part base rounds (option_map-none _ _ stated))
    (none_in is_unlearned F part base rounds (option_map-none _ _ learned)) progress in
    let all : length (unblocked F.vars base) * (3 ^ F.vars - 1) ≤ F.vars * (3 ^ F.vars - 1) =
    mul-le-mul_right {m = length (unblocked F.vars base)} {n = F.vars} (3 ^ F.vars - 1) (few_unblocked F.vars base) in
    omega (arith, few, all)

-- UNFINISHED DOCUMENTS

-- the stated number is theirs
counted : (d : OpenDocument) → (bad_count d).place ≡ None → length (learned_steps d.rounds) ≡ d.learned
unfolding bad_count
counted d none = eqb-true (length (learned_steps d.rounds)) d.learned (at_one_place (length (learned_steps d.rounds) == d.learned) none)

-- a document in form ends with an open round
open_ends : (d : OpenDocument) → is_open_in_form d ≡ true → end_open d.rounds ≡ true
unfolding is_open_in_form
open_ends d form =
    let a = and_true _ (are_clause_lines d.vars d.clauses d.texts) form in
    (and_true _ (end_open d.rounds) a.0).1

-- a sound document with progress has fewer than n * 3^n learned clauses
count_unfinished : (F : Cnf) (base : Variables) (d : OpenDocument) → is_formula F ≡ true → 1 ≤ F.vars → IsSoundUnder base F d → HasProgressUnder base F d
    → (d.learned ≡ length (learned_steps d.rounds)) × (d.learned < F.vars * 3 ^ F.vars)
unfolding first_failure_under
count_unfinished F base d form some sound progress =
    let h = none_fails (checks_under base F (Unfinished d)) sound.checks in
    let few = count_rounds F base (positions_of F) d.rounds form (open_ends d sound.form) h.1.1.1.0 h.1.1.1.1.0 progress in
    let count = counted d h.1.1.0 in
    let positive = few_clauses F.vars [] refl refl in
    (sym count, less d.learned (length (learned_steps d.rounds)) F.vars (3 ^ F.vars) some positive few count)
  where
    less : (k m n p : ℕ) → 1 ≤ n → 0 < p → m ≤ n * (p - 1) → m ≡ k → k < n * p
    less k m n zero some positive few same = absurd (omega (arith, positive))
    less k m n (suc p) some positive few same =
        let f : m ≤ n * p = subst (λ (q : ℕ). m ≤ n * q) (let e : suc p - 1 ≡ p = omega arith in e) few in
        let e = mul-suc n p in omega (arith, f, e, some, same)

-- all of it
pub count_law : CountLaw
count_law = record { clauses = few_clauses; steps = few_steps; rounds = count_rounds; unfinished = count_unfinished }
