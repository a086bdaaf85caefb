-- The document of rounds that stopped is sound and has progress.
use Rattle.std.proofs.Common.{◌≡◌, ℕ, ◌<◌, ◌≤◌, ◌^◌, true, ◌||◌, ◌==◌, nat_lt, nat_le, List, [], ◌∷◌, refl, None, inl, inr, length}
use Rattle.std.specs.List.{list_all}
use Rattle.std.proofs.lemmas.Bool.{cases_Bool, le-leb, lt-ltb, ltb-false, eq-eqb, and_from}
use Rattle.lk_model.specs.Limits.{max_vars, max_clauses}
use Rattle.lk_model.specs.Lists.{among}
use Rattle.lk_model.specs.Formulas.Formula.{Cnf, is_formula, IsWithinLimits}
use Rattle.lk_model.specs.Formulas.Crossed.{no_variable}
use Rattle.lk_model.specs.Formulas.Lean.{are_positions}
use Rattle.lk_model.specs.Chains.Chain.{names_of}
use Rattle.lk_model.specs.Chains.Rounds.{names_within}
use Rattle.lk_model.specs.Documents.Documents.{steps_of}
use Rattle.lk_model.specs.Documents.Form.{is_open_in_form}
use Rattle.lk_model.specs.Checks.RoundChecks.{bad_step, bad_count, learned_steps}
use Rattle.lk_model.specs.Checks.Checks.{IsSound, first_failure_under}
use Rattle.lk_model.specs.declared.document.Step.{Step}
use Rattle.lk_model.specs.declared.document.Round.{Round}
use Rattle.lk_model.proofs.Booleans.{or_left, or_right}
use Rattle.lk_model.proofs.Founds.{option_map-none}
use Rattle.kernel_laws.proofs.FirstChecks.{same_formula, same_every}
use Rattle.kernel_laws.proofs.KeptLines.{all_lines_form}
use Rattle.general_laws.specs.JoinLaw.{IsApart}
use Rattle.general_laws.specs.OpenResults.{IsOpenResult, open_document, OpenResultLaw}
use Rattle.general_laws.proofs.Stated.{none_in}
use Rattle.general_laws.proofs.Reaching.{is_misstated}
use Rattle.general_laws.proofs.Carrying.{NamesIn, names_of_rounds}
use Rattle.general_laws.proofs.Wholes.{over_all}

-- the document is in form
form_of : (F : Cnf) (part : List ℕ) (rounds : List Round) → is_formula F ≡ true → IsWithinLimits F → IsOpenResult F part rounds
    → length (learned_steps rounds) < 2 ^ 63 → is_open_in_form (open_document F rounds) ≡ true
unfolding is_open_in_form
form_of F part rounds form limits h few =
    let vars : nat_le F.vars max_vars ≡ true = le-leb F.vars max_vars limits.vars in
    let clauses : nat_le (length F.clauses) max_clauses ≡ true = le-leb (length F.clauses) max_clauses limits.clauses in
    let fits : nat_lt (length (learned_steps rounds)) (2 ^ 63) ≡ true = lt-ltb (length (learned_steps rounds)) (2 ^ 63) few in
    rw (vars, clauses, fits, h.steps, h.ends, all_lines_form F form limits) refl

-- the stated number is that of the learned clauses
count_passes : (F : Cnf) (rounds : List Round) → (bad_count (open_document F rounds)).place ≡ None
unfolding bad_count
count_passes F rounds = rw (eq-eqb (length (learned_steps rounds)) (length (learned_steps rounds)) refl) refl

-- so it is sound
sound : (F : Cnf) (part : List ℕ) (rounds : List Round) → is_formula F ≡ true → IsWithinLimits F → are_positions F part ≡ true → IsApart F part
    → IsOpenResult F part rounds → length (learned_steps rounds) < 2 ^ 63 → IsSound F (open_document F rounds)
unfolding first_failure_under
sound F part rounds form limits rise apart h few =
    let all = over_all F no_variable part rounds rise apart h.stated h.learned in
    record {
      form = form_of F part rounds form limits h few;
      checks = rw (same_formula F, same_every F (open_document F rounds) refl, count_passes F rounds, all.0, all.1) refl;
    }

-- WHAT THE CHAINS NAME

-- names among the part pass the test
names_pass : (F : Cnf) (part ks : List ℕ) → ((k : ℕ) → among ks k ≡ true → k ≤ length F.clauses → among part k ≡ true)
    → list_all (λ k. nat_lt (length F.clauses) k || among part k) ks ≡ true
names_pass F part [] h = refl
names_pass F part (k ∷ ks) h =
    and_from _ _ here (names_pass F part ks (λ j m. h j (or_right (k == j) (among ks j) m)))
  where
    here : (nat_lt (length F.clauses) k || among part k) ≡ true
    here = elim (cases_Bool (nat_lt (length F.clauses) k)) [
      | inl past ↦ or_left _ (among part k) past
      | inr n ↦ or_right (nat_lt (length F.clauses) k) _ (h k (or_left (k == k) (among ks k) (eq-eqb k k refl)) (ltb-false (length F.clauses) k n))
    ]

-- of all steps
pub steps_pass : (F : Cnf) (part : List ℕ) (steps : List Step) → NamesIn F part steps
    → list_all (λ (s : Step). list_all (λ k. nat_lt (length F.clauses) k || among part k) (names_of s)) steps ≡ true
steps_pass F part [] n = refl
steps_pass F part (s ∷ steps) n = and_from _ _ (names_pass F part (names_of s) n.0) (steps_pass F part steps n.1)

-- chains over the part name no other position
names : (F : Cnf) (part : List ℕ) (rounds : List Round) → IsOpenResult F part rounds → names_within F part rounds ≡ true
unfolding bad_step
names F part rounds h = steps_pass F part (steps_of rounds) (names_of_rounds F part no_variable rounds (none_in is_misstated F part no_variable rounds (option_map-none _ _ h.stated)))

-- all of it
pub open_result_law : OpenResultLaw
open_result_law = record { sound = sound; progress = λ F part rounds h. h.progress; names = names }
