-- What is written of two formulas: of a reduction what computes, and an unfinished text as a whole.
use Rattle.std.proofs.Common.{◌≡◌, ℕ, zero, suc, Bool, true, false, cond, not, List, [], ◌∷◌, refl, arith, lit≤, ℤ, pos, negsuc, IsTrue, Some, None, unwrap_or, ◌↔◌, codes}
use Rattle.std.specs.Fmt.{digits}
use Rattle.lk_model.specs.Lists.{among}
use Rattle.lk_model.specs.Formulas.Literal.{complement, contains}
use Rattle.lk_model.specs.Formulas.Formula.{clause_at}
use Rattle.lk_model.specs.Formulas.Crossed.{no_variable}
use Rattle.lk_model.specs.Formulas.Assignment.{Assignment, assignment_of, makes_true, touches}
use Rattle.lk_model.specs.Formulas.Autarky.{IsAutarky, IsPureAutarky}
use Rattle.lk_model.specs.Formulas.Lean.{all_of}
use Rattle.lk_model.specs.Formulas.Parts.{IsPartUnder, InOnePartUnder}
use Rattle.lk_model.specs.Texts.Dimacs.{Spells}
use Rattle.lk_model.specs.Documents.Form.{is_body, are_clause_lines, is_done_in_form, is_open_in_form}
use Rattle.lk_model.specs.Documents.Text.{text_of, text_lines}
use Rattle.lk_model.specs.Chains.Chain.{states_its_clause, is_learned}
use Rattle.lk_model.specs.Chains.Rounds.{steps_in_rounds, has_progress}
use Rattle.lk_model.specs.Checks.CommonChecks.{other_formula, kept_clause, protected_set, not_autarky, not_exactly_removed}
use Rattle.lk_model.specs.Checks.PureChecks.{bad_order, bad_pair}
use Rattle.lk_model.specs.Checks.RoundChecks.{bad_step, every_clause, bad_count, not_learned}
use Rattle.lk_model.specs.Checks.Checks.{first_failure_under, Accepts, IsSound, HasProgress}
use Rattle.lk_model.specs.Reduction.{IsStatedBody, StopsUnfinished}
use Rattle.test_definitions.proofs.WorkedDocuments.{equivalence, eight_signs, pure_done, unfinished_open}

-- A REDUCTION

spells_equivalence : Spells (codes "p cnf 3 3\n1 2 0\n-2 3 0\n2 -3 0\n") equivalence
spells_equivalence = record {
  problem = record { bytes = codes "p cnf 3 3"; last = 9 };
  others = record { bytes = codes "1 2 0"; last = 15 } ∷ record { bytes = codes "-2 3 0"; last = 22 } ∷ record { bytes = codes "2 -3 0"; last = 29 } ∷ [];
  numbers = pos 1 ∷ pos 2 ∷ pos 0 ∷ negsuc 1 ∷ pos 3 ∷ pos 0 ∷ pos 2 ∷ negsuc 2 ∷ pos 0 ∷ [];
  lines = refl;
  stated = refl;
  read = refl;
  clauses = refl;
  variables = refl;
  vars_limit = lit≤ tt;
  clauses_limit = lit≤ tt;
  literals_limit = lit≤ tt;
  bytes_limit = lit≤ tt;
}

accepted : Accepts equivalence pure_done
unfolding first_failure_under other_formula kept_clause protected_set not_autarky not_exactly_removed bad_order bad_pair is_body are_clause_lines is_done_in_form
accepted = record { form = refl; checks = refl }

-- the literals of the pure run, and the least pairs
stated : IsStatedBody no_variable equivalence 0 pure_done.kept pure_done.body
stated = ((refl, refl), refl)

abbrev one_true : Assignment
one_true = assignment_of pure_done.set

-- it touches the removed clauses alone, and satisfies them
touched : (p : ℕ) → IsTrue (all_of equivalence p) → touches one_true (clause_at equivalence p) ≡ not (among pure_done.kept p)
touched zero h = cc
touched (suc zero) h = refl
touched (suc (suc zero)) h = refl
touched (suc (suc (suc zero))) h = refl
touched (suc (suc (suc (suc p)))) h = absurd (let f : ⊥ = grind (arith, h) in f)

satisfied : IsAutarky equivalence (all_of equivalence) one_true
satisfied zero h t = cc
satisfied (suc zero) h t = refl
satisfied (suc (suc zero)) h t = cc
satisfied (suc (suc (suc zero))) h t = cc
satisfied (suc (suc (suc (suc p)))) h t = cc

-- by an order, as the class pure asks
true_literals : (l : ℤ) → IsTrue (contains (pos 1 ∷ []) l) ↔ IsTrue (makes_true one_true l)
true_literals (pos v) = at_test (contains (pos 1 ∷ []) (pos v)) (contains (pos 1 ∷ []) (complement (pos v)))
  where
    at_test : (a b : Bool) → IsTrue a ↔ IsTrue (unwrap_or (cond a (Some true) (cond b (Some false) None)) false)
    at_test true b = (λ h. refl, λ h. refl)
    at_test false true = (λ h. h, λ h. h)
    at_test false false = (λ h. h, λ h. h)
true_literals (negsuc k) = at_test (contains (pos 1 ∷ []) (pos (suc k)))
  where
    at_test : (a : Bool) → IsTrue false ↔ IsTrue (not (unwrap_or (cond a (Some true) None) true))
    at_test true = (λ h. h, λ h. h)
    at_test false = (λ h. h, λ h. h)

no_complement : (p : ℕ) → contains (clause_at equivalence p) (negsuc 0) ≡ true → ⊥
no_complement zero h = cc
no_complement (suc zero) h = cc
no_complement (suc (suc zero)) h = cc
no_complement (suc (suc (suc zero))) h = cc
no_complement (suc (suc (suc (suc p)))) h = cc

pure_autarky : IsPureAutarky equivalence (all_of equivalence) one_true
pure_autarky = record {
  order = pos 1 ∷ [];
  once = refl;
  true_literals = true_literals;
  earlier = (λ p within holds. absurd (no_complement p holds), tt);
}

-- AN UNFINISHED TEXT

abbrev eight_signs_text : List ℕ
eight_signs_text = codes "p cnf 3 8\n1 2 3 0\n1 2 -3 0\n1 -2 3 0\n1 -2 -3 0\n-1 2 3 0\n-1 2 -3 0\n-1 -2 3 0\n-1 -2 -3 0\n"

spells_eight_signs : Spells eight_signs_text eight_signs
spells_eight_signs = record {
  problem = record { bytes = codes "p cnf 3 8"; last = 9 };
  others = record { bytes = codes "1 2 3 0"; last = 17 } ∷ record { bytes = codes "1 2 -3 0"; last = 26 } ∷ record { bytes = codes "1 -2 3 0"; last = 35 } ∷ record { bytes = codes "1 -2 -3 0"; last = 45 }
      ∷ record { bytes = codes "-1 2 3 0"; last = 54 } ∷ record { bytes = codes "-1 2 -3 0"; last = 64 } ∷ record { bytes = codes "-1 -2 3 0"; last = 74 } ∷ record { bytes = codes "-1 -2 -3 0"; last = 85 } ∷ [];
  numbers = pos 1 ∷ pos 2 ∷ pos 3 ∷ pos 0 ∷ pos 1 ∷ pos 2 ∷ negsuc 2 ∷ pos 0 ∷ pos 1 ∷ negsuc 1 ∷ pos 3 ∷ pos 0 ∷ pos 1 ∷ negsuc 1 ∷ negsuc 2 ∷ pos 0
      ∷ negsuc 0 ∷ pos 2 ∷ pos 3 ∷ pos 0 ∷ negsuc 0 ∷ pos 2 ∷ negsuc 2 ∷ pos 0 ∷ negsuc 0 ∷ negsuc 1 ∷ pos 3 ∷ pos 0 ∷ negsuc 0 ∷ negsuc 1 ∷ negsuc 2 ∷ pos 0 ∷ [];
  lines = refl;
  stated = refl;
  read = refl;
  clauses = refl;
  variables = refl;
  vars_limit = lit≤ tt;
  clauses_limit = lit≤ tt;
  literals_limit = lit≤ tt;
  bytes_limit = lit≤ tt;
}

sound : IsSound eight_signs unfinished_open
unfolding first_failure_under other_formula every_clause bad_count bad_step not_learned states_its_clause is_learned steps_in_rounds is_open_in_form are_clause_lines
sound = record { form = refl; checks = refl }

makes_progress : HasProgress eight_signs unfinished_open
unfolding has_progress
makes_progress = refl

-- all clauses have the three variables
one_part : IsPartUnder no_variable eight_signs (1 ∷ 2 ∷ 3 ∷ 4 ∷ 5 ∷ 6 ∷ 7 ∷ 8 ∷ [])
one_part = (refl, at)
  where
    at : (p : ℕ) → IsTrue (all_of eight_signs p) → IsTrue (among (1 ∷ 2 ∷ 3 ∷ 4 ∷ 5 ∷ 6 ∷ 7 ∷ 8 ∷ []) p) ↔ InOnePartUnder no_variable eight_signs 1 p
    at zero h = absurd (let f : ⊥ = cc in f)
    at (suc zero) h = (λ _. ([], refl), λ _. refl)
    at (suc (suc zero)) h = (λ _. (2 ∷ [], (refl, refl)), λ _. refl)
    at (suc (suc (suc zero))) h = (λ _. (3 ∷ [], (refl, refl)), λ _. refl)
    at (suc (suc (suc (suc zero)))) h = (λ _. (4 ∷ [], (refl, refl)), λ _. refl)
    at (suc (suc (suc (suc (suc zero))))) h = (λ _. (5 ∷ [], (refl, refl)), λ _. refl)
    at (suc (suc (suc (suc (suc (suc zero)))))) h = (λ _. (6 ∷ [], (refl, refl)), λ _. refl)
    at (suc (suc (suc (suc (suc (suc (suc zero))))))) h = (λ _. (7 ∷ [], (refl, refl)), λ _. refl)
    at (suc (suc (suc (suc (suc (suc (suc (suc zero)))))))) h = (λ _. (8 ∷ [], (refl, refl)), λ _. refl)
    at (suc (suc (suc (suc (suc (suc (suc (suc (suc p))))))))) h = absurd (let f : ⊥ = grind (arith, h) in f)

abbrev unfinished_text : List ℕ
unfinished_text = codes "c leank 1 unfinished\nc formula 3 8\nc learned 1\nc round\nc step 9 -1 -2 0 8 -3 7 0\np cnf 3 8\n1 2 3 0\n1 2 -3 0\n1 -2 3 0\n1 -2 -3 0\n-1 2 3 0\n-1 2 -3 0\n-1 -2 3 0\n-1 -2 -3 0\n"

stops_unfinished : StopsUnfinished eight_signs_text None 1 unfinished_text
unfolding text_of text_lines digits
stops_unfinished = record {
  formula = eight_signs;
  spells = spells_eight_signs;
  unfinished = record {
    document = unfinished_open;
    written_is = refl;
    sound = sound;
    progress = makes_progress;
    protects = refl;
    count = refl;
  };
  part = 1 ∷ 2 ∷ 3 ∷ 4 ∷ 5 ∷ 6 ∷ 7 ∷ 8 ∷ [];
  is_part = one_part;
  names = refl;
}
