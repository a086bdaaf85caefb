-- What is found in all of a formula that has a part's clauses is, translated to the whole formula's numbers, found in
-- the part.
use Rattle.std.proofs.Common.{◌≡◌, ℕ, ◌+◌, ◌^◌, ◌<◌, ◌≤◌, ◌∙◌, true, None, List, [], ◌∷◌, refl, sym, ap, subst, map, length, arith}
use Rattle.std.specs.List.{list_all}
use Rattle.std.proofs.lemmas.Bool.{and_from}
use Rattle.std.proofs.lemmas.List.{append-nil}
use Rattle.lk_model.specs.Lists.{rises_within}
use Rattle.lk_model.specs.Formulas.Literal.{variable}
use Rattle.lk_model.specs.Formulas.Formula.{Cnf, positions_of}
use Rattle.lk_model.specs.Formulas.Lean.{are_positions}
use Rattle.lk_model.specs.Formulas.Crossed.{no_variable}
use Rattle.lk_model.specs.Documents.Documents.{steps_of}
use Rattle.lk_model.specs.Documents.Form.{counts_from, is_step, is_whole, are_steps}
use Rattle.lk_model.specs.Checks.RoundChecks.{bad_step, learned_steps, IsRefutation}
use Rattle.lk_model.specs.Chains.Rounds.{AreNeeded}
use Rattle.lk_model.specs.declared.document.Step.{Step}
use Rattle.lk_model.specs.declared.document.Round.{Round}
use Rattle.lk_model.specs.declared.result.GeneralResult.{GeneralResult}
use Rattle.lk_model.proofs.Booleans.{and_true}
use Rattle.lk_model.proofs.Rising.{rising_count}
use Rattle.general_laws.specs.Found.{IsDone, IsUnfinished}
use Rattle.renaming_laws.specs.Renaming.{nth, named, renamed_round, renamed_result, IsDense, RenamingLaw}
use Rattle.renaming_laws.proofs.RenamedClauses.{literal_on}
use Rattle.renaming_laws.proofs.Copies.{variable_in, place_in, in_order, part_placed, part_length, dense_numbers, copied}
use Rattle.renaming_laws.proofs.Telling.{set_told, kept_told, rounds_told}
use Rattle.renaming_laws.proofs.RenamedForms.{are_steps_renamed, wholes_renamed, learned_count}
use Rattle.renaming_laws.proofs.CopiedResults.{IsCopy, rounds_under, result_under, stated_copied, done_copied, unfinished_copied}
use Rattle.renaming_laws.proofs.RenamedSearches.{needed_renamed}

-- the part has a copy
pub copy : (F G : Cnf) (part names : List ℕ) → are_positions F part ≡ true → IsDense F part names G → IsCopy F G (variable_in F names) (place_in F part)
copy F G part names rise dense = record { copied = copied F G part names rise dense; order = in_order (dense_numbers F G part names rise dense) }

-- with no more variables
fewer_variables : (F G : Cnf) (part names : List ℕ) → IsDense F part names G → G.vars ≤ F.vars
fewer_variables F G part names dense = let few = rising_count 0 F.vars names dense.ascend (omega arith) in let vars = dense.vars in omega (arith, few, vars)

-- the rounds of the law are those under the numbers of the copy
rounds_in : (F G : Cnf) (part names : List ℕ) → IsDense F part names G → (rounds : List Round) → are_steps G.vars (length G.clauses) (steps_of rounds) ≡ true
    → map (renamed_round (length F.clauses) part names) rounds ≡ rounds_under (variable_in F names) (place_in F part) rounds
rounds_in F G part names dense rounds e =
    let forms = (and_true (counts_from (length G.clauses + 1) (map (λ (s : Step). s.number) (steps_of rounds))) (list_all (is_step G.vars) (steps_of rounds)) e).1 in
    rounds_told part names F.vars (length F.clauses) rounds (subst (λ (n : ℕ). list_all (is_step n) (steps_of rounds) ≡ true) dense.vars forms)

-- and so is the result
result_in : (F G : Cnf) (part names : List ℕ) → IsDense F part names G → (conflicts : ℕ) (r : GeneralResult) → IsDone G (positions_of G) conflicts r
    → renamed_result (length F.clauses) part names r ≡ result_under (variable_in F names) (place_in F part) r
result_in F G part names dense conflicts r h =
    let kept : map (nth part) r.kept ≡ map (place_in F part) r.kept =
    kept_told part (length F.clauses) r.kept (subst (λ (n : ℕ). rises_within 0 n r.kept ≡ true) (sym (part_length F G part names dense)) h.result.positions) in
    let set : map (named names) r.set ≡ map (literal_on (variable_in F names)) r.set =
    set_told names F.vars r.set (subst (λ (n : ℕ). rises_within 0 n (map variable r.set) ≡ true) dense.vars h.result.set) in
    let rounds = rounds_in F G part names dense r.rounds h.result.rounds.steps in
    λ j. record { kept = kept j; set = set j; rounds = rounds j }

-- a finished result
done : (F G : Cnf) (part names : List ℕ) (conflicts : ℕ) (r : GeneralResult) → are_positions F part ≡ true → IsDense F part names G
    → length F.clauses + length (steps_of r.rounds) < 2 ^ 64 → IsDone G (positions_of G) conflicts r
    → IsDone F part conflicts (renamed_result (length F.clauses) part names r)
done F G part names conflicts r rise dense fits h =
    let found = done_copied F G (variable_in F names) (place_in F part) (copy F G part names rise dense) conflicts r fits h in
    subst (λ (q : GeneralResult). IsDone F part conflicts q) (sym (result_in F G part names dense conflicts r h))
    (subst (λ (ps : List ℕ). IsDone F ps conflicts (result_under (variable_in F names) (place_in F part) r)) (part_placed (dense_numbers F G part names rise dense)) found)

-- and rounds that stopped
unfinished : (F G : Cnf) (part names : List ℕ) (conflicts : ℕ) (rounds : List Round) → are_positions F part ≡ true → IsDense F part names G
    → length F.clauses + length (steps_of rounds) < 2 ^ 64 → IsUnfinished G (positions_of G) conflicts rounds
    → IsUnfinished F part conflicts (map (renamed_round (length F.clauses) part names) rounds)
unfinished F G part names conflicts rounds rise dense fits h =
    let found = unfinished_copied F G (variable_in F names) (place_in F part) (copy F G part names rise dense) (fewer_variables F G part names dense) conflicts rounds fits h in
    subst (λ (qs : List Round). IsUnfinished F part conflicts qs) (sym (rounds_in F G part names dense rounds h.result.steps))
    (subst (λ (ps : List ℕ). IsUnfinished F ps conflicts (rounds_under (variable_in F names) (place_in F part) rounds)) (part_placed (dense_numbers F G part names rise dense)) found)

-- ROUNDS BY THEMSELVES

-- a refutation of some of it
refuted : (F G : Cnf) (part names places : List ℕ) (r : Round) → are_positions F part ≡ true → IsDense F part names G → are_positions G places ≡ true
    → length F.clauses + length r.steps < 2 ^ 64 → IsRefutation G places r → IsRefutation F (map (nth part) places) (renamed_round (length F.clauses) part names r)
refuted F G part names places r rise dense inside fits h =
    let ν = variable_in F names in
    let f = place_in F part in
    let m = length F.clauses in
    let both = copy F G part names rise dense in
    let one = sym (append-nil r.steps) in
    let steps = subst (λ (us : List Step). are_steps G.vars (length G.clauses) us ≡ true) one h.steps in
    let is : rounds_under ν f (r ∷ []) ≡ renamed_round m part names r ∷ [] = sym (rounds_in F G part names dense (r ∷ []) steps) in
    let there : map (nth part) places ≡ map f places =
    kept_told part m places (subst (λ (n : ℕ). rises_within 0 n places ≡ true) (sym (part_length F G part names dense)) inside) in
    record {
      steps = subst (λ (us : List Step). are_steps F.vars m us ≡ true) (append-nil (renamed_round m part names r).steps)
          (subst (λ (qs : List Round). are_steps F.vars m (steps_of qs) ≡ true) is
          (are_steps_renamed G.vars F.vars (length G.clauses) m ν (literal_on ν) f both.order (r ∷ []) (subst (λ (us : List Step). m + length us < 2 ^ 64) one fits) steps));
      whole = (and_true (is_whole (renamed_round m part names r)) true
          (subst (λ (qs : List Round). list_all is_whole qs ≡ true) is (wholes_renamed (literal_on ν) f (r ∷ []) ∙ and_from (is_whole r) true h.whole refl))).0;
      stated = subst (λ (qs : List Round). (bad_step no_variable F (map (nth part) places) qs).place ≡ None) is
          (subst (λ (ps : List ℕ). (bad_step no_variable F ps (rounds_under ν f (r ∷ []))).place ≡ None) (sym there)
          (stated_copied F G ν f both places (r ∷ []) h.stated));
    }

needed : (F G : Cnf) (part names : List ℕ) (rounds : List Round) → are_positions F part ≡ true → IsDense F part names G
    → are_steps G.vars (length G.clauses) (steps_of rounds) ≡ true → AreNeeded G no_variable rounds
    → AreNeeded F no_variable (map (renamed_round (length F.clauses) part names) rounds)
needed F G part names rounds rise dense e h =
    let ν = variable_in F names in
    subst (λ (qs : List Round). AreNeeded F no_variable qs) (sym (rounds_in F G part names dense rounds e))
    (needed_renamed F G ν (literal_on ν) (place_in F part) (copied F G part names rise dense) no_variable no_variable (λ v. refl) rounds h)

learned : (F G : Cnf) (part names : List ℕ) (rounds : List Round) → IsDense F part names G
    → are_steps G.vars (length G.clauses) (steps_of rounds) ≡ true
    → length (learned_steps (map (renamed_round (length F.clauses) part names) rounds)) ≡ length (learned_steps rounds)
learned F G part names rounds dense e =
    ap (λ (qs : List Round). length (learned_steps qs)) (rounds_in F G part names dense rounds e)
    ∙ learned_count (literal_on (variable_in F names)) (place_in F part) rounds

-- all of it
pub renaming_law : RenamingLaw
renaming_law = record {
  done = λ F G part names conflicts r form rise dense fits h. done F G part names conflicts r rise dense fits h;
  unfinished = λ F G part names conflicts rounds form rise dense fits h. unfinished F G part names conflicts rounds rise dense fits h;
  refuted = refuted;
  needed = needed;
  learned = learned;
}
