-- What is found in all of a copy is found in the part.
use Rattle.std.proofs.Common.{◌≡◌, ℕ, suc, ◌+◌, ◌*◌, ◌^◌, ◌<◌, ◌≤◌, true, false, List, refl, sym, ◌∙◌, ap, subst, ℤ, None, map, length, arith, option_map}
use Rattle.std.proofs.Math.Nat.{pow-le-pow_right, mul-le-mul_left, mul-le-mul_right}
use Rattle.lk_model.specs.Lists.{among, rises_within}
use Rattle.lk_model.specs.Formulas.Literal.{variable}
use Rattle.lk_model.specs.Formulas.Formula.{Cnf, clause_at, positions_of, variable_occurs}
use Rattle.lk_model.specs.Formulas.Crossed.{no_variable}
use Rattle.lk_model.specs.Formulas.Assignment.{assignment_of, satisfies}
use Rattle.lk_model.specs.Chains.Rounds.{StepAt, blocked_after}
use Rattle.lk_model.specs.Documents.Documents.{steps_of}
use Rattle.lk_model.specs.Checks.RoundChecks.{bad_step, not_learned}
use Rattle.lk_model.specs.declared.document.Round.{Round}
use Rattle.lk_model.specs.declared.result.GeneralResult.{GeneralResult}
use Rattle.lk_model.proofs.Founds.{option_map-none}
use Rattle.lk_model.proofs.Lists.{from_mapped}
use Rattle.general_laws.specs.JoinLaw.{IsCertified}
use Rattle.general_laws.specs.GeneralResults.{IsGeneralResult}
use Rattle.general_laws.proofs.Stated.{none_in, find_in}
use Rattle.general_laws.proofs.Reaching.{is_misstated}
use Rattle.general_laws.proofs.Learning.{is_unlearned}
use Rattle.general_laws.proofs.JoinLaws.{misstated_none, none_misstated}
use Rattle.general_laws.proofs.Renumbering.{among_renumbered}
use Rattle.general_laws.specs.Found.{IsDone, IsUnfinished}
use Rattle.renaming_laws.proofs.Mapped.{map_twice, rises_by, rises_mapped}
use Rattle.renaming_laws.proofs.RenamedClauses.{literal_on}
use Rattle.renaming_laws.specs.Renaming.{round_under}
use Rattle.renaming_laws.proofs.RenamedChains.{IsCopied, Agrees, misstated_renamed, unlearned_renamed}
use Rattle.renaming_laws.proofs.RenamedRounds.{agrees_after, progress_renamed, none_in_renamed}
use Rattle.renaming_laws.proofs.RenamedForms.{AreInOrder, wholes_renamed, ends_renamed, learned_count, are_steps_renamed}
use Rattle.renaming_laws.proofs.RenamedSets.{from_mentioned, occurs_renamed, from_occurring, covered_renamed}
use Rattle.renaming_laws.proofs.RenamedAssignments.{assignment_renamed, satisfies_renamed}
use Rattle.renaming_laws.proofs.RenamedSearches.{needed_renamed, wants_renamed}

-- a formula with the clauses of F at some positions under other variables, both in order
pub record IsCopy (F G : Cnf) (ν f : ℕ → ℕ) : Type 0 where
  pub copied : IsCopied F G ν (literal_on ν) f
  pub order : AreInOrder G.vars F.vars (length G.clauses) (length F.clauses) ν (literal_on ν) f

-- the rounds under the new numbers
abbrev pub rounds_under : (ℕ → ℕ) → (ℕ → ℕ) → List Round → List Round
rounds_under ν f rounds = map (round_under (literal_on ν) f) rounds

-- ROUNDS

-- rounds that state their clauses do under the new numbers
pub stated_copied : (F G : Cnf) (ν f : ℕ → ℕ) → IsCopy F G ν f → (P : List ℕ) (rounds : List Round) → (bad_step no_variable G P rounds).place ≡ None
    → (bad_step no_variable F (map f P) (rounds_under ν f rounds)).place ≡ None
stated_copied F G ν f copy P rounds e =
    none_misstated F no_variable (map f P) (rounds_under ν f rounds)
    (none_in_renamed is_misstated F G ν (literal_on ν) f copy.copied P (misstated_renamed F G ν (literal_on ν) f copy.copied P) no_variable no_variable (λ v. refl) rounds
    (misstated_none G no_variable P rounds e))

-- and so do rounds that learn
learned_copied : (F G : Cnf) (ν f : ℕ → ℕ) → IsCopy F G ν f → (P : List ℕ) (rounds : List Round) → (not_learned no_variable G P rounds).place ≡ None
    → (not_learned no_variable F (map f P) (rounds_under ν f rounds)).place ≡ None
unfolding not_learned
learned_copied F G ν f copy P rounds e =
    ap (option_map (λ (s : StepAt). s.step.number)) (find_in is_unlearned F (map f P) no_variable (rounds_under ν f rounds)
    (none_in_renamed is_unlearned F G ν (literal_on ν) f copy.copied P (unlearned_renamed F G ν (literal_on ν) f copy.copied P) no_variable no_variable (λ v. refl) rounds
    (none_in is_unlearned G P no_variable rounds (option_map-none _ _ e))))

-- they block the new variables
blocks_copied : (F G : Cnf) (ν f : ℕ → ℕ) → IsCopy F G ν f → (rounds : List Round) → Agrees ν (blocked_after G no_variable rounds) (blocked_after F no_variable (rounds_under ν f rounds))
blocks_copied F G ν f copy rounds = agrees_after F G ν (literal_on ν) f copy.copied no_variable no_variable (λ v. refl) rounds

-- so they show that the kept positions are lean
certified_copied : (F G : Cnf) (ν f : ℕ → ℕ) → IsCopy F G ν f → (kept : List ℕ) (rounds : List Round) → length F.clauses + length (steps_of rounds) < 2 ^ 64
    → IsCertified G no_variable kept rounds → IsCertified F no_variable (map f kept) (rounds_under ν f rounds)
certified_copied F G ν f copy kept rounds fits h = record {
  steps = are_steps_renamed G.vars F.vars (length G.clauses) (length F.clauses) ν (literal_on ν) f copy.order rounds fits h.steps;
  whole = wholes_renamed (literal_on ν) f rounds ∙ h.whole;
  stated = stated_copied F G ν f copy kept rounds h.stated;
  blocked = λ v e.
      let w = from_occurring F G ν (literal_on ν) f copy.copied kept v e in
      subst (λ (u : ℕ). blocked_after F no_variable (rounds_under ν f rounds) u ≡ true) w.2 (blocks_copied F G ν f copy rounds w.0 ∙ h.blocked w.0 w.1);
}

-- A FINISHED RESULT

-- the result under the new numbers
abbrev pub result_under : (ℕ → ℕ) → (ℕ → ℕ) → GeneralResult → GeneralResult
result_under ν f r = record { kept = map f r.kept; set = map (literal_on ν) r.set; rounds = rounds_under ν f r.rounds }

-- the new numbers of the variables of a set line rise
pub set_copied : (F G : Cnf) (ν f : ℕ → ℕ) → IsCopy F G ν f → (ls : List ℤ) → rises_within 0 G.vars (map variable ls) ≡ true
    → rises_within 0 F.vars (map variable (map (literal_on ν) ls)) ≡ true
set_copied F G ν f copy ls e =
    subst (λ (vs : List ℕ). rises_within 0 F.vars vs ≡ true) (sym (map_twice (literal_on ν) variable (λ l. ν (variable l)) copy.copied.numbers.renames.on ls))
    (rises_by variable (λ l. ν (variable l)) G.vars F.vars (λ l k. copy.order.variables (variable l) (variable k)) (λ l. copy.order.most (variable l)) 0 0 above ls e)
  where
    above : (l : ℤ) → 0 < variable l → 0 < ν (variable l)
    above l lt = let up = copy.order.variables 0 (variable l) lt in omega (arith, up)

-- literals satisfy under the new numbers what they satisfied
pub satisfies_copied : (F G : Cnf) (ν f : ℕ → ℕ) → IsCopy F G ν f → (ls : List ℤ) (p : ℕ)
    → satisfies (assignment_of (map (literal_on ν) ls)) (clause_at F (f p)) ≡ satisfies (assignment_of ls) (clause_at G p)
satisfies_copied F G ν f copy ls p =
    ap (satisfies (assignment_of (map (literal_on ν) ls))) (copy.copied.clauses p)
    ∙ satisfies_renamed ν (λ k. let up = copy.order.variables 0 (suc k) (omega arith) in omega (arith, up))
    (assignment_of ls) (assignment_of (map (literal_on ν) ls)) (assignment_renamed ν copy.copied.numbers.renames ls) (clause_at G p)

-- a position that is not kept has a clause that the set line satisfies
satisfied_copied : (F G : Cnf) (ν f : ℕ → ℕ) → IsCopy F G ν f → (r : GeneralResult) → IsGeneralResult G (positions_of G) r → (p : ℕ)
    → among (map f (positions_of G)) p ≡ true → among (map f r.kept) p ≡ false → satisfies (assignment_of (map (literal_on ν) r.set)) (clause_at F p) ≡ true
satisfied_copied F G ν f copy r h p inside out =
    let w = from_mapped f (positions_of G) p inside in
    let not_kept : among r.kept w.0 ≡ false =
    sym (among_renumbered f copy.copied.numbers.same r.kept w.0) ∙ ap (among (map f r.kept)) w.2 ∙ out in
    subst (λ (q : ℕ). satisfies (assignment_of (map (literal_on ν) r.set)) (clause_at F q) ≡ true) w.2
    (satisfies_copied F G ν f copy r.set w.0 ∙ h.satisfied w.0 w.1 not_kept)

pub result_copied : (F G : Cnf) (ν f : ℕ → ℕ) → IsCopy F G ν f → (r : GeneralResult) → length F.clauses + length (steps_of r.rounds) < 2 ^ 64
    → IsGeneralResult G (positions_of G) r → IsGeneralResult F (map f (positions_of G)) (result_under ν f r)
result_copied F G ν f copy r fits h =
    let g = literal_on ν in
    record {
      positions = rises_mapped f 0 (length G.clauses) 0 (length F.clauses) r.kept copy.copied.numbers.rise copy.copied.numbers.low
          (λ k lt. let up = copy.copied.numbers.rise 0 k lt in omega (arith, up)) h.positions;
      within = λ p e.
          let w = from_mapped f r.kept p e in
          subst (λ (q : ℕ). among (map f (positions_of G)) q ≡ true) w.2 (among_renumbered f copy.copied.numbers.same (positions_of G) w.0 ∙ h.within w.0 w.1);
      rounds = certified_copied F G ν f copy r.kept r.rounds fits h.rounds;
      set = set_copied F G ν f copy r.set h.set;
      on_part = λ v m.
          let w = from_mentioned ν g copy.copied.numbers.renames r.set v m in
          subst (λ (u : ℕ). variable_occurs F (map f (positions_of G)) u ≡ true) w.2
          (occurs_renamed F G ν g f copy.copied (positions_of G) w.0 ∙ h.on_part w.0 w.1);
      unkept = λ v m.
          let w = from_mentioned ν g copy.copied.numbers.renames r.set v m in
          subst (λ (u : ℕ). variable_occurs F (map f r.kept) u ≡ false) w.2
          (occurs_renamed F G ν g f copy.copied r.kept w.0 ∙ h.unkept w.0 w.1);
      satisfied = satisfied_copied F G ν f copy r h;
    }

pub done_copied : (F G : Cnf) (ν f : ℕ → ℕ) → IsCopy F G ν f → (conflicts : ℕ) (r : GeneralResult) → length F.clauses + length (steps_of r.rounds) < 2 ^ 64
    → IsDone G (positions_of G) conflicts r → IsDone F (map f (positions_of G)) conflicts (result_under ν f r)
done_copied F G ν f copy conflicts r fits h =
    let g = literal_on ν in
    record {
      result = result_copied F G ν f copy r fits h.result;
      kept = ap (map f) h.kept
          ∙ sym (covered_renamed F G ν g f copy.copied (blocked_after G no_variable r.rounds) (blocked_after F no_variable (rounds_under ν f r.rounds)) (blocks_copied F G ν f copy r.rounds) (positions_of G));
      unblocked = λ v m.
          let w = from_mentioned ν g copy.copied.numbers.renames r.set v m in
          subst (λ (u : ℕ). blocked_after F no_variable (rounds_under ν f r.rounds) u ≡ false) w.2
          (blocks_copied F G ν f copy r.rounds w.0 ∙ h.unblocked w.0 w.1);
      most = let e = learned_count g f r.rounds in let few = h.most in omega (arith, e, few);
      needed = needed_renamed F G ν g f copy.copied no_variable no_variable (λ v. refl) r.rounds h.needed;
    }

-- AN UNFINISHED RESULT

-- more variables leave room for more clauses
fewer_learned : (conflicts n top : ℕ) → n ≤ top → conflicts < n * 3 ^ n → conflicts < top * 3 ^ top
fewer_learned conflicts n top le few =
    let powers : 3 ^ n ≤ 3 ^ top = pow-le-pow_right {n = 3} (omega arith) le in
    let a : n * 3 ^ n ≤ top * 3 ^ n = mul-le-mul_right {m = n} {n = top} (3 ^ n) le in
    let b : top * 3 ^ n ≤ top * 3 ^ top = mul-le-mul_left {m = 3 ^ n} {n = 3 ^ top} top powers in
    omega (arith, a, b, few)

pub unfinished_copied : (F G : Cnf) (ν f : ℕ → ℕ) → IsCopy F G ν f → G.vars ≤ F.vars → (conflicts : ℕ) (rounds : List Round) → length F.clauses + length (steps_of rounds) < 2 ^ 64
    → IsUnfinished G (positions_of G) conflicts rounds → IsUnfinished F (map f (positions_of G)) conflicts (rounds_under ν f rounds)
unfinished_copied F G ν f copy le conflicts rounds fits h =
    let g = literal_on ν in
    record {
      result = record {
        steps = are_steps_renamed G.vars F.vars (length G.clauses) (length F.clauses) ν g f copy.order rounds fits h.result.steps;
        ends = ends_renamed g f rounds ∙ h.result.ends;
        stated = stated_copied F G ν f copy (positions_of G) rounds h.result.stated;
        learned = learned_copied F G ν f copy (positions_of G) rounds h.result.learned;
        progress = progress_renamed F G ν g f copy.copied no_variable no_variable (λ v. refl) rounds ∙ h.result.progress;
      };
      all = learned_count g f rounds ∙ h.all;
      few = fewer_learned conflicts G.vars F.vars le h.few;
      wants = wants_renamed F G ν f copy.copied copy.order.variables no_variable no_variable (λ v. refl) (positions_of G) rounds h.wants;
    }
