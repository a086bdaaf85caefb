-- What is found in a copy, told in the formula's numbers.
use Rattle.std.proofs.Common.{◌≡◌, ℕ, ◌+◌, ◌<◌, ◌^◌, true, List, [], ◌∷◌, sym, ◌∙◌, ap, subst, arith, ℤ, length, map, Result, Ok, Err, IfOk}
use Rattle.std.proofs.lemmas.List.{append-nil}
use Rattle.std.proofs.lemmas.List.FromFn.{length-range_with_len}
use Rattle.lk_model.specs.Limits.{max_vars}
use Rattle.lk_model.specs.Lists.{rises_within}
use Rattle.lk_model.specs.Formulas.Literal.{variable}
use Rattle.lk_model.specs.Formulas.Formula.{Cnf, is_formula, clause_at, clauses_at, positions_of}
use Rattle.lk_model.specs.Formulas.Assignment.{assignment_of, satisfies}
use Rattle.lk_model.specs.Formulas.Lean.{are_positions}
use Rattle.lk_model.specs.Documents.Documents.{steps_of}
use Rattle.lk_model.specs.Documents.Form.{are_steps}
use Rattle.lk_model.specs.declared.document.Step.{Step}
use Rattle.lk_model.specs.declared.document.Round.{Round}
use Rattle.lk_model.specs.declared.result.GeneralResult.{GeneralResult}
use Rattle.lk_model.proofs.Rising.{rises_to, all_rise}
use Rattle.general_laws.specs.Found.{IsDone, IsUnfinished}
use Rattle.general_laws.specs.GeneralResults.{IsGeneralResult}
use Rattle.renaming_laws.specs.Renaming.{named, nth, number_after, round_under, renamed_round, renamed_result}
use Rattle.renaming_laws.proofs.RenamedClauses.{literal_on}
use Rattle.renaming_laws.proofs.Copies.{variable_in, place_in, part_length, part_placed, dense_numbers}
use Rattle.renaming_laws.proofs.CopiedResults.{set_copied, satisfies_copied, result_copied}
use Rattle.renaming_laws.proofs.RenamingLaws.{copy, renaming_law}
use Rattle.renaming_laws.proofs.Telling.{set_told, kept_told}
use Rattle.renaming_laws.proofs.Told.{nth_told}
use Rattle.result_renaming.specs.Renamed.{new_round, new_result}
use Rattle.result_renaming.specs.declared.renaming.Renaming.{Renaming}
use Rattle.part_copy.specs.Copies.{Copy, IsCopy, IsRenamingOf, AreTold}
use Rattle.part_copy.specs.Found.{IsPartModel, IsPartRefuted, sets_only}
use Rattle.part_copy.proofs.SubCopies.{alone_dense}

-- THE NUMBERS

pub names_fit : (c : Copy) → IsCopy c → rises_within 0 max_vars c.names ≡ true
names_fit c h = rises_to 0 c.formula.vars max_vars c.names h.limits.vars h.dense.ascend

-- what a renaming makes of rounds and results
pub round_is : (c : Copy) (by : Renaming) → IsRenamingOf c by → new_round by ≡ renamed_round (length c.formula.clauses) c.part c.names
round_is c by h = λ j. round_under (named (h.names j)) (number_after (h.positions j) (h.last j) (h.part j))

pub result_is : (c : Copy) (by : Renaming) → IsRenamingOf c by → new_result by ≡ renamed_result (length c.formula.clauses) c.part c.names
result_is c by h = λ j r. record {
  kept = map (nth (h.part j)) r.kept;
  set = map (named (h.names j)) r.set;
  rounds = map (round_is c by h j) r.rounds;
}

-- all places of the copy stand for the part
pub all_places : (c : Copy) → IsCopy c → map (nth c.part) (positions_of c.clauses) ≡ c.part
all_places c h =
    kept_told c.part (length c.formula.clauses) (positions_of c.clauses)
    (subst (λ (n : ℕ). rises_within 0 n (positions_of c.clauses) ≡ true) (sym (part_length c.formula c.clauses c.part c.names h.dense)) (all_rise c.clauses))
    ∙ part_placed (dense_numbers c.formula c.clauses c.part c.names h.part h.dense)

-- LITERALS

-- literals of the copy in the formula's numbers
set_is : (c : Copy) (lits : List ℤ) → IsCopy c → rises_within 0 c.clauses.vars (map variable lits) ≡ true
    → map (named c.names) lits ≡ map (literal_on (variable_in c.formula c.names)) lits
set_is c lits h rise = set_told c.names c.formula.vars lits (subst (λ (n : ℕ). rises_within 0 n (map variable lits) ≡ true) h.dense.vars rise)

pub literals_told : (c : Copy) (lits told : List ℤ) → IsCopy c → rises_within 0 c.clauses.vars (map variable lits) ≡ true → told ≡ map (named c.names) lits → AreTold c lits told
literals_told c lits told h rise is =
    let F = c.formula in
    let G = c.clauses in
    let ν = variable_in F c.names in
    let both = copy F G c.part c.names h.part h.dense in
    let len = part_length F G c.part c.names h.dense in
    subst (λ (ls : List ℤ). AreTold c lits ls) (sym (is ∙ set_is c lits h rise)) (record {
      are = sym (set_is c lits h rise);
      ascend = set_copied F G ν (place_in F c.part) both lits rise;
      satisfy = λ p low high holds.
          subst (λ (q : ℕ). satisfies (assignment_of (map (literal_on ν) lits)) (clause_at F q) ≡ true)
          (sym (nth_told c.part (length F.clauses) p low (omega (arith, high, len)))) (satisfies_copied F G ν (place_in F c.part) both lits p ∙ holds);
    })

pub model_told : (c : Copy) (lits told : List ℤ) → IsCopy c → told ≡ map (named c.names) lits → IsPartModel c.clauses (positions_of c.clauses) lits
    → IsPartModel c.formula c.part told
model_told c lits told h is model =
    let F = c.formula in
    let G = c.clauses in
    let clauses = h.limits.clauses in
    subst (λ (ls : List ℤ). IsPartModel F c.part ls) (sym (is ∙ set_is c lits h model.set))
    (subst (λ (ps : List ℕ). IsGeneralResult F ps (sets_only (map (literal_on (variable_in F c.names)) lits))) (part_placed (dense_numbers F G c.part c.names h.part h.dense))
    (result_copied F G (variable_in F c.names) (place_in F c.part) (copy F G c.part c.names h.part h.dense) (sets_only lits) (omega (arith, clauses)) model))

-- ROUNDS

-- the steps of a round by itself
alone : (t : List Step → Type 0) (r : Round) → t r.steps → t (steps_of (r ∷ []))
alone t r h = subst t (sym (append-nil r.steps)) h

pub refutation_told : (c : Copy) (r : Round) (places : List ℕ) (conflicts : ℕ) → IsCopy c → are_positions c.clauses places ≡ true
    → length c.formula.clauses + length r.steps < 2 ^ 64 → IsPartRefuted c.clauses places conflicts r
    → IsPartRefuted c.formula (map (nth c.part) places) conflicts (renamed_round (length c.formula.clauses) c.part c.names r)
refutation_told c r places conflicts h inside few refuted =
    let F = c.formula in
    let G = c.clauses in
    let steps = alone (λ us. are_steps G.vars (length G.clauses) us ≡ true) r refuted.refutation.steps in
    let same = renaming_law.learned F G c.part c.names (r ∷ []) h.dense steps in
    let most = refuted.most in
    record {
      refutation = renaming_law.refuted F G c.part c.names places r h.part h.dense inside few refuted.refutation;
      needed = renaming_law.needed F G c.part c.names (r ∷ []) h.part h.dense steps refuted.needed;
      most = omega (arith, same, most);
    }

-- an open round told of the clauses as a formula of their own
pub alone_told : (c : Copy) (T : Cnf) (r : Round) (conflicts : ℕ) → IsCopy c → T ≡ clauses_at c.formula c.part → is_formula T ≡ true
    → length T.clauses + length r.steps < 2 ^ 64 → IsUnfinished c.clauses (positions_of c.clauses) conflicts (r ∷ [])
    → IsUnfinished T (positions_of T) conflicts (renamed_round (length T.clauses) (positions_of T) c.names r ∷ [])
alone_told c T r conflicts h is form few open_round =
    renaming_law.unfinished T c.clauses (positions_of T) c.names conflicts (r ∷ []) form (all_rise T) (alone_dense c T h is)
    (alone (λ us. length T.clauses + length us < 2 ^ 64) r few) open_round

pub open_told : (c : Copy) (r : Round) (conflicts : ℕ) → IsCopy c → length c.formula.clauses + length r.steps < 2 ^ 64
    → IsUnfinished c.clauses (positions_of c.clauses) conflicts (r ∷ [])
    → IsUnfinished c.formula c.part conflicts (renamed_round (length c.formula.clauses) c.part c.names r ∷ [])
open_told c r conflicts h few open_round =
    renaming_law.unfinished c.formula c.clauses c.part c.names conflicts (r ∷ []) h.form h.part h.dense
    (alone (λ us. length c.formula.clauses + length us < 2 ^ 64) r few) open_round

-- what is answered
pub refutation_answered : {E : Type 0} (c : Copy) (by : Renaming) (r : Round) (o : Result Round E) (places : List ℕ) (conflicts : ℕ) → IsCopy c → IsRenamingOf c by
    → are_positions c.clauses places ≡ true → IsPartRefuted c.clauses places conflicts r
    → IfOk o (λ q. q ≡ new_round by r) → IfOk o (λ q. by.last + length r.steps < 2 ^ 64) → IfOk o (IsPartRefuted c.formula (map (nth c.part) places) conflicts)
refutation_answered c by r (Err e) places conflicts h to inside refuted is few = tt
refutation_answered c by r (Ok q) places conflicts h to inside refuted is few =
    subst (λ (p : Round). IsPartRefuted c.formula (map (nth c.part) places) conflicts p) (sym (is ∙ ap (λ (g : Round → Round). g r) (round_is c by to)))
    (refutation_told c r places conflicts h inside (subst (λ (m : ℕ). m + length r.steps < 2 ^ 64) to.last few) refuted)

pub open_answered : {E : Type 0} (c : Copy) (by : Renaming) (r : Round) (o : Result Round E) (conflicts : ℕ) → IsCopy c → IsRenamingOf c by
    → IsUnfinished c.clauses (positions_of c.clauses) conflicts (r ∷ []) → IfOk o (λ q. q ≡ new_round by r) → IfOk o (λ q. by.last + length r.steps < 2 ^ 64)
    → IfOk o (λ q. IsUnfinished c.formula c.part conflicts (q ∷ []))
open_answered c by r (Err e) conflicts h to open_round is few = tt
open_answered c by r (Ok q) conflicts h to open_round is few =
    subst (λ (p : Round). IsUnfinished c.formula c.part conflicts (p ∷ [])) (sym (is ∙ ap (λ (g : Round → Round). g r) (round_is c by to)))
    (open_told c r conflicts h (subst (λ (m : ℕ). m + length r.steps < 2 ^ 64) to.last few) open_round)

-- a renaming to the clauses as a formula of their own
pub record IsAlone (c : Copy) (T : Cnf) (by : Renaming) : Type 0 where
  pub positions : by.positions ≡ length T.clauses
  pub last : by.last ≡ length T.clauses
  pub part : by.part.now ≡ positions_of T
  pub names : by.names.now ≡ c.names

pub alone_answered : (c : Copy) (T : Cnf) (by : Renaming) (r q : Round) (conflicts : ℕ) → IsCopy c → T ≡ clauses_at c.formula c.part → is_formula T ≡ true → IsAlone c T by
    → IsUnfinished c.clauses (positions_of c.clauses) conflicts (r ∷ []) → q ≡ new_round by r → by.last + length r.steps < 2 ^ 64
    → IsUnfinished T (positions_of T) conflicts (q ∷ [])
alone_answered c T by r q conflicts h is form to open_round same few =
    let count : by.positions ≡ length (positions_of T) = to.positions ∙ sym (length-range_with_len 1 (length T.clauses)) in
    let told : q ≡ renamed_round (length T.clauses) (positions_of T) c.names r =
    same ∙ (λ j. round_under (named (to.names j)) (number_after (count j) (to.last j) (to.part j)) r) in
    subst (λ (p : Round). IsUnfinished T (positions_of T) conflicts (p ∷ [])) (sym told)
    (alone_told c T r conflicts h is form (subst (λ (m : ℕ). m + length r.steps < 2 ^ 64) to.last few) open_round)

-- KERNELS

pub done_told : (c : Copy) (by : Renaming) (r q : GeneralResult) (conflicts : ℕ) → IsCopy c → IsRenamingOf c by → q ≡ new_result by r
    → by.last + length (steps_of r.rounds) < 2 ^ 64 → IsDone c.clauses (positions_of c.clauses) conflicts r → IsDone c.formula c.part conflicts q
done_told c by r q conflicts h to is few found =
    subst (λ (t : GeneralResult). IsDone c.formula c.part conflicts t) (sym (is ∙ ap (λ (g : GeneralResult → GeneralResult). g r) (result_is c by to)))
    (renaming_law.done c.formula c.clauses c.part c.names conflicts r h.form h.part h.dense (subst (λ (m : ℕ). m + length (steps_of r.rounds) < 2 ^ 64) to.last few) found)

pub unfinished_told : (c : Copy) (by : Renaming) (rounds qs : List Round) (conflicts : ℕ) → IsCopy c → IsRenamingOf c by → qs ≡ map (new_round by) rounds
    → by.last + length (steps_of rounds) < 2 ^ 64 → IsUnfinished c.clauses (positions_of c.clauses) conflicts rounds → IsUnfinished c.formula c.part conflicts qs
unfinished_told c by rounds qs conflicts h to is few found =
    subst (λ (ts : List Round). IsUnfinished c.formula c.part conflicts ts) (sym (is ∙ ap (λ (g : Round → Round). map g rounds) (round_is c by to)))
    (renaming_law.unfinished c.formula c.clauses c.part c.names conflicts rounds h.form h.part h.dense (subst (λ (m : ℕ). m + length (steps_of rounds) < 2 ^ 64) to.last few) found)
