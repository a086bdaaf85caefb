-- The matching kernel of a formula, its parts, and models.
use Rattle.std.proofs.Common.{◌≡◌, ℕ, zero, suc, ◌-◌, ◌<◌, ◌≤◌, Bool, true, false, not, ◌==◌, List, [], ◌∷◌, refl, sym, ◌∙◌, ap, subst, arith, ℤ, length, map, Contains, inl, inr}
use Rattle.std.specs.Prelude.{slice_index_or}
use Rattle.std.proofs.lemmas.Bool.{cases_Bool, both_ways, eqb-true, eq-eqb, false_from_ne_true, not_from_false}
use Rattle.std.proofs.lemmas.List.{length-map}
use Rattle.lk_model.specs.Lists.{among, is_empty, rises_within}
use Rattle.lk_model.specs.Formulas.Literal.{variable, literal_of, mentions}
use Rattle.lk_model.specs.Formulas.Formula.{Cnf, IsWithinLimits, is_formula, clause_at, clauses_at, positions_of, variable_occurs}
use Rattle.lk_model.specs.Formulas.Assignment.{Assignment, assignment_of, satisfies, extended_value, extended, IsModel}
use Rattle.lk_model.specs.Formulas.Crossed.{no_variable, crossed_out}
use Rattle.lk_model.specs.Formulas.Lean.{are_positions, all_of, Kernel}
use Rattle.lk_model.specs.Formulas.Parts.{IsPart}
use Rattle.lk_model.specs.declared.class.Class.TheVariants.{Matching}
use Rattle.lk_model.specs.declared.document.Own.{Own}
use Rattle.lk_model.specs.declared.result.GeneralResult.{GeneralResult}
use Rattle.lk_model.specs.declared.result.MatchingResult.{MatchingResult}
use Rattle.lk_model.proofs.Booleans.{or_true, or_left}
use Rattle.lk_model.proofs.Counting.{in_filter, among-range}
use Rattle.lk_model.proofs.Keys.{first_in, later_in}
use Rattle.lk_model.proofs.Lists.{among_at, place_of, in_mapped, from_mapped}
use Rattle.lk_model.proofs.Literals.{variable_negative}
use Rattle.lk_model.proofs.Rising.{bounded, part_rises as is_rising}
use Rattle.lk_model.proofs.Variables.{occurs, position_with}
use Rattle.kernel_laws.proofs.Occurrences.{in_positions}
use Rattle.matching_laws.specs.MatchingResults.{IsMatchingResult, removed_of, set_line}
use Rattle.matching_laws.proofs.MatchingReductions.{matching_result_law}
use Rattle.general_laws.specs.ForeignLaw.{HasForeign, IsAmongForeign}
use Rattle.general_laws.specs.GeneralResults.{IsGeneralResult}
use Rattle.general_laws.proofs.PartLaws.{part_law}
use Rattle.general_laws.proofs.PartResults.{no_rounds}
use Rattle.part_copy.specs.Found.{IsPartModel, sets_only}
use Rattle.renaming_laws.specs.Renaming.{nth}
use Rattle.renaming_laws.proofs.Mapped.{rises_mapped}
use Rattle.renaming_laws.proofs.Told.{told as place_told, told_low, told_rise}
use Rattle.renaming_laws.proofs.Telling.{kept_told}
use Rattle.kernel_solve.specs.KernelParts.{IsKernelPart, told}
use Rattle.kernel_solve.specs.ModelLaw.{SolveModelLaw}

-- PLACES OF KEPT POSITIONS

-- the clause at a place of the kept ones
place_clause : (F : Cnf) (kept : List ℕ) (k : ℕ) → 0 < k → clause_at (clauses_at F kept) k ≡ clause_at F (nth kept k)
place_clause F kept zero lt = absurd (omega (arith, lt))
place_clause F kept (suc k) lt = at kept k ∙ ap (λ (i : ℕ). clause_at F (slice_index_or kept i 0)) (let e : k ≡ suc k - 1 = omega arith in e)
  where
    at : (ps : List ℕ) (i : ℕ) → slice_index_or (map (clause_at F) ps) i [] ≡ clause_at F (slice_index_or ps i 0)
    at [] i = refl
    at (p ∷ ps) zero = refl
    at (p ∷ ps) (suc i) = at ps i

place_at : (kept : List ℕ) (k : ℕ) → 0 < k → k ≤ length kept → among kept (nth kept k) ≡ true
place_at kept k least most = among_at kept (k - 1) (omega (arith, least, most))

-- the places of a part lie from 1 to the number of kept positions
place_bounds : (F : Cnf) (kept part : List ℕ) (k : ℕ) → are_positions (clauses_at F kept) part ≡ true → among part k ≡ true → (0 < k) × (k ≤ length kept)
place_bounds F kept part k rise m =
    let b = bounded 0 (length (clauses_at F kept).clauses) part k rise m in
    let most = b.1 in
    let long : length (clauses_at F kept).clauses ≡ length kept = length-map {B = List ℤ} kept (clause_at F) in
    (b.0, omega (arith, most, long))

positions : (F : Cnf) (kept part : List ℕ) → are_positions F kept ≡ true → are_positions (clauses_at F kept) part ≡ true → are_positions F (told kept part) ≡ true
positions F kept part rise inside =
    let m = length F.clauses in
    let long : length (clauses_at F kept).clauses ≡ length kept = length-map {B = List ℤ} kept (clause_at F) in
    let within : rises_within 0 (length kept) part ≡ true = subst (λ (n : ℕ). rises_within 0 n part ≡ true) long inside in
    subst (λ (ps : List ℕ). rises_within 0 m ps ≡ true) (sym (kept_told kept m part within))
    (rises_mapped (place_told kept m) 0 (length kept) 0 m part (told_rise kept m rise) (λ k le. told_low kept m m k rise le)
    (λ k lt. let up = told_rise kept m rise 0 k lt in omega (arith, up)) within)

-- a variable of the part's clauses is one of them in the kernel
occurs_in_kernel : (F : Cnf) (kept part : List ℕ) (v : ℕ) → are_positions (clauses_at F kept) part ≡ true → variable_occurs F (told kept part) v ≡ true
    → variable_occurs (clauses_at F kept) part v ≡ true
occurs_in_kernel F kept part v rise o =
    let p = position_with F (told kept part) v o in
    let k = from_mapped (nth kept) part p.0 p.1 in
    let b = place_bounds F kept part k.0 rise k.1 in
    let there = subst (λ (q : ℕ). mentions (clause_at F q) v ≡ true) (sym k.2) p.2 in
    occurs (clauses_at F kept) part k.0 v k.1 (subst (λ (c : List ℤ). mentions c v ≡ true) (sym (place_clause F kept k.0 b.0)) there)

-- what is kept is the kernel
pub kernel_of : (F : Cnf) (r : MatchingResult) → is_formula F ≡ true → IsMatchingResult F (positions_of F) r → Kernel Matching F r.kept
kernel_of F r form h =
    let k = matching_result_law.kernel F (positions_of F) r form h in
    record { positions = k.positions; lean = k.lean; largest = λ S within lean. k.largest S (λ p m. in_positions F p (within p m)) lean }

-- a part of the kernel
is_part : (F : Cnf) (r : MatchingResult) (part : List ℕ) → is_formula F ≡ true → IsMatchingResult F (positions_of F) r
    → IsPart (clauses_at F r.kept) part → IsKernelPart F (told r.kept part)
is_part F r part form h part_is = record {
  kept = r.kept;
  kernel = kernel_of F r form h;
  places = part;
  is_part = part_is;
  told_is = refl;
}

-- CLAUSES OUTSIDE A PART

-- the own line of a removed position
own_with : (own : List Own) (p : ℕ) → among (map (λ (o : Own). o.pos) own) p ≡ true → (o : Own) × Contains own o × (o.pos ≡ p)
own_with [] p m = absurd (let f : ⊥ = cc in f)
own_with (o ∷ own) p m = elim (or_true (o.pos == p) (among (map (λ (o : Own). o.pos) own) p) m) [
  | inl here ↦ (o, first_in o own, eqb-true o.pos p here)
  | inr later ↦ (let w = own_with own p later in (w.0, later_in o own w.0 w.1, w.2))
]

-- a variable of a clause of which something is left
some_variable : (c : List ℤ) → is_empty (crossed_out no_variable c) ≡ false → (v : ℕ) × (mentions c v ≡ true)
some_variable [] e = absurd (let f : ⊥ = cc in f)
some_variable (l ∷ c) e = (variable l, or_left (variable l == variable l) (mentions c (variable l)) (eq-eqb (variable l) (variable l) refl))

-- a removed clause has its own variable
removed_foreign : (F : Cnf) (r : MatchingResult) (part : List ℕ) (p : ℕ) → IsMatchingResult F (positions_of F) r → are_positions (clauses_at F r.kept) part ≡ true
    → all_of F p ≡ true → among r.kept p ≡ false → HasForeign no_variable F (told r.kept part) p
removed_foreign F r part p h rise inside out =
    let there : among (removed_of (positions_of F) r.kept) p ≡ true =
    in_filter (λ p. not (among r.kept p)) (positions_of F) p (not_from_false (among r.kept p) out) (in_positions F p inside) in
    let o = own_with r.own p (subst (λ (ps : List ℕ). among ps p ≡ true) (sym h.removed) there) in
    record {
      variable = o.0.var;
      here = subst (λ (q : ℕ). mentions (clause_at F q) o.0.var ≡ true) o.2 (h.owned o.0 o.1);
      unblocked = refl;
      foreign = false_from_ne_true _ (λ occ.
          let q = position_with F (told r.kept part) o.0.var occ in
          let k = from_mapped (nth r.kept) part q.0 q.1 in
          let b = place_bounds F r.kept part k.0 rise k.1 in
          h.owns_removed o.0 q.0 o.1 (subst (λ (j : ℕ). among r.kept j ≡ true) k.2 (place_at r.kept k.0 b.0 b.1)) q.2);
    }

-- and a kept one of another part shares none with this part
kept_foreign : (F : Cnf) (kept part : List ℕ) (p : ℕ) → IsPart (clauses_at F kept) part → is_empty (crossed_out no_variable (clause_at F p)) ≡ false → among kept p ≡ true
    → among (told kept part) p ≡ false → HasForeign no_variable F (told kept part) p
kept_foreign F kept part p part_is some inside out =
    let i = place_of kept p inside in
    let at : nth kept (suc i.0) ≡ p = (let e : suc i.0 - 1 ≡ i.0 = omega arith in ap (λ (j : ℕ). slice_index_or kept j 0) e ∙ i.2) in
    let v = some_variable (clause_at F p) some in
    let not_in : among part (suc i.0) ≡ false =
    false_from_ne_true _ (λ m. both_ways (among (told kept part) p) out (subst (λ (q : ℕ). among (told kept part) q ≡ true) at (in_mapped (nth kept) part (suc i.0) m))) in
    record {
      variable = v.0;
      here = v.1;
      unblocked = refl;
      foreign = false_from_ne_true _ (λ occ.
          let apart = part_law.apart (clauses_at F kept) part part_is (suc i.0) v.0 not_in (occurs_in_kernel F kept part v.0 (is_rising (clauses_at F kept) part part_is) occ) in
          let same : clause_at (clauses_at F kept) (suc i.0) ≡ clause_at F p = place_clause F kept (suc i.0) (omega arith) ∙ ap (clause_at F) at in
          both_ways (mentions (clause_at F p) v.0) (subst (λ (c : List ℤ). mentions c v.0 ≡ false) same apart) v.1);
    }

foreign : (F : Cnf) (r : MatchingResult) (part : List ℕ) → IsMatchingResult F (positions_of F) r → IsPart (clauses_at F r.kept) part
    → IsAmongForeign no_variable F (told r.kept part)
foreign F r part h part_is p inside out some = elim (cases_Bool (among r.kept p)) [
  | inl kept ↦ kept_foreign F r.kept part p part_is some kept out
  | inr removed ↦ removed_foreign F r part p h (is_rising (clauses_at F r.kept) part part_is) inside removed
]

-- MODELS

as_part : (F : Cnf) (kept part : List ℕ) (lits : List ℤ) → are_positions (clauses_at F kept) part ≡ true → IsPartModel F (told kept part) lits
    → IsGeneralResult (clauses_at F kept) part (sets_only lits)
as_part F kept part lits rise h = record {
  positions = refl;
  within = λ p m. absurd (let f : ⊥ = cc in f);
  rounds = record { steps = refl; whole = refl; stated = no_rounds (clauses_at F kept); blocked = λ v o. absurd (let f : ⊥ = cc in f) };
  set = h.set;
  on_part = λ v m. occurs_in_kernel F kept part v rise (h.on_part v m);
  unkept = λ v m. refl;
  satisfied = λ p inside out.
      let b = place_bounds F kept part p rise inside in
      subst (λ (c : List ℤ). satisfies (assignment_of lits) c ≡ true) (sym (place_clause F kept p b.0)) (h.satisfied (nth kept p) (in_mapped (nth kept) part p inside) refl);
}

kernel : (F : Cnf) (kept : List ℕ) (t : GeneralResult) → are_positions F kept ≡ true → IsGeneralResult (clauses_at F kept) (positions_of (clauses_at F kept)) t
    → t.kept ≡ [] → IsModel F (among kept) (assignment_of t.set)
kernel F kept t rise h none p inside =
    let i = place_of kept p inside in
    let at : nth kept (suc i.0) ≡ p = (let e : suc i.0 - 1 ≡ i.0 = omega arith in ap (λ (j : ℕ). slice_index_or kept j 0) e ∙ i.2) in
    let long : length (clauses_at F kept).clauses ≡ length kept = length-map {B = List ℤ} kept (clause_at F) in
    let lt = i.1 in
    let same : clause_at (clauses_at F kept) (suc i.0) ≡ clause_at F p = place_clause F kept (suc i.0) (omega arith) ∙ ap (clause_at F) at in
    subst (λ (c : List ℤ). satisfies (assignment_of t.set) c ≡ true) same
    (h.satisfied (suc i.0) (among-range 1 (length (clauses_at F kept).clauses) (suc i.0) (omega arith) (omega (arith, lt, long)))
    (ap (λ (ps : List ℕ). among ps (suc i.0)) none))

whole : (F : Cnf) (r : MatchingResult) (ψ : Assignment) → is_formula F ≡ true → IsWithinLimits F → IsMatchingResult F (positions_of F) r
    → IsModel F (among r.kept) ψ → IsModel F (all_of F) (extended (assignment_of (set_line F r.own)) ψ F.vars)
whole F r ψ form limits h model = (matching_result_law.reduces F 0 r form limits h).reduction.models ψ model

-- a literal for each variable
variables_again : (b : ℕ → Bool) (vs : List ℕ) → map variable (map (λ v. literal_of v (b v)) vs) ≡ vs
variables_again b [] = refl
variables_again b (v ∷ vs) = rw (on v (b v), variables_again b vs) refl
  where
    on : (v : ℕ) (x : Bool) → variable (literal_of v x) ≡ v
    on v true = refl
    on v false = variable_negative v

-- all of it
pub solve_model_law : SolveModelLaw
solve_model_law = record {
  positions = positions;
  is_part = is_part;
  foreign = foreign;
  part = as_part;
  kernel = kernel;
  whole = whole;
  total = λ φ ψ n. variables_again (extended_value φ ψ) _;
}
