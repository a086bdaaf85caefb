-- Pairs of kept clauses for the variables of the kept clauses show that these are lean; a rest without a pure literal has them.
use Rattle.std.proofs.Common.{◌≡◌, ℕ, ◌∙◌, Bool, true, false, not, ◌||◌, ◌&&◌, cond, List, map, refl, sym, ap, subst, arith, ℤ, pos, negsuc, neg_ℤ, Option, Some, None, unwrap_or, inl, inr}
use Rattle.std.proofs.lemmas.Bool.{not-false}
use Rattle.std.proofs.lemmas.List.{map-id}
use Rattle.std.proofs.lemmas.Simd.{map-map}
use Rattle.std.proofs.Math.Bool.{and-true}
use Rattle.lk_model.specs.declared.class.Class.TheVariants.{Pure}
use Rattle.lk_model.specs.declared.document.DoneDocument.{DoneDocument}
use Rattle.lk_model.specs.declared.document.Pair.{Pair}
use Rattle.lk_model.specs.Lists.{among, up_to, rises_within}
use Rattle.lk_model.specs.Formulas.Literal.{variable, complement, contains, mentions}
use Rattle.lk_model.specs.Formulas.Formula.{Cnf, clause_at, is_formula, variables_to, literal_occurs, variable_occurs, variables_at}
use Rattle.lk_model.specs.Formulas.Crossed.{no_variable}
use Rattle.lk_model.specs.Formulas.Autarky.{Positions}
use Rattle.lk_model.specs.Formulas.Lean.{IsLean}
use Rattle.lk_model.specs.Formulas.PureRun.{least_pure, least_with, least_pairs}
use Rattle.lk_model.specs.Documents.Documents.{pair_of}
use Rattle.lk_model.specs.Checks.Check.{line_fails, is_kept_with}
use Rattle.lk_model.specs.Checks.PureChecks.{bad_pair}
use Rattle.lk_model.proofs.Booleans.{and_true, or_true, or_false}
use Rattle.lk_model.proofs.Counting.{among-filter}
use Rattle.lk_model.proofs.Founds.{none_found, first_found, pair_found, filtered_rise, up_to_bounds}
use Rattle.lk_model.proofs.ListTests.{passes_among, literal_within, not_zero, passing}
use Rattle.kernel_laws.proofs.Lines.{none_among, has_line}
use Rattle.kernel_laws.proofs.Clauses.{mentions_or}
use Rattle.kernel_laws.proofs.Occurrences.{occurring, occurs_here}
use Rattle.pure_laws.specs.PureLaw.{StandsIn}
use Rattle.pure_laws.proofs.BothSigns.{HasBothSigns, pure_lean}
use Rattle.pure_laws.proofs.PureLiterals.{both_signs, complement_occurs}

-- LEAN BY BOTH SIGNS

-- clauses that contain each of their literals in both signs are lean
pub signs_lean : (F : Cnf) (S : Positions) → is_formula F ≡ true → HasBothSigns F S → IsLean Pure F S
signs_lean F S form both = pure_lean F S both (λ p l there. not_zero F.vars l (literal_within F p l form there))

-- and so are positions without a pure literal
pub lean_rest : (F : Cnf) (ps : List ℕ) → is_formula F ≡ true → least_pure F ps ≡ None → IsLean Pure F (among ps)
lean_rest F ps form none = signs_lean F (among ps) form (λ l w.
    let occurs : literal_occurs F ps l ≡ true = passes_among (λ p. contains (clause_at F p) l) ps w.0 w.1 w.2 in
    passing (λ p. contains (clause_at F p) (complement l)) ps (complement_occurs F ps l none (literal_within F w.0 l form w.2) ∙ occurs))

-- LEAN BY PAIRS

-- the pair is not one of kept clauses, of which one contains the variable and one its complement
abbrev is_bad : Cnf → List ℕ → ℕ → Pair → Bool
is_bad F kept v q = not (is_kept_with F kept q.with (λ c. contains c (pos v))) || not (is_kept_with F kept q.against (λ c. contains c (complement (pos v))))

-- the two clauses of a pair
record HasPair (F : Cnf) (kept : List ℕ) (v : ℕ) : Type 0 where
  with_it : StandsIn F (among kept) (pos v)
  against_it : StandsIn F (among kept) (complement (pos v))

-- a variable that occurs in a kept clause has a pair
has_pair : (F : Cnf) (d : DoneDocument) (pairs : List Pair) (v : ℕ) → is_formula F ≡ true → (bad_pair no_variable F d pairs).place ≡ None → variable_occurs F d.kept v ≡ true → HasPair F d.kept v
unfolding bad_pair
has_pair F d pairs v form none there =
    let passes = none_among (λ w. line_fails (variable_occurs F d.kept w) (pair_of pairs w) (is_bad F d.kept w)) (variables_to F.vars) v none (occurring F d.kept v form there) in
    let line = has_line (variable_occurs F d.kept v) (pair_of pairs v) (is_bad F d.kept v) passes there in
    let q = line.value in
    let parts = or_false (not (is_kept_with F d.kept q.with (λ c. contains c (pos v)))) (not (is_kept_with F d.kept q.against (λ c. contains c (complement (pos v))))) line.good in
    let one = and_true (among d.kept q.with) _ (not-false _ parts.0) in
    let other = and_true (among d.kept q.against) _ (not-false _ parts.1) in
    record { with_it = (q.with, one.0, one.1); against_it = (q.against, other.0, other.1) }

-- so the kept clauses are lean
pub pairs_lean : (F : Cnf) (d : DoneDocument) (pairs : List Pair) → is_formula F ≡ true → (bad_pair no_variable F d pairs).place ≡ None → IsLean Pure F (among d.kept)
pairs_lean F d pairs form none = signs_lean F (among d.kept) form (λ l w.
    other l (has_pair F d pairs (variable l) form none (occurs_here F d.kept w.0 l w.1 w.2)))
  where
    other : (l : ℤ) → HasPair F d.kept (variable l) → StandsIn F (among d.kept) (complement l)
    other (pos v) q = q.against_it
    other (negsuc k) q = q.with_it

-- THE LEAST PAIRS

-- the pair of a variable
abbrev pub pair_at : Cnf → List ℕ → ℕ → Pair
pair_at F ps v = record {
  var = v;
  with = unwrap_or (least_with F ps (pos v)) 0;
  against = unwrap_or (least_with F ps (neg_ℤ (pos v))) 0;
}

-- one of the positions, whose clause contains the literal
pub record Holds (F : Cnf) (ps : List ℕ) (l : ℤ) (p : ℕ) : Type 0 where
  pub listed : among ps p ≡ true
  pub holds : contains (clause_at F p) l ≡ true

-- the positions of the pair contain the variable and its complement
pub record IsHeld (F : Cnf) (ps : List ℕ) (v : ℕ) : Type 0 where
  pub with_it : Holds F ps (pos v) (pair_at F ps v).with
  pub against_it : Holds F ps (neg_ℤ (pos v)) (pair_at F ps v).against

-- the least position whose clause contains a literal that occurs
least_holds : (F : Cnf) (ps : List ℕ) (l : ℤ) → literal_occurs F ps l ≡ true → Holds F ps l (unwrap_or (least_with F ps l) 0)
least_holds F ps l e = let w = first_found (λ p. contains (clause_at F p) l) ps e in record { listed = w.0; holds = w.1 }

-- where no literal is pure, a variable that occurs has its pair
pub is_held : (F : Cnf) (ps : List ℕ) (v : ℕ) → least_pure F ps ≡ None → among (up_to F.vars) v ≡ true → variable_occurs F ps v ≡ true → IsHeld F ps v
is_held F ps v none there e =
    let b = up_to_bounds F.vars v there in
    let same = both_signs F ps v none (omega (arith, b.0)) b.1 in
    let w = passing (λ p. mentions (clause_at F p) v) ps e in
    let some = or_true (contains (clause_at F w.0) (pos v)) (contains (clause_at F w.0) (neg_ℤ (pos v))) (sym (mentions_or (clause_at F w.0) v) ∙ w.2) in
    let plus : literal_occurs F ps (pos v) ≡ true = elim some [
      | inl here ↦ passes_among (λ p. contains (clause_at F p) (pos v)) ps w.0 w.1 here
      | inr here ↦ same ∙ passes_among (λ p. contains (clause_at F p) (neg_ℤ (pos v))) ps w.0 w.1 here
    ] in
    record { with_it = least_holds F ps (pos v) plus; against_it = least_holds F ps (neg_ℤ (pos v)) (sym same ∙ plus) }

-- the pair that is listed for a variable: its own where it occurs, and none elsewhere
listed_pair : (F : Cnf) (ps : List ℕ) (v : ℕ) → among (up_to F.vars) v ≡ true → pair_of (least_pairs F ps) v ≡ cond (variable_occurs F ps v) (Some (pair_at F ps v)) None
listed_pair F ps v there =
    pair_found (pair_at F ps) (variables_at F ps) v (λ w. refl)
    ∙ ap (λ (b : Bool). cond b (Some (pair_at F ps v)) None) (among-filter (variable_occurs F ps) (up_to F.vars) v ∙ ap (λ (b : Bool). variable_occurs F ps v && b) there ∙ and-true (variable_occurs F ps v))

-- the pairs rise by their variables
pub pairs_rise : (F : Cnf) (ps : List ℕ) → rises_within 0 F.vars (map (λ (q : Pair). q.var) (least_pairs F ps)) ≡ true
pairs_rise F ps =
    let vars : map (λ (q : Pair). q.var) (least_pairs F ps) ≡ variables_at F ps = map-map (λ (q : Pair). q.var) (pair_at F ps) (variables_at F ps) ∙ map-id (variables_at F ps) in
    subst (λ (vs : List ℕ). rises_within 0 F.vars vs ≡ true) (sym vars) (filtered_rise F.vars (variable_occurs F ps))

-- a listed pair is good where the variable occurs
good_line : (F : Cnf) (kept : List ℕ) (v : ℕ) (b : Bool) → variable_occurs F kept v ≡ b → (b ≡ true → IsHeld F kept v)
    → line_fails b (cond b (Some (pair_at F kept v)) None) (is_bad F kept v) ≡ false
good_line F kept v false e h = refl
good_line F kept v true e h =
    let held = h refl in
    rw (held.with_it.listed, held.with_it.holds, held.against_it.listed, held.against_it.holds) refl

-- so the check of the least pairs passes
pub pairs_pass : (F : Cnf) (d : DoneDocument) (pairs : List Pair) → least_pure F d.kept ≡ None → pairs ≡ least_pairs F d.kept → (bad_pair no_variable F d pairs).place ≡ None
unfolding bad_pair
pairs_pass F d pairs none same =
    none_found _ (up_to F.vars) (λ v there.
    let is : pair_of pairs v ≡ cond (variable_occurs F d.kept v) (Some (pair_at F d.kept v)) None = ap (λ (ps : List Pair). pair_of ps v) same ∙ listed_pair F d.kept v there in
    ap (λ (o : Option Pair). line_fails (variable_occurs F d.kept v) o (is_bad F d.kept v)) is
    ∙ good_line F d.kept v (variable_occurs F d.kept v) refl (is_held F d.kept v none there))
