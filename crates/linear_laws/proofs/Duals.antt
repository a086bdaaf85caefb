-- The dual lines of a document in form that the checks pass.
use Rattle.std.proofs.Common.{◌≡◌, ℕ, ◌<◌, ◌≤◌, Bool, true, false, not, ◌&&◌, ◌==◌, List, length, map, subst, arith, inl, inr, Contains, None, ℤ, pos, ◌<ℤ◌, int_lt}
use Rattle.std.specs.List.{list_all}
use Rattle.std.proofs.lemmas.Int.{ints}
use Rattle.std.proofs.lemmas.Bool.{not-false, cases_Bool, eqb-true}
use Rattle.lk_model.specs.Lists.{among, is_nonzero, rises_within}
use Rattle.lk_model.specs.Limits.{is_in_range}
use Rattle.lk_model.specs.Formulas.Formula.{Cnf, variables_to, variable_occurs}
use Rattle.lk_model.specs.Formulas.Balance.{balance_in}
use Rattle.lk_model.specs.Formulas.Crossed.{no_variable}
use Rattle.lk_model.specs.Formulas.Lean.{are_positions}
use Rattle.lk_model.specs.Documents.Documents.{dual_of, duals_at}
use Rattle.lk_model.specs.Documents.Form.{are_duals}
use Rattle.lk_model.specs.Checks.Check.{line_fails}
use Rattle.lk_model.specs.Checks.LinearChecks.{bad_dual, bad_balance}
use Rattle.lk_model.specs.declared.document.Dual.{Dual}
use Rattle.lk_model.specs.declared.document.DoneDocument.{DoneDocument}
use Rattle.lk_model.proofs.Booleans.{and_true, or_false}
use Rattle.lk_model.proofs.Rising.{bounded}
use Rattle.lk_model.proofs.Founds.{none_to, up_to_bounds}
use Rattle.lk_model.proofs.Keys.{key_among}
use Rattle.lk_model.proofs.ListTests.{zero_is}
use Rattle.kernel_laws.proofs.Lines.{map_in, in_map, found_in, found_itself, has_line, found_passes}
use Rattle.kernel_laws.proofs.Tests.{second_fails}
use Rattle.linear_laws.proofs.LinearLean.{HasDuals, balance_absent}

-- the dual is below 1
abbrev is_low : Dual → Bool
is_low y = int_lt y.y (pos 1)

-- what the check says of a position
dual_passes : (F : Cnf) (d : DoneDocument) (dual : List Dual) (p : ℕ) → (bad_dual F d dual).place ≡ None → 0 < p → p ≤ length F.clauses
    → line_fails (among d.kept p) (dual_of dual p) is_low ≡ false
unfolding bad_dual
dual_passes F d dual p e least most = none_to (λ p. line_fails (among d.kept p) (dual_of dual p) is_low) (length F.clauses) p e least most

-- what the check says of a variable
balance_passes : (F : Cnf) (d : DoneDocument) (dual : List Dual) (v : ℕ) → (bad_balance no_variable F d dual).place ≡ None → among (variables_to F.vars) v ≡ true
    → (variable_occurs F d.kept v && is_nonzero (balance_in F (duals_at dual) v)) ≡ false
unfolding bad_balance
balance_passes F d dual v e there = let b = up_to_bounds F.vars v there in
    none_to (λ v. variable_occurs F d.kept v && is_nonzero (balance_in F (duals_at dual) v)) F.vars v e b.0 b.1

-- a position and a number
abbrev pair_of_dual : Dual → ℕ × ℤ
pair_of_dual y = (y.pos, y.y)

-- a number that is not below 1
some_number : (z : ℤ) → int_lt z (pos 1) ≡ false → pos 0 <ℤ z
some_number z e = grind (arith, ints)

-- each dual line is one of a kept position, and positive
dual_line : (F : Cnf) (d : DoneDocument) (dual : List Dual) (y : Dual) → are_duals (length F.clauses) dual ≡ true → (bad_dual F d dual).place ≡ None → Contains dual y
    → (among d.kept y.pos ≡ true) × (pos 0 <ℤ y.y)
dual_line F d dual y form e there =
    let key = λ (y : Dual). y.pos in
    let rising = (and_true (rises_within 0 (length F.clauses) (map key dual)) (list_all (λ (y : Dual). is_in_range y.y) dual) form).0 in
    let b = bounded 0 (length F.clauses) (map key dual) y.pos rising (key_among key dual y there) in
    let passes = subst (λ o. line_fails (among d.kept y.pos) o is_low ≡ false) (found_itself key 0 (length F.clauses) dual y rising there) (dual_passes F d dual y.pos e b.0 b.1) in
    let both = or_false (not (among d.kept y.pos)) (is_low y) passes in
    (not-false (among d.kept y.pos) both.0, some_number y.y both.1)

-- the dual lines are the duals that make the kept positions lean
pub duals_by_check : (F : Cnf) (d : DoneDocument) (dual : List Dual) → are_positions F d.kept ≡ true → are_duals (length F.clauses) dual ≡ true
    → (bad_dual F d dual).place ≡ None → (bad_balance no_variable F d dual).place ≡ None → HasDuals F d.kept
duals_by_check F d dual rise form e f = record {
  duals = duals_at dual;
  each = λ p there.
      let b = bounded 0 (length F.clauses) d.kept p rise there in
      let line = has_line (among d.kept p) (dual_of dual p) is_low (dual_passes F d dual p e b.0 b.1) there in
      let at : line.value.pos ≡ p = eqb-true line.value.pos p (found_passes (λ (y : Dual). y.pos == p) dual line.value line.is) in
      (line.value.y, subst (λ q. Contains (duals_at dual) (q, line.value.y)) at (map_in pair_of_dual dual line.value (found_in (λ (y : Dual). y.pos == p) dual line.value line.is)));
  positive = positive;
  balanced = balanced;
}
  where
    positive : (x : ℕ × ℤ) → Contains (duals_at dual) x → (among d.kept x.0 ≡ true) × (pos 0 <ℤ x.1)
    positive x i =
        let w = in_map pair_of_dual dual x i in
        subst (λ (x : ℕ × ℤ). (among d.kept x.0 ≡ true) × (pos 0 <ℤ x.1)) w.2 (dual_line F d dual w.0 form e w.1)

    balanced : (v : ℕ) → among (variables_to F.vars) v ≡ true → balance_in F (duals_at dual) v ≡ pos 0
    balanced v there = elim (cases_Bool (variable_occurs F d.kept v)) [
      | inl y ↦ zero_is (balance_in F (duals_at dual) v) (second_fails (variable_occurs F d.kept v) _ y (balance_passes F d dual v f there))
      | inr n ↦ balance_absent F d.kept (duals_at dual) v (λ e i. (positive e i).0) n
    ]
