-- The unit lines of a document in form that the checks pass.
use Rattle.std.proofs.Common.{◌≡◌, ℕ, ◌∙◌, Bool, true, false, cond, not, ◌&&◌, ◌||◌, ◌==◌, List, refl, sym, subst, None, ℤ, pos}
use Rattle.std.specs.List.{list_any}
use Rattle.std.specs.Ordering.{int_eq}
use Rattle.std.proofs.lemmas.Bool.{both_ways, not-false, eq-eqb, ne_eqb, cond-true, cond-false, false_from_ne_true}
use Rattle.std.proofs.lemmas.Bool.Decides.{Decides-int_eq}
use Rattle.lk_model.specs.Lists.{among, is_zero}
use Rattle.lk_model.specs.Formulas.Formula.{Cnf, is_formula, variables_to, variable_occurs}
use Rattle.lk_model.specs.Formulas.Crossed.{no_variable}
use Rattle.lk_model.specs.Formulas.Balance.{balance_in}
use Rattle.lk_model.specs.Documents.Documents.{unit_of, shares_at}
use Rattle.lk_model.specs.Checks.Check.{line_fails}
use Rattle.lk_model.specs.Checks.LinearChecks.{bad_unit}
use Rattle.lk_model.specs.declared.document.Share.{Share}
use Rattle.lk_model.specs.declared.document.Unit.{Unit}
use Rattle.lk_model.specs.declared.document.DoneDocument.{DoneDocument}
use Rattle.lk_model.proofs.Booleans.{or_false}
use Rattle.lk_model.proofs.Founds.{none_to, up_to_bounds}
use Rattle.lk_model.proofs.ListTests.{passes_among}
use Rattle.kernel_laws.proofs.Lines.{in_map, fails_in, has_line}
use Rattle.kernel_laws.proofs.Occurrences.{occurring}
use Rattle.kernel_laws.proofs.Tests.{second_fails}
use Rattle.linear_laws.proofs.LinearLean.{HasUnit}

-- a share is of no kept clause
abbrev is_strange : DoneDocument → Share → Bool
is_strange d s = not (among d.kept s.pos)

-- w occurs, and the balance of the shares in it is not what it is to be
abbrev is_off : Cnf → DoneDocument → Unit → ℕ → ℕ → Bool
is_off F d u v w = variable_occurs F d.kept w && not (int_eq (balance_in F (shares_at u) w) (cond (w == v) u.d (pos 0)))

-- a unit line of v is bad
abbrev is_bad : Cnf → DoneDocument → ℕ → Unit → Bool
is_bad F d v u = is_zero u.d || list_any (is_strange d) u.shares || list_any (is_off F d u v) (variables_to F.vars)

-- what the check says of a variable
unit_passes : (F : Cnf) (d : DoneDocument) (units : List Unit) (v : ℕ) → (bad_unit no_variable F d units).place ≡ None → among (variables_to F.vars) v ≡ true
    → line_fails (variable_occurs F d.kept v) (unit_of units v) (is_bad F d v) ≡ false
unfolding bad_unit
unit_passes F d units v e there = let b = up_to_bounds F.vars v there in
    none_to (λ v. line_fails (variable_occurs F d.kept v) (unit_of units v) (is_bad F d v)) F.vars v e b.0 b.1

-- a unit line that is not bad has the balances of a unit
unit_of_line : (F : Cnf) (d : DoneDocument) (v : ℕ) (u : Unit) → is_formula F ≡ true → variable_occurs F d.kept v ≡ true → is_bad F d v u ≡ false → HasUnit F d.kept v
unit_of_line F d v u form occurs e =
    let a = or_false (is_zero u.d || list_any (is_strange d) u.shares) (list_any (is_off F d u v) (variables_to F.vars)) e in
    let b = or_false (is_zero u.d) (list_any (is_strange d) u.shares) a.0 in
    record {
      d = u.d;
      shares = shares_at u;
      some = λ z. both_ways (is_zero u.d) b.0 ((Decides-int_eq (pos 0) u.d).1 (sym z));
      within = λ e i.
          let w = in_map (λ (s : Share). (let x : ℕ × ℤ = (s.pos, s.z) in x)) u.shares e i in
          subst (λ (x : ℕ × ℤ). among d.kept x.0 ≡ true) w.2 (not-false (among d.kept w.0.pos) (fails_in (is_strange d) u.shares w.0 b.1 w.1));
      itself = balance_at v occurs a.1 ∙ cond-true (v == v) u.d (pos 0) (eq-eqb v v refl);
      others = λ w i n. balance_at w i a.1 ∙ cond-false (w == v) u.d (pos 0) (ne_eqb w v n);
    }
  where
    balance_at : (w : ℕ) → variable_occurs F d.kept w ≡ true → list_any (is_off F d u v) (variables_to F.vars) ≡ false → balance_in F (shares_at u) w ≡ cond (w == v) u.d (pos 0)
    balance_at w o none =
        let there = occurring F d.kept w form o in
        let fine = false_from_ne_true (is_off F d u v w) (λ t. both_ways (list_any (is_off F d u v) (variables_to F.vars)) none (passes_among (is_off F d u v) (variables_to F.vars) w there t)) in
        (Decides-int_eq (balance_in F (shares_at u) w) (cond (w == v) u.d (pos 0))).0 (not-false (int_eq (balance_in F (shares_at u) w) (cond (w == v) u.d (pos 0))) (second_fails (variable_occurs F d.kept w) _ o fine))

-- each variable of the kept clauses has a unit
pub units_by_check : (F : Cnf) (d : DoneDocument) (units : List Unit) → is_formula F ≡ true → (bad_unit no_variable F d units).place ≡ None
    → (v : ℕ) → variable_occurs F d.kept v ≡ true → HasUnit F d.kept v
units_by_check F d units form e v occurs =
    let there = occurring F d.kept v form occurs in
    let line = has_line (variable_occurs F d.kept v) (unit_of units v) (is_bad F d v) (unit_passes F d units v e there) occurs in
    unit_of_line F d v line.value form occurs line.good
