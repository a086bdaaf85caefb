use Rattle.std.proofs.Common.{◌≡◌, ◌∙◌, ℕ, map, sym, subst, true}
use Rattle.lk_model.specs.Lists.{rises_within}
use Rattle.lk_model.specs.Formulas.Literal.{variable}
use Rattle.lk_model.specs.Documents.Form.{are_own, are_rows}
use Rattle.kernel_laws.proofs.Passed.{in_form}
use Rattle.lean_checker.proofs.MatchingFailures.{owner_fails_first, row_fails_first, matching_parts}
use Rattle.lean_checker.proofs.checking.matching_failure.Goals as goal

pub bad_owner-requires-clause-kept : goal.bad_owner-requires-clause-kept
bad_owner-requires-clause-kept g c κs within = subst (λ (m : ℕ). rises_within 0 m c.args.d.now.kept ≡ true) c.requires.sizes.clauses (in_form c.args.d.now c.requires.form).kept

pub bad_owner-requires-clause-set : goal.bad_owner-requires-clause-set
bad_owner-requires-clause-set g c κs within = subst (λ (n : ℕ). rises_within 0 n (map variable c.args.d.now.set) ≡ true) c.requires.sizes.vars (in_form c.args.d.now c.requires.form).set

pub bad_owner-requires-clause-own : goal.bad_owner-requires-clause-own
bad_owner-requires-clause-own g c κs within =
    let parts = matching_parts c.args.d.now c.args.own.now c.args.rows.now c.requires.form c.requires.body in
    subst (λ (m : ℕ). are_own c.args.f.now.vars m c.args.own.now ≡ true) c.requires.sizes.clauses (subst (λ (n : ℕ). are_own n c.args.d.now.clauses c.args.own.now ≡ true) c.requires.sizes.vars parts.owners)

pub returns-in-Some : goal.returns-in-Some
returns-in-Some g c = c.failure.ensures ∙ owner_fails_first c.args.f.now c.args.d.now c.args.own.now c.args.rows.now c.in-Some.place (sym c.in-Some.is ∙ c.in_ok-place.ensures)

pub bad_row-requires-clause-kept : goal.bad_row-requires-clause-kept
bad_row-requires-clause-kept g c κs within = subst (λ (m : ℕ). rises_within 0 m c.args.d.now.kept ≡ true) c.requires.sizes.clauses (in_form c.args.d.now c.requires.form).kept

pub bad_row-requires-clause-rows : goal.bad_row-requires-clause-rows
bad_row-requires-clause-rows g c κs within =
    let parts = matching_parts c.args.d.now c.args.own.now c.args.rows.now c.requires.form c.requires.body in
    subst (λ (m : ℕ). are_rows c.args.f.now.vars m c.args.rows.now ≡ true) c.requires.sizes.clauses (subst (λ (n : ℕ). are_rows n c.args.d.now.clauses c.args.rows.now ≡ true) c.requires.sizes.vars parts.rows_are)

pub returns-in-Some-2 : goal.returns-in-Some-2
returns-in-Some-2 g c =
    c.failure-in-Some-2.ensures ∙ row_fails_first c.args.f.now c.args.d.now c.args.own.now c.args.rows.now c.in-Some-2.place (sym c.in_default.is ∙ c.in_ok-place.ensures) (sym c.in-Some-2.is ∙ c.in_ok-place-2.ensures)
