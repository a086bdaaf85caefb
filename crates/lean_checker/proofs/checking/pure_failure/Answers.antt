use Rattle.std.proofs.Common.{◌≡◌, ◌∙◌, ℕ, map, sym, subst, true}
use Rattle.std.specs.List.{list_all}
use Rattle.lk_model.specs.Lists.{rises_within}
use Rattle.lk_model.specs.Formulas.Literal.{is_literal}
use Rattle.lk_model.specs.Documents.Form.{is_pair}
use Rattle.lk_model.specs.declared.document.Pair.{Pair}
use Rattle.kernel_laws.proofs.Passed.{in_form}
use Rattle.lean_checker.proofs.FirstFailures.{order_fails, pair_fails, pure_parts, set_literals}
use Rattle.lean_checker.proofs.checking.pure_failure.Goals as goal

pub bad_order-requires-clause-set : goal.bad_order-requires-clause-set
bad_order-requires-clause-set g c κs within = subst (λ (n : ℕ). list_all (is_literal n) c.args.d.now.set ≡ true) c.requires.sizes.vars (set_literals c.args.d.now c.requires.form)

pub bad_order-requires-clause-order : goal.bad_order-requires-clause-order
bad_order-requires-clause-order g c κs within =
    subst (λ (n : ℕ). list_all (is_literal n) c.args.order.now ≡ true) c.requires.sizes.vars (pure_parts c.args.d.now c.args.order.now c.args.pairs.now c.requires.form c.requires.body).order_literals

pub returns-in-Some : goal.returns-in-Some
returns-in-Some g c = order_fails c.args.f.now c.args.d.now c.args.order.now c.args.pairs.now c.in-Some.place (sym c.in-Some.is ∙ c.in_ok-place.ensures)

pub bad_pair-requires-clause-kept : goal.bad_pair-requires-clause-kept
bad_pair-requires-clause-kept g c κs within = subst (λ (m : ℕ). rises_within 0 m c.args.d.now.kept ≡ true) c.requires.sizes.clauses (in_form c.args.d.now c.requires.form).kept

pub bad_pair-requires-clause-rising : goal.bad_pair-requires-clause-rising
bad_pair-requires-clause-rising g c κs within =
    subst (λ (n : ℕ). rises_within 0 n (map (λ (q : Pair). q.var) c.args.pairs.now) ≡ true) c.requires.sizes.vars (pure_parts c.args.d.now c.args.order.now c.args.pairs.now c.requires.form c.requires.body).pairs_rise

pub bad_pair-requires-clause-pairs : goal.bad_pair-requires-clause-pairs
bad_pair-requires-clause-pairs g c κs within =
    subst (λ (m : ℕ). list_all (is_pair m) c.args.pairs.now ≡ true) c.requires.sizes.clauses (pure_parts c.args.d.now c.args.order.now c.args.pairs.now c.requires.form c.requires.body).pairs_within

pub returns-in-Some-2 : goal.returns-in-Some-2
returns-in-Some-2 g c = c.failure.ensures ∙ pair_fails c.args.f.now c.args.d.now c.args.order.now c.args.pairs.now c.in-Some-2.place (sym c.in_default.is ∙ c.in_ok-place.ensures) (sym c.in-Some-2.is ∙ c.in_ok-place-2.ensures)
