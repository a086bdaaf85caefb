use Rattle.std.proofs.Common.{◌≡◌, ◌∙◌, ℕ, ℤ, List, map, ap, subst, true}
use Rattle.lk_model.specs.Lists.{rises_within}
use Rattle.lk_model.specs.Formulas.Literal.{variable}
use Rattle.lk_model.specs.Formulas.Assignment.{assignment_of}
use Rattle.kernel_laws.proofs.Passed.{in_form}
use Rattle.lean_checker.proofs.common.marks_of.Goals as goal

pub assignment_of-requires-clause-rising : goal.assignment_of-requires-clause-rising
assignment_of-requires-clause-rising c =
    rw (c.as_slice.ensures, c.vars.ensures.value) (subst (λ (n : ℕ). rises_within 0 n (map variable c.args.d.now.set) ≡ true) c.requires.sizes.vars (in_form c.args.d.now c.requires.form).set)

pub kept_flags-requires : goal.kept_flags-requires
kept_flags-requires c = rw (c.as_slice-2.ensures, c.len.ensures.value) (subst (λ (m : ℕ). rises_within 0 m c.args.d.now.kept ≡ true) c.requires.sizes.clauses (in_form c.args.d.now c.requires.form).kept)

pub returns-clause-values : goal.returns-clause-values
returns-clause-values c = c.in_ok-assignment_of.ensures.values ∙ ap (λ (ls : List ℤ). assignment_of ls) c.as_slice.ensures
