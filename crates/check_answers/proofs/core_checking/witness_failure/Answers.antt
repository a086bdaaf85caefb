use Rattle.std.proofs.Common.{◌≡◌, ◌∙◌, ℕ, List, true, length, ap, sym, subst, Some}
use Rattle.std.specs.List.{list_all}
use Rattle.lk_model.specs.Lists.{rises_within}
use Rattle.lk_model.specs.Documents.CoreText.{are_for, is_without}
use Rattle.lk_model.specs.declared.verdict.Kind.TheVariants.{BadWithout}
use Rattle.check_answers.proofs.CoreFailures.{why_of, without_here}
use Rattle.lk_model.proofs.CoreForms.{core_form}
use Rattle.check_answers.proofs.CoreWitnesses.{same_count}
use Rattle.check_answers.proofs.core_checking.witness_failure.Goals as goal

pub bad_without-requires-clause-positions : goal.bad_without-requires-clause-positions
bad_without-requires-clause-positions c =
    ap (λ (ps : List ℕ). rises_within 0 (length c.args.f.now.clauses) ps) c.as_slice.ensures
    ∙ subst (λ (m : ℕ). rises_within 0 m c.args.a.now.core ≡ true) c.requires.clauses (core_form c.args.a.now c.requires.form).core

pub bad_without-requires-clause-lines : goal.bad_without-requires-clause-lines
bad_without-requires-clause-lines c = (λ i. are_for (c.as_slice.ensures i) (c.as_slice-2.ensures i)) ∙ (core_form c.args.a.now c.requires.form).lines

pub bad_without-requires-clause-count : goal.bad_without-requires-clause-count
bad_without-requires-clause-count c =
    same_count c.as_slice.result.now c.as_slice-2.result.now ((λ i. are_for (c.as_slice.ensures i) (c.as_slice-2.ensures i)) ∙ (core_form c.args.a.now c.requires.form).lines)

pub bad_without-requires-clause-literals : goal.bad_without-requires-clause-literals
bad_without-requires-clause-literals c =
    (λ i. list_all (is_without (sym c.requires.vars i)) (c.as_slice-2.ensures i)) ∙ (core_form c.args.a.now c.requires.form).literals

pub returns-in-Some : goal.returns-in-Some
returns-in-Some c =
    (λ j. Some (why_of BadWithout (c.from.ensures j)))
    ∙ without_here c.args.f.now c.args.a.now c.as_slice.result.now c.as_slice-2.result.now c.in_ok-position.field-0 c.in-Some.position c.as_slice.ensures c.as_slice-2.ensures
    c.in-Some.is c.in_ok-position.ensures
