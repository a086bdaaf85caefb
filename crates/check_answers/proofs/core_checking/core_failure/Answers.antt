use Rattle.std.proofs.Common.{◌≡◌, ◌∙◌, ℕ, true, subst, Some}
use Rattle.lk_model.specs.Lists.{rises_within}
use Rattle.lk_model.specs.declared.verdict.Kind.TheVariants.{KeptClause}
use Rattle.check_answers.proofs.CoreFailures.{why_of, clause_here}
use Rattle.lk_model.proofs.CoreForms.{core_form}
use Rattle.check_answers.proofs.core_checking.core_failure.Goals as goal

pub changed_clause-requires-clause-positions : goal.changed_clause-requires-clause-positions
changed_clause-requires-clause-positions c =
    subst (λ (m : ℕ). rises_within 0 m c.args.a.now.core ≡ true) c.requires.clauses (core_form c.args.a.now c.requires.form).core

pub changed_clause-requires-clause-lines : goal.changed_clause-requires-clause-lines
changed_clause-requires-clause-lines c = (core_form c.args.a.now c.requires.form).texts_count

pub returns-in-Some : goal.returns-in-Some
returns-in-Some c =
    (λ j. Some (why_of KeptClause (c.from.ensures j)))
    ∙ clause_here c.args.f.now c.args.a.now c.changed_clause.result c.in-Some.position c.in-Some.is c.changed_clause.ensures
