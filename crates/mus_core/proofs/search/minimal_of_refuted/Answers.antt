use Rattle.std.proofs.Common.{◌∙◌, ℕ, List, ap, subst}
use Rattle.lk_model.specs.Formulas.Formula.{positions_of}
use Rattle.part_copy.specs.Copies.{IsCopyOf}
use Rattle.mus_core.proofs.Beginning.{filled_part, first_refuted}
use Rattle.mus_core.proofs.search.minimal_of_refuted.Goals as goal

pub shrink-requires-clause-filled : goal.shrink-requires-clause-filled
shrink-requires-clause-filled c =
    let F = c.args.f.now in
    let core = c.in_ok-core.core in
    filled_part F c.args.found.used core (subst (λ (ps : List ℕ). IsCopyOf F ps core) c.as_slice.ensures c.in_ok-core.ensures) c.requires.refuted.positions c.requires.filled

pub shrink-requires-clause-refuted : goal.shrink-requires-clause-refuted
shrink-requires-clause-refuted c =
    let F = c.args.f.now in
    let core = c.in_ok-core.core in
    first_refuted F c.args.found.used core c.args.conflicts c.args.found.round c.in_ok-used.used (subst (λ (ps : List ℕ). IsCopyOf F ps core) c.as_slice.ensures c.in_ok-core.ensures)
    c.clauses.ensures.copy c.requires.refuted.refuted (c.in_ok-used.ensures.value ∙ ap positions_of c.clauses.ensures.clauses)
