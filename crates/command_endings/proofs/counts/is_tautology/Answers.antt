use Rattle.std.proofs.Common.{◌∙◌, ap, take}
use Rattle.std.specs.List.{list_all}
use Rattle.lk_model.specs.Formulas.Literal.{contains, is_literal, is_distinct}
use Rattle.lk_model.specs.Held.Growing.{Growing}
use Rattle.lk_model.proofs.Literals.{new_at}
use Rattle.lk_model.proofs.Booleans.{and_true}
use Rattle.command_endings.proofs.counts.is_tautology.Goals as goal

-- a literal does not stand among those before it
pub push-requires-clause-absent : goal.push-requires-clause-absent
push-requires-clause-absent c =
    let clause = c.args.clause.now in
    let i = c.loop-l.l-index in
    let l = c.l-item.result in
    let distinct = (and_true (list_all (is_literal c.args.growing.now.vars) clause) (is_distinct clause) c.requires.clause).1 in
    ap (λ (g : Growing). contains g.literals l) c.loop-l.invariant ∙ ap (contains (take i clause)) c.l-item.is ∙ new_at clause i l distinct c.loop-l-test.true
