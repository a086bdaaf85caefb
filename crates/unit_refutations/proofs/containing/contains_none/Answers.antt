use Rattle.std.proofs.Common.{◌≡◌, ◌∙◌, true, List, ℕ, ap, sym}
use Rattle.std.specs.List.{list_all}
use Rattle.std.proofs.lemmas.List.{take_all}
use Rattle.lk_model.specs.Formulas.Literal.{is_literal}
use Rattle.lk_model.proofs.Literals.{literal_at}
use Rattle.unit_refutations.specs.Standing.{are_between}
use Rattle.unit_refutations.proofs.NoneContained.{listed_between, none_at, none_contained}
use Rattle.unit_refutations.proofs.containing.contains_none.Goals as goal

pub none_within-requires-clause-positions : goal.none_within-requires-clause-positions
none_within-requires-clause-positions c =
    let F = c.args.over.now.formula.now in
    let l = c.l-item.result in
    let lit : is_literal F.vars l ≡ true = ap (is_literal F.vars) c.l-item.is ∙ literal_at F.vars c.args.clause.now c.loop-l.l-index l c.requires.literals c.loop-l-test.true in
    ap (λ (ps : List ℕ). are_between F ps) c.positions.ensures ∙ listed_between F c.args.lists.now l c.requires.lists lit

pub returns : goal.returns
returns c = λ e. none_contained c.args.over.now c.args.lists.now c.args.clause.now c.requires.crossed c.requires.lists c.requires.literals
    (ap (list_all (none_at c.args.over.now c.args.lists.now c.args.clause.now)) (sym (take_all c.loop-l.l-index c.args.clause.now c.loop-l-test.false)) ∙ c.loop-l.invariant)
