use Rattle.std.proofs.Common.{rules, ◌≡◌, false}
use Rattle.lk_model.specs.Lists.{is_empty}
use Rattle.lk_model.specs.Formulas.Literal.{is_tautology}
use Rattle.lk_model.specs.Held.VariableSets.{premises_of}
use Rattle.lk_model.specs.Chains.Chain.{is_learned}
use Rattle.lk_model.proofs.Booleans.{or_right}
use Rattle.crossed_copy.proofs.Learning.{learned_by}
use Rattle.crossed_copy.proofs.learned.is_learned.Goals as goal

pub returns : goal.returns
returns c = λ e.
    let filled : is_empty c.args.clause.now ≡ false = search rules in
    let plain : is_tautology c.args.clause.now ≡ false = search rules in
    or_right (is_empty c.args.clause.now) (is_learned (premises_of c.args.over.now c.args.earlier.now) c.args.clause.now)
    (learned_by c.args.over.now c.args.earlier.now c.args.clause.now filled plain (search rules) (c.contains_none.ensures e))
