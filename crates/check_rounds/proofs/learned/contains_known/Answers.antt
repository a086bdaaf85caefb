use Rattle.std.proofs.Common.{arith}
use Rattle.std.proofs.iter.Serving.{serving}
use Rattle.std.proofs.lemmas.List.Sums.{AllPass-from_list_all}
use Rattle.lk_model.specs.Formulas.Literal.{is_literal}
use Rattle.check_rounds.proofs.learned.contains_known.Goals as goal

-- each literal that is looked at is one over the variables
pub any-requires-clause-callable : goal.any-requires-clause-callable
any-requires-clause-callable c =
    let each = AllPass-from_list_all (is_literal c.args.over.now.formula.now.vars) c.args.clause.now c.requires.clause in
    grind (arith, serving, each)
