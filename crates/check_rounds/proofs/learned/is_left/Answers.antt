use Rattle.std.proofs.Common.{arith, length}
use Rattle.std.proofs.iter.Serving.{serving}
use Rattle.std.proofs.lemmas.List.Sums.{AllPass-from_list_all}
use Rattle.lk_model.specs.Formulas.Literal.{is_literal}
use Rattle.check_rounds.proofs.learned.is_left.Goals as goal

-- each literal that is looked at is one over the variables
pub any-requires-clause-callable : goal.any-requires-clause-callable
any-requires-clause-callable c =
    let each = AllPass-from_list_all (is_literal (length c.args.blocks.now)) c.args.clause.now c.requires in
    grind (arith, serving, each)
