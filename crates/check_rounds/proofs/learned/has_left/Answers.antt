use Rattle.std.proofs.Common.{arith, length}
use Rattle.std.proofs.iter.Serving.{serving}
use Rattle.std.proofs.lemmas.List.Sums.{AllPass-from_list_all}
use Rattle.lk_model.specs.Formulas.Literal.{is_literal}
use Rattle.check_rounds.proofs.learned.has_left.Goals as goal

-- each literal that is looked at is one over the variables
pub all-requires-clause-callable : goal.all-requires-clause-callable
all-requires-clause-callable c =
    let each = AllPass-from_list_all (is_literal (length c.args.blocks.now)) c.args.clause.now c.requires.clause in
    grind (arith, serving, each)
