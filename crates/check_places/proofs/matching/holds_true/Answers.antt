use Rattle.std.proofs.Common.{length, arith}
use Rattle.std.proofs.iter.Serving.{serving}
use Rattle.std.proofs.lemmas.List.Sums.{AllPass-from_list_all}
use Rattle.lk_model.specs.Formulas.Literal.{is_literal}
use Rattle.check_places.proofs.matching.holds_true.Goals as goal

-- each literal that is looked at is one of the assignment's variables
pub any-requires-clause-callable : goal.any-requires-clause-callable
any-requires-clause-callable c =
    let each = AllPass-from_list_all (is_literal (length c.args.values.now)) c.args.clause.now c.requires in
    grind (arith, serving, each)
