use Rattle.std.proofs.Common.{length, arith}
use Rattle.std.proofs.iter.Serving.{serving}
use Rattle.std.specs.List.{list_all}
use Rattle.std.proofs.lemmas.List.Sums.{AllPass-from_list_all}
use Rattle.lk_model.specs.Formulas.Literal.{is_literal, is_distinct}
use Rattle.lk_model.proofs.Booleans.{and_true}
use Rattle.linear_kernel.proofs.weighted.touches.Goals as goal

-- each literal that is looked at is one of a variable from 1 to n
pub any-requires-clause-callable : goal.any-requires-clause-callable
any-requires-clause-callable c =
    let all = (and_true (list_all (is_literal (length c.args.set.now)) c.args.clause.now) (is_distinct c.args.clause.now) c.requires).0 in
    let each = AllPass-from_list_all (is_literal (length c.args.set.now)) c.args.clause.now all in
    grind (arith, serving, each)
