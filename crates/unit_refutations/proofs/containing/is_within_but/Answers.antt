use Rattle.std.proofs.Common.{length, arith}
use Rattle.std.proofs.iter.Serving.{serving}
use Rattle.std.proofs.lemmas.List.Sums.{AllPass-from_list_all}
use Rattle.lk_model.specs.Formulas.Literal.{is_literal, is_distinct}
use Rattle.lk_model.proofs.Booleans.{and_true}
use Rattle.unit_refutations.proofs.containing.is_within_but.Goals as goal

-- each literal that is looked at is one of a variable from 1 to n
pub all-requires-clause-callable : goal.all-requires-clause-callable
all-requires-clause-callable c =
    let each = AllPass-from_list_all (is_literal (length c.args.blocked.now)) c.args.clause.now (and_true _ (is_distinct c.args.clause.now) c.requires).0 in
    grind (arith, serving, each)
