use Rattle.std.proofs.Common.{length, arith}
use Rattle.std.proofs.iter.Serving.{serving}
use Rattle.std.proofs.lemmas.List.Sums.{AllPass-from_list_all}
use Rattle.lk_model.specs.Formulas.Literal.{is_literal}
use Rattle.cdcl_core.proofs.minimizing.has_only.Goals as goal

-- each literal that is looked at is one of a variable from 1 to n
pub all-requires-clause-callable : goal.all-requires-clause-callable
all-requires-clause-callable c =
    let each = AllPass-from_list_all (is_literal (length c.args.marks.now)) c.args.lits.now c.requires in
    grind (arith, serving, each)
