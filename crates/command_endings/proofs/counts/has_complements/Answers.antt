use Rattle.std.proofs.Common.{arith}
use Rattle.std.proofs.iter.Serving.{serving}
use Rattle.std.proofs.lemmas.List.Sums.{AllPass-from_list_all}
use Rattle.lk_model.specs.Formulas.Literal.{is_literal, is_distinct}
use Rattle.lk_model.proofs.Booleans.{and_true}
use Rattle.std.specs.List.{list_all}
use Rattle.command_endings.proofs.counts.has_complements.Goals as goal

-- each literal that is looked at is one over the variables
pub any-requires-clause-callable : goal.any-requires-clause-callable
any-requires-clause-callable c =
    let n = c.args.growing.now.vars in
    let each = AllPass-from_list_all (is_literal n) c.args.clause.now (and_true (list_all (is_literal n) c.args.clause.now) (is_distinct c.args.clause.now) c.requires.clause).0 in
    grind (arith, serving, each)
