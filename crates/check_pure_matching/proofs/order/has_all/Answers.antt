use Rattle.std.proofs.Common.{◌∙◌}
use Rattle.check_tables.proofs.LiteralSetLemmas.{all_told}
use Rattle.check_pure_matching.proofs.order.has_all.Goals as goal

pub returns : goal.returns
returns c = c.has_all.ensures ∙ all_told c.args.n c.args.order.now c.args.set.now _ c.in_ok-literals.ensures c.requires.set
