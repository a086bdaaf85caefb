use Rattle.std.proofs.Common.{◌-◌, ◌<◌, length, rules}
use Rattle.lk_model.specs.Limits.{max_vars}
use Rattle.lk_model.proofs.Rising.{rising_bounds}
use Rattle.result_renaming.proofs.renaming.Renaming.literal.Goals as goal

pub from_var-requires-clause-first : goal.from_var-requires-clause-first
from_var-requires-clause-first c =
    let names = c.args.self.now.names.now in
    let there : c.var.result - 1 < length names = search rules in
    let b = (rising_bounds 0 max_vars names (c.var.result - 1) c.requires there).0 in
    search rules

pub from_var-requires-clause-last : goal.from_var-requires-clause-last
from_var-requires-clause-last c =
    let names = c.args.self.now.names.now in
    let there : c.var.result - 1 < length names = search rules in
    let b = (rising_bounds 0 max_vars names (c.var.result - 1) c.requires there).1 in
    search rules
