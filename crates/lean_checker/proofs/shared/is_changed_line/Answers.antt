use Rattle.std.proofs.Common.{◌-◌, length, arith}
use Rattle.lk_model.proofs.Rising.{rising_bounds}
use Rattle.lean_checker.proofs.shared.is_changed_line.Goals as goal

pub clause-requires-2-clause-first : goal.clause-requires-2-clause-first
clause-requires-2-clause-first c = (rising_bounds 0 (length c.args.f.now.clauses) c.args.kept.now (c.args.i - 1) c.requires.positions (omega (arith, c.requires.first, c.requires.last))).0

pub clause-requires-2-clause-last : goal.clause-requires-2-clause-last
clause-requires-2-clause-last c = (rising_bounds 0 (length c.args.f.now.clauses) c.args.kept.now (c.args.i - 1) c.requires.positions (omega (arith, c.requires.first, c.requires.last))).1
