use Rattle.std.proofs.Common.{◌≡◌, take}
use Rattle.check_linear.specs.Linear.{ClearsNumbers, is_unbalanced_clause}
use Rattle.check_linear.proofs.units.clear_clause.Given as goal

-- the literals so far are tested and cleared
abbrev pub invariant-loop-l : goal.invariant-loop-l
invariant-loop-l l =
    (l.unbalanced ≡ is_unbalanced_clause l.occurring l.fn.numbers.items (take l.l-index l.clause)) × ClearsNumbers l.n (take l.l-index l.clause) l.fn.numbers.items l.numbers.items
