use Rattle.std.proofs.Common.{◌≡◌, take}
use Rattle.check_linear.specs.Linear.{ClearsShares, is_unbalanced_share}
use Rattle.check_linear.proofs.units.clear_shares.Given as goal

-- the shares so far are tested and cleared
abbrev pub invariant-loop-i : goal.invariant-loop-i
invariant-loop-i l =
    (l.unbalanced ≡ is_unbalanced_share l.f l.occurring l.fn.numbers.items (take l.i l.shares)) × ClearsShares l.f (take l.i l.shares) l.fn.numbers.items l.numbers.items
