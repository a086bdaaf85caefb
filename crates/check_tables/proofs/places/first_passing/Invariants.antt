use Rattle.std.proofs.Common.{◌≡◌, ◌+◌, ◌-◌, ℕ, Bool, None}
use Rattle.std.specs.Prelude.{find}
use Rattle.std.specs.List.{range_with_len}
use Rattle.check_tables.specs.Places.{Decides}
use Rattle.check_tables.proofs.places.first_passing.Given as goal

-- the test says no at the places so far
abbrev pub invariant-loop-p : goal.invariant-loop-p
invariant-loop-p g l = (by : ℕ → Bool) → Decides g.F.Fn l.test l.fn.span.first (l.fn.span.first + l.fn.span.count) by → find by (range_with_len l.fn.span.first (l.p - l.fn.span.first)) ≡ None
