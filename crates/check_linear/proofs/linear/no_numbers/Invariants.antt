use Rattle.std.proofs.Common.{◌≡◌, ℕ, length, []}
use Rattle.check_linear.specs.Linear.{numbers_of}
use Rattle.check_linear.proofs.linear.no_numbers.Given as goal

-- the lists so far are empty
abbrev pub invariant-loop : goal.invariant-loop
invariant-loop l = record {
  size : length l.table.items ≡ l.counter;
  none : (v : ℕ) → numbers_of l.table.items v ≡ [];
}
