use Rattle.std.proofs.Common.{◌≡◌, ℕ, ◌+◌, ◌<◌, length, take, count_by, slice_index}
use Rattle.refutation_log.proofs.numbers.new_numbers.Given as goal

abbrev pub invariant-loop-is_kept : goal.invariant-loop-is_kept
invariant-loop-is_kept l = record {
  count : length l.numbers.items ≡ l.is_kept-index;
  number : l.number ≡ l.next + count_by (λ b. b) (take l.is_kept-index l.kept);
  each : (i : ℕ) → i < l.is_kept-index → slice_index l.numbers.items i ≡ l.next + count_by (λ b. b) (take i l.kept);
}
