use Rattle.std.proofs.Common.{◌≡◌, ◌≤◌, length, All}
use Rattle.par_parts.proofs.grouping.fill.Given as goal

abbrev pub invariant-loop-size : goal.invariant-loop-size
invariant-loop-size l =
    (length l.numbers.items ≡ l.size-index) × (1 ≤ l.last) × (l.last ≤ l.most) × All (λ n. (1 ≤ n) × (n ≤ l.last)) l.numbers.items
