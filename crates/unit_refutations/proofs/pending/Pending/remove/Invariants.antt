use Rattle.std.proofs.Common.{◌≡◌, ◌≤◌, ◌==◌, ℕ, true, false, length}
use Rattle.lk_model.specs.Lists.{among}
use Rattle.unit_refutations.proofs.pending.Pending.remove.Given as goal

-- the other places stay
abbrev pub invariant-loop-self : goal.invariant-loop-self
invariant-loop-self l = record {
  others : (place : ℕ) → (place == l.last) ≡ false → among l.self place ≡ among l.initial.self place;
  most : (place : ℕ) → among l.self place ≡ true → place ≤ l.last;
}

abbrev pub decreases-loop-self : goal.decreases-loop-self
decreases-loop-self l = length l.self
