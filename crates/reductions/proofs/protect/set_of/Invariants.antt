use Rattle.std.proofs.Common.{◌≡◌, ℕ, ◌&&◌, length, take}
use Rattle.lk_model.specs.Lists.{among, is_between}
use Rattle.lk_model.specs.Held.VariableSets.{is_in}
use Rattle.reductions.proofs.protect.set_of.Given as goal

-- those of the numbers so far that are variables
abbrev pub invariant-loop-v : goal.invariant-loop-v
invariant-loop-v l = record {
  size : length l.set ≡ l.n;
  vars : (v : ℕ) → is_in l.set v ≡ (is_between 1 l.n v && among (take l.v-index l.listed) v);
}
