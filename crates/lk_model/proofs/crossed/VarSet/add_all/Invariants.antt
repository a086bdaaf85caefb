use Rattle.std.proofs.Common.{◌≡◌, ℕ, ◌||◌, length, take}
use Rattle.lk_model.specs.Lists.{among}
use Rattle.lk_model.specs.Held.VariableSets.{is_in}
use Rattle.lk_model.proofs.crossed.VarSet.add_all.Given as goal

abbrev pub invariant-loop-v : goal.invariant-loop-v
invariant-loop-v l = record {
  size : length l.self ≡ length l.initial.self;
  vars : (v : ℕ) → is_in l.self v ≡ (is_in l.initial.self v || among (take l.v-index l.vars) v);
}
