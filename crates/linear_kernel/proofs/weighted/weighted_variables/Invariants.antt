use Rattle.std.proofs.Common.{◌≡◌, ℕ, ◌||◌, false, map, take, length, replicate}
use Rattle.lk_model.specs.Lists.{among}
use Rattle.lk_model.specs.Held.VariableSets.{is_in}
use Rattle.lk_model.specs.declared.document.Weight.{Weight}
use Rattle.linear_kernel.proofs.weighted.weighted_variables.Given as goal

-- the variables of the weights so far
abbrev pub invariant-loop-w : goal.invariant-loop-w
invariant-loop-w l = record {
  size : length l.set ≡ l.n;
  value : (v : ℕ) → is_in l.set v ≡ (is_in (replicate l.n false) v || among (take l.w-index (map (λ (w : Weight). w.var) l.weights)) v);
}
