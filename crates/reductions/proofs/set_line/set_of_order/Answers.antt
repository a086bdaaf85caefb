use Rattle.std.proofs.Common.{rules}
use Rattle.std.proofs.lemmas.List.Sorted.{IsNonDecreasingBy-from_sort_by_key}
use Rattle.lk_model.specs.Formulas.Literal.{variable}
use Rattle.reductions.proofs.set_line.set_of_order.Goals as goal

pub returns : goal.returns
returns c = rw c.from_vec.ensures (record {
  same = rw (← c.in_ok-set.ensures.items) c.in_ok-sort_by_key.ensures.permutation;
  rises = IsNonDecreasingBy-from_sort_by_key variable _ c.in_ok-sort_by_key.ensures.sorted (λ a r q k. search rules);
})
