use Rattle.std.proofs.Common.{◌∙◌, ◌∷◌, [], ap, arith, length, length-append}
use Rattle.std.proofs.lemmas.Grind.{elements}
use Rattle.lk_model.proofs.lit_table.LitTable.new_with.Goals as goal

pub loop-preserved : goal.loop-preserved
loop-preserved g c = record {
  size = (let long = ap (λ xs. length xs) c.in_ok-push.ensures.items ∙ length-append c.loop.entries.items (c.make.result ∷ []) in omega (arith, long, c.loop.invariant.size));
  made = grind (arith, elements);
}

pub returns-clause-size : goal.returns-clause-size
returns-clause-size g c = omega (arith, c.loop.invariant.size)

pub returns-clause-made : goal.returns-clause-made
returns-clause-made g c = c.loop.invariant.made
