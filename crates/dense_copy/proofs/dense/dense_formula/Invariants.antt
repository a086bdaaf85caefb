use Rattle.dense_copy.proofs.Copying.{IsCopied}
use Rattle.dense_copy.proofs.dense.dense_formula.Given as goal

abbrev pub invariant-loop-position : goal.invariant-loop-position
invariant-loop-position l = IsCopied l.f l.part l.names l.position-index l.dense
