use Rattle.std.proofs.Common.{◌≤◌, length, arith}
use Rattle.std.proofs.lemmas.Bool.{ltb-true, lt-ltb}
use Rattle.lk_model.specs.Chains.Chain.{Premises}
use Rattle.lk_model.specs.Held.VariableSets.{premises_of}
use Rattle.refutation_log.proofs.Chains.{whole_named, whole_first}
use Rattle.refutation_log.proofs.log.Log.names_clause.Goals as goal

pub returns-then-k-from : goal.returns-then-k-from
returns-then-k-from c =
    let from : Premises = premises_of c.args.over.now c.args.self.now.steps in
    let k = c.args.k in
    let within : k ≤ length from.formula.clauses = omega (arith, c.len.ensures.value, c.from.ensures, c.if-k-from.true) in (
      λ t. whole_named from k c.requires.whole (ltb-true 0 k t) within,
      λ s. lt-ltb 0 k (whole_first from k c.requires.whole within s),
    )
