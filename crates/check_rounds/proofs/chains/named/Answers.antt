use Rattle.std.proofs.Common.{arith}
use Rattle.std.proofs.lemmas.Option.{IfSome_then}
use Rattle.check_rounds.proofs.ChainChecks.{position_named, step_named}
use Rattle.check_rounds.proofs.chains.named.Goals as goal

pub returns-then-k-from-clause-some : goal.returns-then-k-from-clause-some
returns-then-k-from-clause-some c =
    IfSome_then c.position.result c.position.ensures.some
    (λ r h. position_named c.args.over.now c.args.i c.args.k r.now (omega (arith, c.if-k-from.true, c.from.ensures, c.len.ensures.value)) h)

pub returns-else-k-from-clause-some : goal.returns-else-k-from-clause-some
returns-else-k-from-clause-some c =
    IfSome_then c.earlier.result c.earlier.ensures.some
    (λ r h. step_named c.args.over.now c.args.i c.args.k r.now (omega (arith, c.if-k-from.false, c.from.ensures, c.len.ensures.value)) h)
