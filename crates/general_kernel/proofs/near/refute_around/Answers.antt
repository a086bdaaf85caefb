use Rattle.std.proofs.Common.{Option, subst, arith}
use Rattle.std.specs.Prelude.{IfSome}
use Rattle.crossed_copy.specs.declared.telling.CrossedRefutation.{CrossedRefutation}
use Rattle.general_kernel.specs.NearRefutations.{RefutesAll}
use Rattle.general_kernel.proofs.NearRounds.{found_near}
use Rattle.general_kernel.proofs.near.refute_around.Goals as goal

pub returns : goal.returns
returns c =
    let past = c.requires.past in
    found_near c.args.over.now c.args.next _ c.args.budget c.in_ok-copy.copy.formula c.in-Some.refutation c.in_ok-found.found (omega (arith, past)) past
    (subst (λ (o : Option CrossedRefutation). IfSome o (RefutesAll c.in_ok-copy.copy.formula c.args.budget)) c.in-Some.is c.in_ok-refutation.ensures)
    c.in_ok-found.ensures.told c.in_ok-found.ensures.learned
