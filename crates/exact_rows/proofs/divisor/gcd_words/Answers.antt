use Rattle.std.proofs.Common.{arith}
use Rattle.std.proofs.lemmas.Nat.Gcd.{IsGcd-from_zero, IsGcd-from_mod}
use Rattle.exact_rows.proofs.Divisors.{gcd_same}
use Rattle.exact_rows.proofs.divisor.gcd_words.Goals as goal

pub loop-y-init : goal.loop-y-init
loop-y-init c g h = h

pub loop-y-preserved : goal.loop-y-preserved
loop-y-preserved c g h = c.loop-y.invariant g (IsGcd-from_mod _ _ g h)

pub returns : goal.returns
returns c = gcd_same c.args.a c.args.b c.loop-y.x (c.loop-y.invariant _ (IsGcd-from_zero _ _ (omega arith)))
