use Rattle.std.proofs.Common.{arith}
use Rattle.watch_prop.proofs.Flat.{held_length}
use Rattle.watch_prop.proofs.clauses.Clauses.len.Goals as goal

pub returns : goal.returns
returns c =
    let long = held_length c.self.inside c.args.self.now c.self.view_is c.self.invariant in
    let same = c.self.invariant.numbers in
    omega (arith, long, same)
