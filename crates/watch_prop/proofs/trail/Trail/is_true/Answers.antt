use Rattle.std.proofs.Common.{arith}
use Rattle.watch_prop.proofs.Values.{read_within, read_value}
use Rattle.watch_prop.proofs.trail.Trail.is_true.Goals as goal

pub index-requires : goal.index-requires
index-requires c =
    let within = read_within c.self.inside c.args.self.now c.args.l c.place.result c.self.view_is c.self.invariant c.requires c.place.ensures in
    omega (arith, within)

pub returns : goal.returns
returns c =
    read_value c.self.inside c.args.self.now c.args.l c.place.result c.index.result.now c.self.view_is c.self.invariant c.requires c.place.ensures c.index.ensures
