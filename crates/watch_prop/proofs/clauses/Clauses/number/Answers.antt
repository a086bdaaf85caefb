use Rattle.std.proofs.Common.{◌<◌, ◌∙◌, length, sym, ap, arith}
use Rattle.std.proofs.lemmas.List.{get_or_read}
use Rattle.watch_prop.specs.declared.entry.NumberedClause.{NumberedClause}
use Rattle.watch_prop.proofs.Flat.{held_length, held_at}
use Rattle.watch_prop.proofs.clauses.Clauses.number.Goals as goal

pub index-requires : goal.index-requires
index-requires c =
    let long = held_length c.self.inside c.args.self.now c.self.view_is c.self.invariant in
    let same = c.self.invariant.numbers in
    omega (arith, long, same, c.requires)

pub returns : goal.returns
returns c =
    let long = held_length c.self.inside c.args.self.now c.self.view_is c.self.invariant in
    let same = c.self.invariant.numbers in
    let lt : c.args.place < length c.self.inside.numbers.items = omega (arith, long, same, c.requires) in
    get_or_read c.self.inside.numbers.items c.args.place c.index.result.now lt c.index.ensures 0
    ∙ sym (ap (λ (h : NumberedClause). h.number) (held_at c.self.inside c.args.self.now c.args.place c.self.view_is c.self.invariant c.requires))
