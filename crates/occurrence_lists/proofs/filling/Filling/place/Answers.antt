use Rattle.std.proofs.Common.{arith}
use Rattle.std.proofs.lemmas.List.{get_or_read}
use Rattle.occurrence_lists.proofs.Parts.{has_place, filling_more, view_more}
use Rattle.occurrence_lists.proofs.filling.Filling.place.Goals as goal

pub index-at-requires : goal.index-at-requires
index-at-requires c = let h = has_place c.self.inside.positions.items c.self.inside.ends.items c.self.inside.next.items c.args.k c.args.self.now c.self.invariant c.self.view_is c.requires in omega (arith, h.list)

pub index_mut-requires : goal.index_mut-requires
index_mut-requires c =
    let h = has_place c.self.inside.positions.items c.self.inside.ends.items c.self.inside.next.items c.args.k c.args.self.now c.self.invariant c.self.view_is c.requires in
    omega (arith, h.at, get_or_read c.self.inside.next.items c.args.k c.index-at.result.now h.list c.index-at.ensures 0)

pub overflow_add-at : goal.overflow_add-at
overflow_add-at c =
    let h = has_place c.self.inside.positions.items c.self.inside.ends.items c.self.inside.next.items c.args.k c.args.self.now c.self.invariant c.self.view_is c.requires in
    omega (arith, h.few, get_or_read c.self.inside.next.items c.args.k c.index-at.result.now h.list c.index-at.ensures 0)

pub index_mut-requires-2 : goal.index_mut-requires-2
index_mut-requires-2 c = let h = has_place c.self.inside.positions.items c.self.inside.ends.items c.self.inside.next.items c.args.k c.args.self.now c.self.invariant c.self.view_is c.requires in omega (arith, h.list)

pub invariant_of-self : goal.invariant_of-self
invariant_of-self c =
    let h = has_place c.self.inside.positions.items c.self.inside.ends.items c.self.inside.next.items c.args.k c.args.self.now c.self.invariant c.self.view_is c.requires in
    filling_more c.self.inside.positions.items c.self.inside.ends.items c.self.inside.next.items c.args.k _ c.args.position c.self.invariant h (get_or_read c.self.inside.next.items c.args.k c.index-at.result.now h.list c.index-at.ensures 0)

pub returns : goal.returns
returns c =
    let h = has_place c.self.inside.positions.items c.self.inside.ends.items c.self.inside.next.items c.args.k c.args.self.now c.self.invariant c.self.view_is c.requires in
    view_more c.self.inside.positions.items c.self.inside.ends.items c.self.inside.next.items c.args.k _ c.args.position c.args.self.now c.self.invariant h (get_or_read c.self.inside.next.items c.args.k c.index-at.result.now h.list c.index-at.ensures 0) c.self.view_is
