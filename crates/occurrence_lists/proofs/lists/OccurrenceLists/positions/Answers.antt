use Rattle.std.proofs.Common.{ℕ, List, length, ap, arith}
use Rattle.occurrence_lists.proofs.Parts.{lists_kept}
use Rattle.occurrence_lists.proofs.lists.OccurrenceLists.positions.Goals as goal

pub list_at-requires-clause-place : goal.list_at-requires-clause-place
list_at-requires-clause-place c =
    let kept = lists_kept c.self.inside.positions.items c.self.inside.ends.items c.args.self.now c.self.view_is in
    omega (arith, c.requires, c.rank.ensures.value, kept, ap (λ (ns : List ℕ). length ns) c.deref-2.ensures.value)
