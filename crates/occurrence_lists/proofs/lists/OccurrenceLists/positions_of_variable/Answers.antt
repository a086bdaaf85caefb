use Rattle.std.proofs.Common.{ℕ, List, length, ap, arith}
use Rattle.occurrence_lists.proofs.Parts.{lists_kept}
use Rattle.occurrence_lists.proofs.lists.OccurrenceLists.positions_of_variable.Goals as goal

pub two_lists_at-requires-clause-place : goal.two_lists_at-requires-clause-place
two_lists_at-requires-clause-place c =
    let kept = lists_kept c.self.inside.positions.items c.self.inside.ends.items c.args.self.now c.self.view_is in
    omega (arith, c.requires, kept, ap (λ (ns : List ℕ). length ns) c.deref-2.ensures.value)
