use Rattle.std.proofs.Common.{◌≡◌, ◌∙◌, ℕ, [], length, get_or, sym, ap, subst, arith}
use Rattle.occurrence_lists.specs.Parts.{Filled}
use Rattle.occurrence_lists.proofs.Parts.{ends_of, filled}
use Rattle.occurrence_lists.proofs.filling.Filling.finish.Goals as goal

pub from_parts-requires : goal.from_parts-requires
from_parts-requires c = ends_of 0 c.self.inside.ends.items c.self.inside.next.items _ c.self.invariant.within

pub returns : goal.returns
returns c =
    let full : (k : ℕ) → length (get_or c.args.self.lists k []) ≡ get_or c.args.self.sizes k 0 = c.requires in
    c.from_parts.ensures
    ∙ filled 0 c.self.inside.positions.items c.self.inside.ends.items c.self.inside.next.items (length c.self.inside.positions.items) c.self.invariant.within (omega arith)
    (λ k. subst (λ (t : Filled). length (get_or t.lists k []) ≡ get_or t.sizes k 0) (sym c.self.view_is) (full k))
    ∙ ap (λ (t : Filled). t.lists) c.self.view_is
