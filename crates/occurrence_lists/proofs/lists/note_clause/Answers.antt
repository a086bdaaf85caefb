use Rattle.std.proofs.Common.{◌<◌, ◌∙◌, ℕ, ap, subst, sym, length, get_or, []}
use Rattle.occurrence_lists.specs.Parts.{Filled, placed}
use Rattle.occurrence_lists.proofs.Ranks.{rank_held}
use Rattle.occurrence_lists.proofs.Noted.{Notes-next, room_next}
use Rattle.occurrence_lists.proofs.lists.note_clause.Goals as goal

pub place-requires : goal.place-requires
place-requires c =
    let held = rank_held _ _ _ c.loop-l-test.true c.l-item.is in
    subst (λ (r : ℕ). length (get_or c.loop-l.lists.lists r []) < get_or c.loop-l.lists.sizes r 0) (sym c.rank.ensures.value)
    (room_next _ c.args.position _ _ c.args.lists.now c.loop-l.lists c.requires.clause c.loop-l-test.true c.l-item.is held c.requires.room c.loop-l.invariant.sizes c.loop-l.invariant.noted)

pub loop-l-preserved : goal.loop-l-preserved
loop-l-preserved c =
    let held = rank_held _ _ _ c.loop-l-test.true c.l-item.is in
    let within = (c.requires.room _ held).0 in
    let new = c.place.ensures ∙ ap (λ (r : ℕ). placed r c.args.position c.loop-l.lists) c.rank.ensures.value in
    record {
      sizes = ap (λ (t : Filled). t.sizes) new ∙ c.loop-l.invariant.sizes;
      noted = rw new (Notes-next _ c.args.position _ _ _ _ c.requires.clause c.loop-l-test.true c.l-item.is within c.loop-l.invariant.noted);
    }
