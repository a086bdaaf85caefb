use Rattle.std.proofs.Common.{◌≡◌, ◌∙◌, length, ap, sym, arith}
use Rattle.lk_model.specs.Formulas.Literal.{rank_of}
use Rattle.watch_prop.specs.HeldWatchers.{watcher_rows}
use Rattle.watch_prop.specs.Watchers.{Watchers, places, watchers}
use Rattle.watch_prop.proofs.Roomy.{row_at, places_at, seen_long}
use Rattle.watch_prop.proofs.watcher_lists.WatcherLists.of.Goals as goal

pub returns-clause-places : goal.returns-clause-places
returns-clause-places c =
    let L = c.self.inside.lists in
    let l = c.args.l in
    let lists : length c.args.self.now.lists ≡ length L = ap (λ (w : Watchers). length w.lists) (sym c.self.view_is) ∙ seen_long L in
    ap places (c.as_slice.ensures.value ∙ sym (row_at L (rank_of l) c.index.result.now (omega (arith, c.requires, lists)) c.index.ensures))
    ∙ sym (places_at (watcher_rows L) l) ∙ ap (λ (w : Watchers). watchers w.lists l) c.self.view_is
