use Rattle.std.proofs.Common.{◌≡◌, ◌∙◌, ℕ, ◌<◌, List, [], get_or, length, replicate, ap, sym, arith, Vec, vec_len}
use Rattle.std.specs.declared.alloc.Global.{Global}
use Rattle.std.specs.List.{All}
use Rattle.std.proofs.lemmas.List.{length-replicate, get_or-replicate}
use Rattle.watch_prop.specs.declared.watcher_lists.Watcher.{Watcher}
use Rattle.watch_prop.specs.Watchers.{all_places}
use Rattle.watch_prop.specs.HeldWatchers.{HasRoom}
use Rattle.watch_prop.proofs.Roomy.{rows_none, no_places}
use Rattle.watch_prop.proofs.watcher_lists.WatcherLists.new.Goals as goal

-- lists without an item have room for none
none : (lists : List (Vec Watcher Global)) (counts : List ℕ) (r : ℕ) (d : Vec Watcher Global) → All (λ (v : Vec Watcher Global). v.items ≡ []) lists → counts ≡ replicate (length lists) 0 → r < length lists
    → HasRoom (get_or lists r d) (get_or counts r 0)
none lists counts r d empty zero lt =
    let v = get_or lists r d in
    let count : get_or counts r 0 ≡ 0 = ap (λ (ns : List ℕ). get_or ns r 0) zero ∙ get_or-replicate (length lists) r 0 0 lt in
    let len : vec_len v ≡ 0 = v.ok.0 ∙ ap (λ (ws : List Watcher). length ws) (empty r d lt) in
    (omega (arith, count, len), omega (arith, count))

pub invariant_of-result : goal.invariant_of-result
invariant_of-result c =
    let lists = c.in_ok-empty_lists.field-0 in
    let zero : c.in_ok-new.field-0 ≡ replicate (length lists) 0 =
    c.in_ok-new.ensures ∙ ap (λ (n : ℕ). replicate n 0) (sym (c.in_ok-empty_lists.ensures.size ∙ c.requires.expected)) in
    record {
      same = sym (ap (λ (ns : List ℕ). length ns) zero ∙ length-replicate (length lists) 0);
      each = λ r d lt. none lists c.in_ok-new.field-0 r d c.in_ok-empty_lists.ensures.empty zero lt;
    }

pub returns-clause-lists : goal.returns-clause-lists
returns-clause-lists c =
    let lists = c.in_ok-empty_lists.field-0 in
    ap all_places (rows_none lists c.in_ok-empty_lists.ensures.empty) ∙ no_places (length lists)
    ∙ ap (λ (n : ℕ). replicate n []) (c.in_ok-empty_lists.ensures.size ∙ c.requires.expected)

pub returns-clause-rows : goal.returns-clause-rows
returns-clause-rows c =
    rows_none c.in_ok-empty_lists.field-0 c.in_ok-empty_lists.ensures.empty
    ∙ ap (λ (n : ℕ). replicate n []) (c.in_ok-empty_lists.ensures.size ∙ c.requires.expected)
