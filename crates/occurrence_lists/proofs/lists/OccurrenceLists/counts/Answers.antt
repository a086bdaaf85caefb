use Rattle.std.proofs.Common.{◌≡◌, ◌≤◌, ◌∙◌, ℕ, List, [], length, get_or, map, ap, arith}
use Rattle.std.proofs.lemmas.List.{take_all}
use Rattle.occurrence_lists.specs.Parts.{cut}
use Rattle.occurrence_lists.proofs.Parts.{lists_kept, counts_next}
use Rattle.occurrence_lists.proofs.lists.OccurrenceLists.counts.Goals as goal

pub loop-rank-preserved : goal.loop-rank-preserved
loop-rank-preserved c =
    let ps = c.self.inside.positions.items in
    let ends = c.self.inside.ends.items in
    let lists : cut 0 c.deref.result.now c.deref-in-loop-rank.result.now ≡ cut 0 ps ends = λ i. cut 0 (c.deref.ensures.value i) (c.deref-in-loop-rank.ensures.value i) in
    let count : c.count_at.result ≡ length (get_or (cut 0 ps ends) c.loop-rank.rank []) = c.count_at.ensures ∙ ap (λ (ls : List (List ℕ)). length (get_or ls c.loop-rank.rank [])) lists in
    rw c.in_ok-push.ensures.items
    (counts_next ps ends c.args.self.now _ _ c.loop-rank.rank c.self.view_is (omega (arith, c.loop-rank-test.true, c.len-rank-end.ensures)) c.loop-rank.invariant count)

pub returns : goal.returns
returns c =
    let all : length c.args.self.now ≤ c.loop-rank.rank = omega (arith, c.loop-rank-test.false, c.len-rank-end.ensures, lists_kept c.self.inside.positions.items c.self.inside.ends.items c.args.self.now c.self.view_is) in
    c.from_vec.ensures ∙ c.loop-rank.invariant ∙ ap (λ (ls : List (List ℕ)). map (λ (ps : List ℕ). length ps) ls) (take_all c.loop-rank.rank c.args.self.now all)
