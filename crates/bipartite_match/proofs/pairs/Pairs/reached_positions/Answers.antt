use Rattle.std.proofs.Common.{◌∙◌, List, ℕ, ap, subst, nat_eq, map}
use Rattle.std.specs.List.Sorted.{IsPermutation}
use Rattle.std.proofs.lemmas.List.Filters.{dedup_is}
use Rattle.bipartite_match.specs.declared.visits.Visit.{Visit}
use Rattle.bipartite_match.specs.Behind.{matching_of}
use Rattle.bipartite_match.proofs.Outcomes.{reads_all}
use Rattle.bipartite_match.proofs.Visited.{reached_all}
use Rattle.bipartite_match.proofs.pairs.Pairs.reached_positions.Goals as goal

pub of-requires : goal.of-requires
of-requires c =
    let w = c.requires.can in let m = matching_of w.1 c.args.self.now c.args.marks.now in
    record { can = (w.0, m, reads_all c.args.f.now w.0 m c.as_slice.result.now c.as_slice-2.result.now w.2 c.as_slice.ensures c.as_slice-2.ensures) }

pub returns-clause-reached : goal.returns-clause-reached
returns-clause-reached c = λ part own h.
    let m = matching_of own c.args.self.now c.args.marks.now in
    let v = c.in_ok-visits.visits in
    let sorted = c.sort_unstable.new.self.items in
    let all = c.in_ok-reached.ensures ∙ ap (λ (q : List Visit). map (λ (x : Visit). x.pos) q) c.deref.ensures.value in
    let searched = c.in_ok-visits.ensures.searched part m (reads_all c.args.f.now part m c.as_slice.result.now c.as_slice-2.result.now h c.as_slice.ensures c.as_slice-2.ensures) in
    reached_all c.args.f.now part m v.end v.place v.queue.items sorted c.from_vec.result searched.formula h.positions h.maximum
    searched.found searched.nothing
    (subst (λ (ps : List ℕ). IsPermutation ps sorted) all c.sort_unstable.ensures.permutation) c.sort_unstable.ensures.sorted
    (c.from_vec.ensures ∙ dedup_is nat_eq _ _ c.dedup.ensures.filtered)
