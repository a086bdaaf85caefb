use Rattle.bipartite_match.specs.Matchings.{IsReady}
use Rattle.test_kernels.proofs.augments.tell_searches.Given as goal

-- the matching is ready for each search
abbrev pub invariant-loop-word : goal.invariant-loop-word
invariant-loop-word l = record {
  can_next : (goal.iterator-loop-word).can_next l.word-iterator;
  finite : (goal.iterator-loop-word).is_finite l.word-iterator;
  ready : IsReady l.f l.part l.m;
}
