use Rattle.std.proofs.Common.{◌≡◌, ◌+◌, [], length}
use Rattle.bipartite_match.specs.Pairing.{IsPairing, pairing_of, count_of}
use Rattle.bipartite_match.proofs.paths.augment_paths.Given as goal

abbrev pub invariant-loop-root : goal.invariant-loop-root
invariant-loop-root l = record {
  pairing : IsPairing l.f l.part (pairing_of l.mates);
  more : count_of (pairing_of l.mates) ≡ count_of (pairing_of l.fn.mates) + l.augmented;
  same : l.augmented ≡ 0 → pairing_of l.mates ≡ pairing_of l.fn.mates;
  layers : length l.layer.items ≡ length l.part;
  empty : l.path.items ≡ [];
}
