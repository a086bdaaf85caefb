use Rattle.std.proofs.Common.{◌<◌, length, IsTrue}
use Rattle.test_ground.proofs.shelves.read_all.Given as goal

abbrev pub invariant-loop : goal.invariant-loop
invariant-loop g l = IsTrue (g.S.Shelf.started l.shelf) × (0 < length l.piece)
