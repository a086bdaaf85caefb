use Rattle.std.proofs.Common.{List, ℕ}
use Rattle.lk_model.specs.Formulas.Formula.{Cnf}
use Rattle.bipartite_match.specs.Pairing.{pairing_of}
use Rattle.matching_layers.specs.Found.{found_of}
use Rattle.bipartite_match.specs.Augmented.{HasWalk}
use Rattle.bipartite_match.proofs.AugmentedWalks.{WalkState, layer_left}
use Rattle.bipartite_match.proofs.mates.Mates.augment_walk.Given as goal

abbrev pub invariant-back : goal.invariant-back
invariant-back l = (F : Cnf) (part : List ℕ) → HasWalk F part (pairing_of l.fn.self) (found_of l.search)
    → WalkState F part (pairing_of l.fn.self) (found_of l.search) (pairing_of l.self) l.v

abbrev pub decreases-back : goal.decreases-back
decreases-back l = layer_left (found_of l.search) l.v
