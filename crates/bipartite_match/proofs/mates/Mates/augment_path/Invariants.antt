use Rattle.std.proofs.Common.{List, ℕ, length}
use Rattle.lk_model.specs.Formulas.Formula.{Cnf}
use Rattle.bipartite_match.specs.Pairing.{pairing_of}
use Rattle.bipartite_match.specs.Augmented.{HasPath, indices_of}
use Rattle.bipartite_match.proofs.AugmentedWalks.{PathState}
use Rattle.bipartite_match.proofs.mates.Mates.augment_path.Given as goal

abbrev pub invariant-back : goal.invariant-back
invariant-back l = (F : Cnf) (part : List ℕ) → HasPath F part (pairing_of l.fn.self) (indices_of l.fn.path.items) l.fn.end
    → PathState F part (pairing_of l.fn.self) (length (indices_of l.fn.path.items)) (pairing_of l.self) (indices_of l.path.items) l.v

abbrev pub decreases-back : goal.decreases-back
decreases-back l = length l.path.items
