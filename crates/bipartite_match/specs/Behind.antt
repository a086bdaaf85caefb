-- The matching behind pairs, of which no code holds the part, or the variables of its clauses.
use Rattle.std.specs.Prelude.{◌↔◌, ℕ, List, Bool, IsTrue}
use Rattle.lk_model.specs.Formulas.Formula.{Cnf}
use Rattle.lk_model.specs.Formulas.Lean.{are_positions}
use Rattle.bipartite_match.specs.declared.augmenting.Start.{Start}
use Rattle.bipartite_match.specs.declared.matching.Matching.{Matching}
use Rattle.bipartite_match.specs.declared.pairs.Pairs.{Pairs}
use Rattle.bipartite_match.specs.Matchings.{IsMaximum, IsReady}
use Rattle.bipartite_match.specs.Ways.{IsStart, HasWay, IsLonger}
use Rattle.bipartite_match.specs.Covers.{HasCover, HasCoverBut}

-- the variable of each clause of the part, and the marks that searches use, make it whole
abbrev pub matching_of : List ℕ → Pairs → List Bool → Matching
matching_of own p marks = record { of_clause = own; of_var = p.of_var; unmatched = p.unmatched; seen = marks }

-- what a search for one more pair asks
pub record CanAugment (F : Cnf) (part : List ℕ) (m : Matching) (from : Start) : Type 0 where
  pub positions : IsTrue (are_positions F part)
  pub ready : IsReady F part m
  pub start : IsStart F part m from

-- what a search for one more pair leaves, and what it returns
pub record IsOutcome (F : Cnf) (part : List ℕ) (from : Start) (m after : Matching) (answer : Bool) : Type 0 where
  pub way : IsTrue answer ↔ HasWay F part m from
  pub longer : IsTrue answer → IsLonger F part m after
  pub restores : HasCoverBut F part m from → HasCover F part after
  pub ready : IsReady F part after

-- what a search for all that walks reach asks
pub record CanReach (F : Cnf) (part : List ℕ) (m : Matching) : Type 0 where
  pub positions : IsTrue (are_positions F part)
  pub maximum : IsMaximum F part m
  pub ready : IsReady F part m
