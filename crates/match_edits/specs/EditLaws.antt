-- What an edit leaves to do, so that the matching is maximum again: one search from one start, or none (Berge 1957, by the
-- covers of König 1931).
use Rattle.std.specs.Prelude.{◌≡◌, ◌≢◌, ℕ, ◌+◌, ◌<◌, List, [], ◌∷◌, ◌++◌, length, slice_index, IsTrue, ℤ}
use Rattle.std.specs.List.{remove}
use Rattle.lk_model.specs.Formulas.Formula.{Cnf, is_formula, with_clause}
use Rattle.lk_model.specs.Formulas.Literal.{is_clause}
use Rattle.lk_model.specs.Formulas.Lean.{are_positions}
use Rattle.bipartite_match.specs.declared.augmenting.Start.{Start}
use Rattle.bipartite_match.specs.declared.augmenting.Start.TheVariants.{Clause, Variable}
use Rattle.bipartite_match.specs.declared.matching.Matching.{Matching}
use Rattle.bipartite_match.specs.Matchings.{IsMatching, IsMaximum, IsReady}
use Rattle.bipartite_match.specs.Ways.{IsStart}
use Rattle.bipartite_match.specs.Covers.{HasCover, HasCoverBut}
use Rattle.match_edits.specs.Followed.{IsLive, with_new, without_unmatched, without_matched}

-- One search from the start makes the matching maximum: it may begin there, and whatever it leaves is maximum, by what a
-- search promises of covers.
pub record RestoredBy (F : Cnf) (part : List ℕ) (m : Matching) (from : Start) : Type 0 where
  pub positions : IsTrue (are_positions F part)
  pub ready : IsReady F part m
  pub start : IsStart F part m from
  pub maximum : (after : Matching) → IsMatching F part after → (HasCoverBut F part m from → HasCover F part after)
      → IsMaximum F part after

pub record EditLaws : Type 0 where
  -- a clause is added: one search from it
  pub added : (F : Cnf) (part : List ℕ) (m : Matching) (c : List ℤ) (number : ℕ) → IsTrue (is_formula F) → IsTrue (is_clause F.vars c)
      → IsLive F part m → number ≡ length F.clauses + 1
      → RestoredBy (with_clause F c) (part ++ number ∷ []) (with_new m number) (Clause number)
  -- one that has no variable is removed: none
  pub unmatched_removed : (F : Cnf) (part : List ℕ) (m : Matching) (i j : ℕ) → IsTrue (is_formula F) → IsLive F part m
      → i < length part → slice_index m.of_clause i ≡ 0 → j < length m.unmatched → slice_index m.unmatched j ≡ slice_index part i
      → IsLive F (remove part i) (without_unmatched m i j)
  -- one that has a variable is removed: one search from the variable
  pub matched_removed : (F : Cnf) (part : List ℕ) (m : Matching) (i : ℕ) → IsTrue (is_formula F) → IsLive F part m
      → i < length part → slice_index m.of_clause i ≢ 0
      → RestoredBy F (remove part i) (without_matched m i) (Variable (slice_index m.of_clause i))
