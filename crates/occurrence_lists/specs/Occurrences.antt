-- Where literals occur.
use Rattle.std.specs.Prelude.{◌≡◌, ℕ, ◌+◌, ◌*◌, ◌<◌, Bool, ◌==◌, List, [], length, filter, slice_index_or, ℤ, IsTrue}
use Rattle.std.specs.List.{list_any}
use Rattle.lk_model.specs.Lists.{up_to}
use Rattle.lk_model.specs.Formulas.Literal.{is_literal, contains, rank_of}
use Rattle.lk_model.specs.Formulas.Formula.{Cnf, clause_at, positions_of}

-- At the rank of each literal stand the positions of the clauses that contain it. No literal has the ranks 0 and 1, and
-- nothing stands there.
pub record AreOccurrences (F : Cnf) (lists : List (List ℕ)) : Type 0 where
  pub size : length lists ≡ 2 * F.vars + 2
  pub held : (l : ℤ) → IsTrue (is_literal F.vars l) → slice_index_or lists (rank_of l) [] ≡ filter (λ p. contains (clause_at F p) l) (positions_of F)
  pub none : (k : ℕ) → k < 2 → slice_index_or lists k [] ≡ []

-- the clause contains a literal of this rank
abbrev pub has_rank : List ℤ → ℕ → Bool
has_rank c k = list_any (λ l. rank_of l == k) c

-- the positions up to m whose clauses contain a literal of this rank
abbrev pub ranked : Cnf → ℕ → ℕ → List ℕ
ranked F m k = filter (λ p. has_rank (clause_at F p) k) (up_to m)
