-- Alternating paths between an unmatched clause and a free variable, and what is left when the pairs of one are exchanged.
use Rattle.std.specs.Prelude.{◌≡◌, ◌≢◌, ℕ, ◌+◌, ◌-◌, ◌<◌, ◌≤◌, List, slice_index, IsTrue}
use Rattle.lk_model.specs.Formulas.Literal.{mentions}
use Rattle.lk_model.specs.Formulas.Formula.{Cnf, clause_at}
use Rattle.bipartite_match.specs.declared.augmenting.Start.{Start}
use Rattle.bipartite_match.specs.declared.augmenting.Start.TheVariants.{Clause, Variable}
use Rattle.bipartite_match.specs.declared.matching.Matching.{Matching}
use Rattle.bipartite_match.specs.Matchings.{IsMatching, IsUnmatched, pair_count}

-- An alternating walk leads from the clause at p to another one: from a clause to a variable of it, and from there to
-- the clause that the variable is matched with. The matching is given by the position of each variable, or 0.
pub data LeadsTo (F : Cnf) (of_var : List ℕ) (p : ℕ) : ℕ → Type 0 where
  here : (q : ℕ) → q ≡ p → LeadsTo F of_var p q
  along : (q v r : ℕ) → LeadsTo F of_var p q → IsTrue (mentions (clause_at F q) v) → r ≢ 0 → slice_index of_var (v - 1) ≡ r → LeadsTo F of_var p r

-- the variable is one of the formula, and no clause has it
pub record IsFree (F : Cnf) (m : Matching) (v : ℕ) : Type 0 where
  pub some : 0 < v
  pub most : v ≤ F.vars
  pub free : slice_index m.of_var (v - 1) ≡ 0

-- an alternating path leads from the unmatched clause at p to a clause that contains the free variable
pub record IsWay (F : Cnf) (part : List ℕ) (m : Matching) (p v : ℕ) : Type 0 where
  pub unmatched : IsUnmatched part m p
  pub free : IsFree F m v
  pub last : ℕ
  pub leads : LeadsTo F m.of_var p last
  pub holds : IsTrue (mentions (clause_at F last) v)

-- the start is within the part and has no partner
abbrev pub IsStart : Cnf → List ℕ → Matching → Start → Type 0
IsStart F part m (Clause p) = IsUnmatched part m p
IsStart F part m (Variable v) = IsFree F m v

-- a path leads from the start to a node of the other side that has no partner
abbrev pub HasWay : Cnf → List ℕ → Matching → Start → Type 0
HasWay F part m (Clause p) = (v : ℕ) × IsWay F part m p v
HasWay F part m (Variable v) = (p : ℕ) × IsWay F part m p v

-- One pair more, and each clause and each variable that had a partner has one.
pub record IsLonger (F : Cnf) (part : List ℕ) (m after : Matching) : Type 0 where
  pub matching : IsMatching F part after
  pub more : pair_count after ≡ pair_count m + 1
  pub clauses : (i : ℕ) → slice_index m.of_clause i ≢ 0 → slice_index after.of_clause i ≢ 0
  pub vars : (k : ℕ) → slice_index m.of_var k ≢ 0 → slice_index after.of_var k ≢ 0
