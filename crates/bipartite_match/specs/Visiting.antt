-- How a search for one path visits clauses.
use Rattle.std.specs.Prelude.{◌≡◌, ◌≢◌, ℕ, ◌-◌, ◌<◌, ◌≤◌, ◌⊎◌, ◌||◌, Bool, if◌then◌else◌, ◌==◌, List, [], ◌∷◌, ◌++◌, length, map, slice_index, slice_index_or, slice_set, false, IsTrue}
use Rattle.lk_model.specs.Formulas.Literal.{mentions}
use Rattle.lk_model.specs.Formulas.Formula.{Cnf, clause_at, is_formula}
use Rattle.lk_model.specs.Formulas.Lean.{are_positions}
use Rattle.lk_model.specs.Held.VariableSets.{is_in, with_variable}
use Rattle.bipartite_match.specs.declared.augmenting.Start.{Start}
use Rattle.bipartite_match.specs.declared.augmenting.Start.TheVariants.{Clause, Variable}
use Rattle.bipartite_match.specs.declared.matching.Matching.{Matching}
use Rattle.bipartite_match.specs.declared.visits.Visit.{Visit}
use Rattle.bipartite_match.specs.declared.visits.Visits.{Visits}
use Rattle.bipartite_match.specs.Matchings.{IsMatching, IsUnmatched, IsReady}
use Rattle.bipartite_match.specs.Ways.{IsStart, IsFree}

abbrev pub no_visit : Visit
no_visit = record { pos = 0; by = 0; from = 0 }

abbrev pub visit_at : List Visit → ℕ → Visit
visit_at q k = slice_index_or q k no_visit

-- The visits in their order, the variables by which they were reached, and the free variable that was looked for, or 0.
pub record Seen : Type 0 where
  pub queue : List Visit
  pub seen : List Bool
  pub end : ℕ

-- how the code holds it
abbrev pub seen_of : Visits → List Bool → Seen
seen_of s marks = record { queue = s.queue.items; seen = marks; end = s.end }

-- from where a search begins
abbrev pub IsRoot : List ℕ → Matching → Start → ℕ → Type 0
IsRoot part m (Clause p) q = q ≡ p
IsRoot part m (Variable v) q = IsUnmatched part m q

-- the number of the variable that is looked for, 0 where any free one is
abbrev pub goal_of : Start → ℕ
goal_of (Clause p) = 0
goal_of (Variable v) = v

-- the root of a visit has no variable by which it was reached
abbrev pub root_visit : ℕ → Visit
root_visit p = record { pos = p; by = 0; from = 0 }

-- for a variable they are all unmatched clauses
abbrev pub roots_of : List ℕ → Start → List Visit
roots_of unmatched (Clause p) = root_visit p ∷ []
roots_of unmatched (Variable v) = map root_visit unmatched

-- a variable is met in the clause at a place of the queue
abbrev pub met : List ℕ → ℕ → ℕ → ℕ → Seen → Seen
met of_var goal place v s = if is_in s.seen v
    then s
    else (if slice_index of_var (v - 1) == 0
    then (if (goal == 0) || (goal == v) then record s { end = v } else s)
    else record s { seen = with_variable s.seen v; queue = s.queue ++ record { pos = slice_index of_var (v - 1); by = v; from = place } ∷ [] })

-- Marked are at most the variables by which clauses were reached, so going through the queue takes all marks away.
pub record AreMarks (q : List Visit) (marks : List Bool) : Type 0 where
  pub by : (v : ℕ) → IsTrue (is_in marks v) → (k : ℕ) × (k < length q) × ((visit_at q k).by ≡ v)
  pub within : (k : ℕ) → k < length q → (visit_at q k).by ≤ length marks

-- What is visited: roots, and clauses that were reached by a variable of an earlier one. None is visited twice.
pub record AreVisits (F : Cnf) (part : List ℕ) (m : Matching) (from : Start) (q : List Visit) : Type 0 where
  pub root : (k : ℕ) → k < length q → (visit_at q k).by ≡ 0 → IsRoot part m from (visit_at q k).pos
  pub earlier : (k : ℕ) → k < length q → (visit_at q k).by ≢ 0 → (visit_at q k).from < k
  pub holds : (k : ℕ) → k < length q → (visit_at q k).by ≢ 0 → IsTrue (mentions (clause_at F (visit_at q (visit_at q k).from).pos) (visit_at q k).by)
  pub mate : (k : ℕ) → k < length q → (visit_at q k).by ≢ 0 → slice_index m.of_var ((visit_at q k).by - 1) ≡ (visit_at q k).pos
  pub some : (k : ℕ) → k < length q → (i : ℕ) × (i < length part) × (slice_index part i ≡ (visit_at q k).pos)
  pub once : (k l : ℕ) → k < length q → l < length q → (visit_at q k).pos ≡ (visit_at q l).pos → k ≡ l

-- the search ended at a free variable that is looked for, in the clause at a place of the queue
pub record EndsIn (F : Cnf) (part : List ℕ) (m : Matching) (from : Start) (q : List Visit) (place v : ℕ) : Type 0 where
  pub visits : AreVisits F part m from q
  pub inside : place < length q
  pub free : IsFree F m v
  pub holds : IsTrue (mentions (clause_at F (visit_at q place).pos) v)
  pub wanted : IsTrue ((goal_of from == 0) || (goal_of from == v))

-- Nothing was found: the roots are visited, and each variable of a visited clause is matched with a visited one, or it
-- is free and not looked for.
pub record HasNoEnd (F : Cnf) (part : List ℕ) (m : Matching) (from : Start) (q : List Visit) : Type 0 where
  pub visits : AreVisits F part m from q
  pub roots : (p : ℕ) → IsRoot part m from p → (k : ℕ) × (k < length q) × ((visit_at q k).pos ≡ p)
  pub closed : (k v : ℕ) → k < length q → IsTrue (mentions (clause_at F (visit_at q k).pos) v)
      → ((l : ℕ) × (l < length q) × ((visit_at q l).pos ≡ slice_index m.of_var (v - 1))) ⊎ ((slice_index m.of_var (v - 1) ≡ 0) × (((goal_of from == 0) || (goal_of from == v)) ≡ false))

-- what a search ends with
pub record IsSearched (F : Cnf) (part : List ℕ) (m : Matching) (from : Start) (s : Visits) : Type 0 where
  pub formula : IsTrue (is_formula F)
  pub found : s.end ≢ 0 → EndsIn F part m from s.queue.items s.place s.end
  pub nothing : s.end ≡ 0 → HasNoEnd F part m from s.queue.items

-- What going through clauses from the start on asks. Only where a path is looked for must a variable that it begins at be free.
pub record CanVisit (F : Cnf) (part : List ℕ) (m : Matching) (from : Start) : Type 0 where
  pub part_rises : IsTrue (are_positions F part)
  pub matching : IsMatching F part m
  pub bare : (p : ℕ) → IsRoot part m from p → IsUnmatched part m p

-- A search reads the positions of the variables, the unmatched positions and the marks. Behind them stands a matching of a
-- part, ready for the search. No code need hold the part or the variables of its clauses.
pub record CanRead (F : Cnf) (of_var unmatched : List ℕ) (marks : List Bool) (from : Start) (part : List ℕ) (m : Matching) : Type 0 where
  pub can : CanVisit F part m from
  pub ready : IsReady F part m
  pub vars : m.of_var ≡ of_var
  pub bare : m.unmatched ≡ unmatched
  pub marks_are : m.seen ≡ marks

-- as in `CanRead`, and the roots are in the queue
abbrev pub CanBegin : Cnf → List ℕ → List Bool → List Visit → Start → List ℕ → Matching → Type 0
CanBegin F of_var marks q from part m = CanRead F of_var m.unmatched marks from part m × (q ≡ roots_of m.unmatched from)

-- what a search for a path asks
pub record CanSearch (F : Cnf) (part : List ℕ) (m : Matching) (from : Start) : Type 0 where
  pub part_rises : IsTrue (are_positions F part)
  pub matching : IsMatching F part m
  pub start : IsStart F part m from

-- The clause at index i, which is at position p, gives its variable up, if it has one, and takes v.
abbrev pub with_own : Matching → ℕ → ℕ → ℕ → Matching
with_own m i p v = record m {
  of_clause = slice_set m.of_clause i v;
  of_var = slice_set (if slice_index m.of_clause i == 0 then m.of_var else slice_set m.of_var (slice_index m.of_clause i - 1) 0) (v - 1) p;
}
