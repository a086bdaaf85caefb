-- Unit propagation over numbered clauses.
use Rattle.std.specs.Prelude.{◌≡◌, ℕ, ◌+◌, Bool, true, false, not, ◌&&◌, ◌==◌, nat_le, List, [], ◌∷◌, ◌++◌, map, filter, ℤ, None, is_some, IsTrue}
use Rattle.std.specs.List.{list_all}
use Rattle.std.specs.Option.{option_map_or}
use Rattle.lk_model.specs.Lists.{is_empty, among}
use Rattle.lk_model.specs.Formulas.Literal.{is_clause, is_tautology}
use Rattle.lk_model.specs.Limits.{max_vars}
use Rattle.lk_model.specs.Formulas.Formula.{clause_at}
use Rattle.lk_model.specs.Formulas.Assignment.{Assignment}
use Rattle.lk_model.specs.Formulas.Units.{is_false, is_unit_under}
use Rattle.lk_model.specs.Formulas.Crossed.{crossed_out}
use Rattle.lk_model.specs.Held.VariableSets.{is_in}
use Rattle.lk_model.specs.declared.crossed.Crossed.{Crossed}
use Rattle.watch_prop.specs.declared.entry.Entry.{Entry}
use Rattle.watch_prop.specs.declared.entry.NumberedClause.{NumberedClause}
use Rattle.watch_prop.specs.declared.entry.Propagated.{Propagated}
use Rattle.watch_prop.specs.declared.entry.Propagated.TheVariants.{Quiet, Conflict}
use Rattle.watch_prop.specs.Trail.{assignment_along, present_level, up_to_level, clause_numbered, is_trail}

-- the number of variables, the clauses that are held, and the trail
pub record Propagation : Type 0 where
  pub vars : ℕ
  pub clauses : List NumberedClause
  pub trail : List Entry

-- the assignment of the trail
abbrev pub assigned : Propagation → Assignment
assigned p = assignment_along p.trail

-- the numbers of the clauses
abbrev pub numbers_of : List NumberedClause → List ℕ
numbers_of clauses = map (λ (c : NumberedClause). c.number) clauses

-- the non-empty crossed clauses of the part, each with its position as its number
abbrev pub crossed_clauses : Crossed → List NumberedClause
crossed_clauses over = filter (λ (c : NumberedClause). not (is_empty c.lits))
    (map (λ p. record { number = p; lits = crossed_out (is_in over.blocked.now) (clause_at over.formula.now p) }) over.part.now)

-- no clause is false or has just one unset literal and no true one
abbrev pub is_quiet : Assignment → List NumberedClause → Bool
is_quiet φ clauses = list_all (λ (c : NumberedClause). not (is_false φ c.lits) && not (is_unit_under φ c.lits)) clauses

-- what a propagation returns
abbrev pub IsAnswered : Propagation → Propagated → Type 0
IsAnswered p Quiet = IsTrue (is_quiet (assigned p) p.clauses)
IsAnswered p (Conflict k) = IsTrue (option_map_or (is_false (assigned p)) (clause_numbered p.clauses k) false)

-- The later one has the same clauses, and its trail goes on at the present level with literals that clauses forced.
pub record GoesOn (before after : Propagation) : Type 0 where
  pub forced : List Entry
  pub vars : after.vars ≡ before.vars
  pub clauses : after.clauses ≡ before.clauses
  pub trail : after.trail ≡ before.trail ++ forced
  pub levels : IsTrue (list_all (λ (e : Entry). e.level == present_level before.trail && is_some e.reason) forced)

-- with one more clause
abbrev pub with_held : Propagation → ℕ → List ℤ → Propagation
with_held p number lits = record p { clauses = p.clauses ++ record { number = number; lits = lits } ∷ [] }

-- with a literal that opens a level
abbrev pub with_assigned : Propagation → ℤ → Propagation
with_assigned p l = record p { trail = p.trail ++ record { lit = l; level = present_level p.trail + 1; reason = None } ∷ [] }

-- back at a level
abbrev pub back_at : Propagation → ℕ → Propagation
back_at p level = record p { trail = up_to_level level p.trail }

-- a clause that may be held: it is not empty, and no variable stands twice in it
abbrev pub may_be_held : ℕ → List ℤ → Bool
may_be_held vars c = not (is_empty c) && is_clause vars c && not (is_tautology c)

-- no number stands twice
abbrev pub are_distinct : List ℕ → Bool
are_distinct [] = true
are_distinct (n ∷ ns) = not (among ns n) && are_distinct ns

-- what every propagation keeps
pub record IsPropagation (p : Propagation) : Type 0 where
  pub vars : IsTrue (nat_le p.vars max_vars)
  pub clauses : IsTrue (list_all (λ (c : NumberedClause). not (is_empty c.lits) && is_clause p.vars c.lits) p.clauses)
  pub numbers : IsTrue (are_distinct (numbers_of p.clauses))
  pub trail : IsTrue (is_trail p.vars p.clauses p.trail)
