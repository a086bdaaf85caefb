-- What the matching reducer finds in a part of a formula (Kullmann 2003), and the document that states it.
use Rattle.std.specs.Prelude.{◌≡◌, ℕ, ◌<◌, ◌^◌, not, ◌&&◌, ◌==◌, List, length, filter, map, find, Contains, IsTrue, ℤ, Option, None}
use Rattle.std.specs.Bool.{IsFalse}
use Rattle.std.specs.List.{filter_map}
use Rattle.std.specs.Option.{option_and_then}
use Rattle.lk_model.specs.Lists.{among}
use Rattle.lk_model.specs.Formulas.Literal.{variable, mentions}
use Rattle.lk_model.specs.Formulas.Formula.{Cnf, is_formula, IsWithinLimits, clause_at, positions_of, variables_to, variables_at}
use Rattle.lk_model.specs.Formulas.Crossed.{no_variable}
use Rattle.lk_model.specs.Formulas.Lean.{are_positions, KernelWithin}
use Rattle.lk_model.specs.Checks.CommonChecks.{other_formula, kept_clause, autarky_fails, removal_fails}
use Rattle.lk_model.specs.Checks.MatchingChecks.{owner_fails, bad_row}
use Rattle.lk_model.specs.Documents.Form.{is_done_in_form}
use Rattle.lk_model.specs.Reduction.{Reduces}
use Rattle.lk_model.specs.declared.class.Class.TheVariants as class
use Rattle.lk_model.specs.declared.document.Own.{Own}
use Rattle.lk_model.specs.declared.document.MatchRow.{MatchRow}
use Rattle.lk_model.specs.declared.document.Body.TheVariants.{Matching}
use Rattle.lk_model.specs.declared.document.DoneDocument.{DoneDocument}
use Rattle.lk_model.specs.declared.result.MatchingResult.{MatchingResult}
use Rattle.lk_model.specs.Formulas.Formula.{clauses_at}

-- the positions of a list that are not among the kept ones
abbrev pub removed_of : List ℕ → List ℕ → List ℕ
removed_of part kept = filter (λ p. not (among kept p)) part

-- a removed clause contains its own variable
abbrev pub IsOwn : Cnf → Own → Type 0
IsOwn F o = IsTrue (mentions (clause_at F o.pos) o.var)

-- the own position and the escape of a row are kept clauses with the variable
pub record IsRow (F : Cnf) (kept : List ℕ) (r : MatchRow) : Type 0 where
  pub own : IsTrue (among kept r.own && mentions (clause_at F r.own) r.var)
  pub escape : IsTrue (among kept r.escape && mentions (clause_at F r.escape) r.var)

-- Some positions of the part are kept. Each other one has a variable of its own, which no kept clause has, and each
-- variable of the kept clauses has a row.
pub record IsMatchingResult (F : Cnf) (part : List ℕ) (r : MatchingResult) : Type 0 where
  pub positions : IsTrue (are_positions F r.kept)
  pub within : (p : ℕ) → IsTrue (among r.kept p) → IsTrue (among part p)
  -- an own line for each removed position, in their order; no two have one variable, and none occurs in a kept clause
  pub removed : map (λ (o : Own). o.pos) r.own ≡ removed_of part r.kept
  pub owned : (o : Own) → Contains r.own o → IsOwn F o
  pub owns_differ : (o u : Own) → Contains r.own o → Contains r.own u → o.var ≡ u.var → o.pos ≡ u.pos
  pub owns_removed : (o : Own) (p : ℕ) → Contains r.own o → IsTrue (among r.kept p) → IsTrue (mentions (clause_at F p) o.var) → ⊥
  -- a row for each variable of the kept clauses, in their order
  pub variables : map (λ (w : MatchRow). w.var) r.rows ≡ variables_at F r.kept
  pub rows : (w : MatchRow) → Contains r.rows w → IsRow F r.kept w
  -- own positions differ, and the variable of which an escape is the own position has a lesser rank
  pub rows_differ : (w u : MatchRow) → Contains r.rows w → Contains r.rows u → w.own ≡ u.own → w.var ≡ u.var
  pub ranks : (w u : MatchRow) → Contains r.rows w → Contains r.rows u → u.own ≡ w.escape → u.rank < w.rank
  pub ranks_fit : (w : MatchRow) → Contains r.rows w → w.rank < 2 ^ 32

-- THE DOCUMENT

-- the first literal of a clause on a variable
abbrev pub literal_on : List ℤ → ℕ → Option ℤ
literal_on c v = find (λ l. variable l == v) c

-- the first literal on a variable in the clause whose own variable it is
abbrev pub own_literal : Cnf → List Own → ℕ → Option ℤ
own_literal F own v = option_and_then (λ (o : Own). literal_on (clause_at F o.pos) v) (find (λ (o : Own). o.var == v) own)

-- the set line: such a literal for each own line, and no other
abbrev pub set_line : Cnf → List Own → List ℤ
set_line F own = filter_map (own_literal F own) (variables_to F.vars)

-- the finished document of a result, without protected variables
abbrev pub matching_document : Cnf → MatchingResult → DoneDocument
matching_document F r = record {
  vars = F.vars;
  clauses = length F.clauses;
  protect = None;
  kept = r.kept;
  set = set_line F r.own;
  body = Matching r.own r.rows;
  texts = clauses_at F r.kept;
}

-- No check of it fails at a position of the part or at a variable.
pub record PassesWithin (F : Cnf) (part : List ℕ) (r : MatchingResult) : Type 0 where
  pub formula : (other_formula F F.vars (length F.clauses)).place ≡ None
  pub clauses : (kept_clause F (matching_document F r)).place ≡ None
  pub autarky : (p : ℕ) → IsTrue (among part p) → IsFalse (autarky_fails F (matching_document F r) p)
  pub removal : (p : ℕ) → IsTrue (among part p) → IsFalse (removal_fails F (matching_document F r) p)
  pub owners : (p : ℕ) → IsTrue (among part p) → IsFalse (owner_fails F (matching_document F r) r.own p)
  pub rows : (bad_row no_variable F (matching_document F r) r.rows).place ≡ None

-- THE LAW

-- The document of what the reducer finds in a part is in form, none of its checks fails there, and what is kept is the
-- matching kernel of the part. Where the part is the whole formula the document reduces the formula.
pub record MatchingResultLaw : Type 0 where
  pub form : (F : Cnf) (part : List ℕ) (r : MatchingResult) → IsTrue (is_formula F) → IsWithinLimits F → IsTrue (are_positions F part)
      → IsMatchingResult F part r → IsTrue (is_done_in_form (matching_document F r))
  pub checks : (F : Cnf) (part : List ℕ) (r : MatchingResult) → IsTrue (is_formula F) → IsMatchingResult F part r → PassesWithin F part r
  pub kernel : (F : Cnf) (part : List ℕ) (r : MatchingResult) → IsTrue (is_formula F) → IsMatchingResult F part r
      → KernelWithin class.Matching F part r.kept
  pub reduces : (F : Cnf) (pivots : ℕ) (r : MatchingResult) → IsTrue (is_formula F) → IsWithinLimits F → IsMatchingResult F (positions_of F) r
      → Reduces F class.Matching pivots (matching_document F r)
