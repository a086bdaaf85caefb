-- The positions of the clauses with a variable.
use Rattle.std.proofs.Common.{◌≡◌, ℕ, zero, suc, ◌+◌, ◌*◌, ◌<◌, ◌≤◌, ◌++◌, [], true, List, ℤ, pos, negsuc, filter, length, get_or, arith}
use Rattle.std.specs.List.{All}
use Rattle.std.proofs.lemmas.Bool.{and_from, le-leb}
use Rattle.std.proofs.lemmas.List.Elements.{All-append, All-filter, All-same}
use Rattle.std.proofs.lemmas.List.FromFn.{get_or-range_with_len, length-range_with_len}
use Rattle.std.specs.Prelude.{nat_le}
use Rattle.lk_model.specs.Formulas.Literal.{contains, is_literal}
use Rattle.lk_model.specs.Formulas.Formula.{Cnf, clause_at, positions_of}
use Rattle.occurrence_lists.specs.Occurrences.{AreOccurrences}

-- positions from 1 to m
abbrev AreWithin : ℕ → List ℕ → Type 0
AreWithin m ps = All (λ p. (0 < p) × (p ≤ m)) ps

positions_within : (F : Cnf) → AreWithin (length F.clauses) (positions_of F)
positions_within F k d lt =
    let small : k < length F.clauses = omega (arith, lt, length-range_with_len 1 (length F.clauses)) in
    let is : get_or (positions_of F) k d ≡ 1 + k = get_or-range_with_len 1 (length F.clauses) k d small in
    (omega (arith, is), omega (arith, is, small))

-- those of the clauses with a literal
held_literal : (F : Cnf) (l : ℤ) (ps : List ℕ) → ps ≡ filter (λ p. contains (clause_at F p) l) (positions_of F) → AreWithin (length F.clauses) ps
held_literal F l ps is =
    All-same (λ p. (0 < p) × (p ≤ length F.clauses)) ps (filter (λ p. contains (clause_at F p) l) (positions_of F)) is
    (All-filter (λ p. contains (clause_at F p) l) (λ p. (0 < p) × (p ≤ length F.clauses)) (positions_of F) (positions_within F))

-- those of the clauses with one of the two literals of a variable
pub held_within : (F : Cnf) (lists : List (List ℕ)) (v : ℕ) → AreOccurrences F lists → 0 < v → v ≤ F.vars
    → AreWithin (length F.clauses) (get_or lists (2 * v) [] ++ get_or lists (2 * v + 1) [])
held_within F lists zero h first last = absurd (omega (arith, first))
held_within F lists (suc k) h first last =
    let literal : is_literal F.vars (pos (suc k)) ≡ true =
    and_from (nat_le 1 (suc k)) (nat_le (suc k) F.vars) (le-leb 1 (suc k) (omega arith)) (le-leb (suc k) F.vars last) in
    All-append (λ p. (0 < p) × (p ≤ length F.clauses)) (get_or lists (2 * suc k) []) (get_or lists (2 * suc k + 1) [])
    (held_literal F (pos (suc k)) (get_or lists (2 * suc k) []) (h.held (pos (suc k)) literal))
    (held_literal F (negsuc k) (get_or lists (2 * suc k + 1) []) (h.held (negsuc k) literal))
