-- What the matching reducer finds in groups of positions that share no variable, as parts do, joined.
use Rattle.std.specs.Prelude.{◌≡◌, ◌^◌, ℕ, List, [], ◌∷◌, ⊤, length}
use Rattle.std.specs.List.{flat_map}
use Rattle.lk_model.specs.Formulas.Formula.{Cnf, positions_of}
use Rattle.lk_model.specs.Formulas.Parts.{AreParts}
use Rattle.lk_model.specs.declared.document.Own.{Own}
use Rattle.lk_model.specs.declared.document.MatchRow.{MatchRow}
use Rattle.lk_model.specs.declared.result.MatchingResult.{MatchingResult}
use Rattle.matching_laws.specs.MatchingResults.{IsMatchingResult}
use Rattle.par_parts.specs.Groups.{IsDisjointCover}
use Rattle.autarky_compose.specs.Ordered.{AreInOrder}

-- one result for each of these groups
abbrev pub AreMatchingResults : Cnf → List (List ℕ) → List MatchingResult → Type 0
AreMatchingResults F [] [] = ⊤
AreMatchingResults F (group ∷ groups) (r ∷ found) = IsMatchingResult F group r × AreMatchingResults F groups found
AreMatchingResults F _ _ = ⊥

-- results for groups of the positions of a formula of m clauses
pub record AreOfGroups (m : ℕ) (found : List MatchingResult) : Type 0 where
  pub formula : Cnf
  pub groups : List (List ℕ)
  pub count : length formula.clauses ≡ m
  pub cover : IsDisjointCover formula groups
  pub results : AreMatchingResults formula groups found

-- what all results keep, their own lines and their rows
abbrev pub all_kept : List MatchingResult → List ℕ
all_kept found = flat_map (λ (r : MatchingResult). r.kept) found

abbrev pub all_own : List MatchingResult → List Own
all_own found = flat_map (λ (r : MatchingResult). r.own) found

abbrev pub all_rows : List MatchingResult → List MatchRow
all_rows found = flat_map (λ (r : MatchingResult). r.rows) found

-- A result made of them all: the positions that they keep and their own lines by position, their rows by variable. The
-- variables are numbers of 32 bits.
pub record AreJoined (m : ℕ) (found : List MatchingResult) (t : MatchingResult) : Type 0 where
  pub kept : AreInOrder (λ p. p) m (all_kept found) t.kept
  pub own : AreInOrder (λ (o : Own). o.pos) m (all_own found) t.own
  pub rows : AreInOrder (λ (w : MatchRow). w.var) (2 ^ 32) (all_rows found) t.rows

-- THE LAW

pub record JoinedMatchingLaw : Type 0 where
  -- What the matching reducer finds in the groups is, joined, what it finds in all positions.
  pub whole : (F : Cnf) (groups : List (List ℕ)) (found : List MatchingResult) (t : MatchingResult) → IsDisjointCover F groups
      → AreMatchingResults F groups found → AreJoined (length F.clauses) found t → IsMatchingResult F (positions_of F) t
  -- The parts of a formula are such groups.
  pub parts : (F : Cnf) (parts : List (List ℕ)) → AreParts F parts → IsDisjointCover F parts
