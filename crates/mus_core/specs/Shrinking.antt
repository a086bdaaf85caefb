-- A refuted set with witnesses for some of its places, and what follows when a clause is left out.
use Rattle.std.specs.Prelude.{◌≡◌, ℕ, ◌<◌, ◌≤◌, Bool, true, false, List, Option, filter, map, length, is_some, IsTrue}
use Rattle.lk_model.specs.Lists.{among}
use Rattle.lk_model.specs.Formulas.Formula.{Cnf, positions_of}
use Rattle.lk_model.specs.Formulas.Lean.{are_positions}
use Rattle.renaming_laws.specs.Renaming.{nth}
use Rattle.part_copy.specs.Copies.{Copy}
use Rattle.part_copy.specs.Found.{IsPartRefuted}
use Rattle.part_formula.specs.declared.deciding.Refuted.{Refuted}
use Rattle.mus_core.specs.declared.shrinking.LeftOut.{LeftOut}
use Rattle.mus_core.specs.declared.shrinking.LeftOut.TheVariants.{Kept, On, Ended}
use Rattle.mus_core.specs.Found.{IsMus}
use Rattle.mus_core.specs.WitnessValues.{witness_at, AreHeld, is_open}

-- A refutation of the clauses at places of a copy, in the formula's numbers, by at most `conflicts` learned clauses.
pub record IsRefutedWithin (c : Copy) (conflicts : ℕ) (r : Refuted) : Type 0 where
  pub places : IsTrue (are_positions c.clauses r.used)
  pub refuted : IsPartRefuted c.formula (map (nth c.part) r.used) conflicts r.round

-- the set has a refutation, and its witnesses are right
pub record IsShrunk (c : Copy) (conflicts : ℕ) (r : Refuted) (ws : List (Option (List (Option Bool)))) : Type 0 where
  pub refuted : IsRefutedWithin c conflicts r
  pub held : AreHeld c.clauses (among r.used) ws

-- how many places have no witness
abbrev pub left_open : Cnf → List ℕ → List (Option (List (Option Bool))) → ℕ
left_open F places ws = length (filter (is_open places ws) (positions_of F))

-- a place without a witness
pub record IsNext (c : Copy) (r : Refuted) (ws : List (Option (List (Option Bool)))) (p : ℕ) : Type 0 where
  pub there : among r.used p ≡ true
  pub none : is_some (witness_at ws p) ≡ false
  pub first : 0 < p
  pub last : p ≤ length c.clauses.clauses

-- The search goes on with fewer places that have no witness, or it ends.
abbrev pub IsLeftOut : Copy → ℕ → Refuted → List (Option (List (Option Bool))) → List (Option (List (Option Bool))) → LeftOut → Type 0
IsLeftOut c conflicts r ws us Kept = IsShrunk c conflicts r us × (left_open c.clauses r.used us < left_open c.clauses r.used ws)
IsLeftOut c conflicts r ws us (On s) = IsShrunk c conflicts s us × (left_open c.clauses s.used us < left_open c.clauses r.used ws)
IsLeftOut c conflicts r ws us (Ended m) = IsMus c.formula conflicts m
