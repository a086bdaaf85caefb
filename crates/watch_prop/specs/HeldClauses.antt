-- How clauses are held: their numbers, and their literals one after another.
use Rattle.std.specs.Prelude.{◌≡◌, ℕ, ℤ, List, [], ◌∷◌, length}
use Rattle.lk_model.specs.Held.Flat.{cut, AreEnds}
use Rattle.watch_prop.specs.declared.clauses.Clauses.TheInside.{Inside}
use Rattle.watch_prop.specs.declared.entry.NumberedClause.{NumberedClause}

-- clauses by their numbers and their literals
abbrev pub numbered : List ℕ → List (List ℤ) → List NumberedClause
numbered [] cs = []
numbered (n ∷ ns) [] = []
numbered (n ∷ ns) (c ∷ cs) = record { number = n; lits = c } ∷ numbered ns cs

abbrev pub clauses_seen : Inside → List NumberedClause
clauses_seen c = numbered c.numbers.items (cut 0 c.lits.items c.ends.items)

pub record AreFlat (c : Inside) : Type 0 where
  pub cuts : AreEnds 0 c.ends.items (length c.lits.items)
  pub numbers : length c.numbers.items ≡ length c.ends.items
