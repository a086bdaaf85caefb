-- How a trail is held: as entries in order, as their literals, as a table by variable, and as a flag by literal that
-- tells whether it is true. There is room for every variable.
use Rattle.std.specs.Prelude.{◌≡◌, ℕ, ◌≤◌, ◌<◌, ◌+◌, ◌*◌, ◌-◌, Bool, false, ℤ, pos, negsuc, List, Option, Some, None, length, sum_by, slice_index_or, vec_capacity, IsTrue}
use Rattle.lk_model.specs.Formulas.Literal.{is_literal}
use Rattle.watch_prop.specs.declared.trail.Trail.TheInside.{Inside}
use Rattle.watch_prop.specs.declared.entry.Entry.{Entry}
use Rattle.watch_prop.specs.Trail.{Path, literals_of, entry_of, true_in, is_path}

abbrev pub seen : Inside → Path
seen t = record { vars = length t.table.items; entries = t.entries.items }

-- 1 where a variable is unset
abbrev pub unset_one : Option Entry → ℕ
unset_one None = 1
unset_one (Some e) = 0

-- the table has the entry of each variable
abbrev pub IsTable : List Entry → List (Option Entry) → Type 0
IsTable trail table = (v : ℕ) → v < length table → slice_index_or table v None ≡ entry_of trail (v + 1)

-- where a literal stands among the numbers from -n to n
abbrev pub place_of : ℕ → ℤ → ℕ
place_of n (pos v) = n + v
place_of n (negsuc k) = n - (k + 1)

-- the values say of each literal whether it is true
abbrev pub AreValues : ℕ → List Entry → List Bool → Type 0
AreValues vars trail values = (l : ℤ) → IsTrue (is_literal vars l) → slice_index_or values (place_of vars l) false ≡ true_in trail l

pub record IsHeldTrail (t : Inside) : Type 0 where
  pub vars : length t.table.items ≤ 1000000
  pub path : IsTrue (is_path (length t.table.items) t.entries.items)
  pub lits : t.lits.items ≡ literals_of t.entries.items
  pub table : IsTable t.entries.items t.table.items
  pub places : length t.values.items ≡ 2 * length t.table.items + 1
  pub values : AreValues (length t.table.items) t.entries.items t.values.items
  pub unset : sum_by unset_one t.table.items + length t.entries.items ≡ length t.table.items
  pub entries_room : length t.table.items ≤ vec_capacity t.entries
  pub lits_room : length t.table.items ≤ vec_capacity t.lits
