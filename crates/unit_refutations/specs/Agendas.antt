-- The clauses that wait to be looked at.
use Rattle.std.specs.Prelude.{◌≡◌, ℕ, Bool, List, length, IsTrue}
use Rattle.std.specs.List.{list_all}
use Rattle.lk_model.specs.Held.VariableSets.{is_in}
use Rattle.unit_refutations.specs.declared.agenda.Agenda.TheInside.{Inside}

-- which positions from 1 on are inside, and those that wait
pub record Planned : Type 0 where
  pub inside : List Bool
  pub waiting : List ℕ

pub record IsPlan (a : Inside) : Type 0 where
  pub counts : length a.counts.items ≡ length a.inside.items
  pub waiting : IsTrue (list_all (is_in a.inside.items) a.waiting.items)
