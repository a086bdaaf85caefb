-- A reader of formulas that is fed from a shelf.
use Rattle.std.proofs.Common.{◌≡◌, ℕ, ◌-◌, ◌^◌, ◌<◌, ◌≤◌, List, ◌++◌, length}
use Rattle.dimacs_reader.specs.declared.reading.Held.{Held}
use Rattle.dimacs_reader.specs.declared.reading.Held.TheVariants.{Going, Stopped}
use Rattle.dimacs_reader.specs.Taken.{HasBeenFed, fed_count}
use Rattle.command_inputs.proofs.Streams.{fewer_left}

-- how many bytes it was fed
counted : (fed : List ℕ) (reader : Held) → HasBeenFed fed reader → fed_count reader ≡ length fed
counted fed (Going reading) h = h.size
counted fed (Stopped refused) h = absurd h

-- what is left of those that may be fed gets less
pub fewer : (fed bytes : List ℕ) (old new : Held) → HasBeenFed fed old → HasBeenFed (fed ++ bytes) new → 0 < length bytes → 2 ^ 30 - fed_count new < 2 ^ 30 - fed_count old
fewer fed bytes old new h k some = fewer_left HasBeenFed fed_count (2 ^ 30) fed bytes old new counted h k (within (fed ++ bytes) new k) some
  where
    within : (all : List ℕ) (held : Held) → HasBeenFed all held → length all ≤ 2 ^ 30
    within all (Going reading) b = b.few
    within all (Stopped refused) b = absurd b
