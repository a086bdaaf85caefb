-- The last of some numbers.
use Rattle.std.specs.Prelude.{ℕ, List, [], ◌∷◌}

-- the last number of the list, or `low` if there is none
abbrev pub last_or : ℕ → List ℕ → ℕ
last_or low [] = low
last_or low (n ∷ ns) = last_or n ns
