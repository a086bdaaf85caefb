-- What a read takes, where the bytes that are left are visible.
use Rattle.std.specs.Prelude.{◌≡◌, ℕ, List, take}
use Rattle.std.specs.declared.option.Option.{Option}
use Rattle.std.specs.Io.KnownBytes.{Consumes, IsAtEnd}

-- a read gave the first k of the bytes that were left, and none only where none was left
abbrev pub ReadTakes : Option (List ℕ) → Option (List ℕ) → ℕ → List ℕ → Type 0
ReadTakes before now k piece = Consumes before now (take k piece) × (k ≡ 0 → IsAtEnd before)
