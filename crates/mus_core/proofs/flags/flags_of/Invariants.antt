use Rattle.std.proofs.Common.{◌≡◌, ◌+◌, ℕ, length, take}
use Rattle.lk_model.specs.Lists.{among}
use Rattle.mus_core.specs.Flags.{flag_at}
use Rattle.mus_core.proofs.flags.flags_of.Given as goal

-- the places before are flagged, and no others
abbrev pub invariant-loop-place : goal.invariant-loop-place
invariant-loop-place l = (length l.flags.items ≡ l.m + 1) × ((k : ℕ) → flag_at l.flags.items k ≡ among (take l.place-index l.places) k)
