-- What becomes of what was read, and a line.
use Rattle.std.specs.Prelude.{◌≡◌, Bool, true, false, Option, Some, None}

-- the line led to what it leads to, or to nothing
abbrev pub IsTaken : {X : Type 0} → Option X → Bool → X → Type 0
IsTaken None taken now = taken ≡ false
IsTaken (Some next) taken now = (taken ≡ true) × (now ≡ next)
