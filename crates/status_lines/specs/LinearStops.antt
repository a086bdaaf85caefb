-- How the program ends where there is no linear kernel.
use Rattle.std.specs.Prelude.{◌≡◌, ℕ, List, []}
use Rattle.linear_kernel.specs.declared.stop.LinearStop.{LinearStop}
use Rattle.linear_kernel.specs.declared.stop.LinearStop.TheVariants as stop
use Rattle.status_lines.specs.RunLines.{budget_line, too_large_line, too_wide_line}
use Rattle.status_lines.specs.declared.status.Status.{Status}
use Rattle.status_lines.specs.declared.status.Status.TheVariants.{Budget, TooWide, TooLarge}

-- With this status nothing is written, and the line that says why is said; the line of memory that ran out is
-- elsewhere.
abbrev pub TellsStop : LinearStop → Status → List ℕ → List ℕ → Type 0
TellsStop (stop.TooLarge vars clauses) status written said = (status ≡ TooLarge) × (written ≡ []) × (said ≡ too_large_line vars clauses)
TellsStop (stop.TooWide made wide) status written said = (status ≡ TooWide) × (written ≡ []) × (said ≡ too_wide_line made wide)
TellsStop (stop.Budget pivots) status written said = (status ≡ Budget) × (written ≡ []) × (said ≡ budget_line pivots)
TellsStop stop.OutOfMemory status written said = ⊥
