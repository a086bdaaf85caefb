-- Numbered calls, some of which are set to fail.
use Rattle.std.specs.Prelude.{ℕ, List, Bool, ◌==◌, if◌then◌else◌}
use Rattle.std.specs.List.{list_any}
use Rattle.lk_outside.specs.Causes.{one_more}

-- whether a call of that number is set to fail
abbrev pub is_told_to_fail : List ℕ → ℕ → Bool
is_told_to_fail fail number = list_any (λ told. told == number) fail

-- the count of failed calls after a call that failed or did not
abbrev pub faults_after : Bool → ℕ → ℕ
faults_after failed faults = if failed then one_more faults else faults
