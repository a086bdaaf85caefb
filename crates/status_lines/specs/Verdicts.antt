-- The status of a verdict.
use Rattle.lean_checker.specs.declared.verdict.Verdict.{Verdict}
use Rattle.lean_checker.specs.declared.verdict.Verdict.TheVariants as verdict
use Rattle.status_lines.specs.declared.status.Status.{Status}
use Rattle.status_lines.specs.declared.status.Status.TheVariants.{Done, Budget, Refused}

-- the status that reports a verdict
abbrev pub verdict_status : Verdict → Status
verdict_status verdict.Accepted = Done
verdict_status (verdict.Unfinished learned) = Budget
verdict_status (verdict.No why) = Refused
