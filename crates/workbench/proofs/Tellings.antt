-- What a status tells of a verdict.
use Rattle.std.proofs.Common.{◌≡◌, Option, Some, None, refl}
use Rattle.lk_model.specs.declared.verdict.Why.{Why}
use Rattle.lean_checker.specs.declared.verdict.Verdict.{Verdict}
use Rattle.lean_checker.specs.declared.verdict.Verdict.TheVariants as verdict
use Rattle.command_endings.specs.Commands.Verify.{verdict_by}
use Rattle.status_lines.specs.Verdicts.{verdict_status}
use Rattle.status_lines.specs.declared.status.Status.TheVariants.{Done}

pub accepted_by : (v : Verdict) → Done ≡ verdict_status v → v ≡ verdict.Accepted
accepted_by verdict.Accepted e = refl
accepted_by v e = absurd (let f : ⊥ = cc e in f)

pub passes_by : (o : Option Why) → Done ≡ verdict_status (verdict_by o) → o ≡ None
passes_by None e = refl
passes_by (Some why) e = absurd (let f : ⊥ = cc e in f)
