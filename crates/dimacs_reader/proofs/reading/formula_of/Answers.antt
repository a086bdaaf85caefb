use Rattle.std.proofs.Common.{sym, subst}
use Rattle.dimacs_reader.specs.Faults.{IsRefusalOf}
use Rattle.dimacs_reader.specs.declared.refusal.Refused.{Refused}
use Rattle.dimacs_reader.proofs.Refusals.{refusal_at_end}
use Rattle.dimacs_reader.proofs.reading.formula_of.Goals as goal

pub returns-in-Err-clause-cause : goal.returns-in-Err-clause-cause
returns-in-Err-clause-cause c fed h =
    subst (λ (r : Refused). IsRefusalOf fed r) (sym c.by.ensures) (refusal_at_end fed c.args.reading.line c.in-Err.stop h.few h.line (c.in-Err.ensures.fault fed h))
