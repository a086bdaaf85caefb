use Rattle.std.proofs.Common.{◌+◌, ℕ, sym, ap}
use Rattle.std.proofs.lemmas.Result.{IfErr-weaker, IfOk-weaker}
use Rattle.dimacs_reader.proofs.Endings.{spelled, fault_at_the_end}
use Rattle.dimacs_reader.proofs.reading.finished.Goals as goal

pub returns-clause-ok : goal.returns-clause-ok
returns-clause-ok c fed h =
    IfOk-weaker c.finish.result _ _ (λ F w. spelled fed c.in_ok-all_read.field-0 _ F (ap (λ (n : ℕ). n + 1) (sym h.size)) h.few (c.in_ok-all_read.ensures.ok fed h) w) c.finish.ensures.ok

pub returns-clause-fault : goal.returns-clause-fault
returns-clause-fault c fed h =
    IfErr-weaker c.finish.result _ _ (λ s has. fault_at_the_end fed c.in_ok-all_read.field-0 _ s (ap (λ (n : ℕ). n + 1) (sym h.size)) (c.in_ok-all_read.ensures.ok fed h) has) c.finish.ensures.fault
