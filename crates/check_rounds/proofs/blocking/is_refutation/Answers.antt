use Rattle.std.proofs.Common.{◌∙◌, sym, ap, ℕ}
use Rattle.std.specs.Prelude.{◌==◌}
use Rattle.check_rounds.proofs.Reaching.{refutes_last, empty_is}
use Rattle.check_rounds.proofs.blocking.is_refutation.Goals as goal

pub returns-in-Some : goal.returns-in-Some
returns-in-Some c =
    let s = c.in-Some.step.now in
    ap (λ (n : ℕ). n == 0) c.len.ensures ∙ empty_is s.clause ∙ sym (refutes_last c.args.steps.now s c.in-Some.ensures.item.3.0 c.in-Some.ensures.item.1)
