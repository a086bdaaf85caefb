use Rattle.std.proofs.Common.{◌≡◌, ◌-◌, None}
use Rattle.std.specs.Prelude.{find}
use Rattle.std.specs.List.{range_with_len}
use Rattle.lk_model.specs.Formulas.Formula.{clause_at}
use Rattle.check_linear.specs.Linear.{is_bad_stage}
use Rattle.check_linear.proofs.linear.bad_stage_in.Given as goal

-- no position so far fails
abbrev pub invariant-loop-p : goal.invariant-loop-p
invariant-loop-p l = find (λ p. is_bad_stage l.last l.firsts.places.items l.firsts.weights.items (clause_at l.f p)) (range_with_len l.fn.span.first (l.p - l.fn.span.first)) ≡ None
