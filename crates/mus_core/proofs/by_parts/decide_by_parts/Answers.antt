use Rattle.std.proofs.Common.{◌≤◌, ℤ, List, subst, arith}
use Rattle.lk_model.specs.declared.decided.Decided.{Decided}
use Rattle.part_formula.specs.declared.deciding.Refuted.{Refuted as Refutation}
use Rattle.mus_core.specs.declared.mus.Mus.{Mus}
use Rattle.mus_core.specs.ByParts.{IsDecidedByParts}
use Rattle.part_formula.proofs.Budgets.{more_allowed}
use Rattle.mus_core.proofs.by_parts.decide_by_parts.Goals as goal

pub returns-in-Refuted : goal.returns-in-Refuted
returns-in-Refuted c =
    let first = c.in-Some.first in
    let within : first ≤ c.args.conflicts = omega (arith, c.in-Some.ensures.value, c.get.ensures.value) in
    let part = subst (λ (d : Decided (List ℤ) Refutation Mus). IsDecidedByParts c.args.f.now first d) c.in-Refuted.is c.in_ok-set.ensures in
    record { positions = part.positions; refuted = more_allowed within part.refuted }
