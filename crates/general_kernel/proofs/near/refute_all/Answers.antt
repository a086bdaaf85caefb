use Rattle.std.proofs.Common.{rules, ◌∙◌, ℕ, ◌≤◌, false, ap, replicate, refl, arith}
use Rattle.general_kernel.proofs.NearRounds.{refutes_all}
use Rattle.general_kernel.proofs.near.refute_all.Goals as goal

pub returns-in-Refuted : goal.returns-in-Refuted
returns-in-Refuted c =
    let few = c.len.ensures.few in
    let most : c.min.result ≤ 64 = search rules in
    refutes_all c.args.f.now _ _ _ c.min.result c.args.budget c.in_ok-log.field-0 c.in-Refuted.log _
    (record { over = _; decided = c.in_ok-log.ensures; formula = refl; positions = refl; blocked = refl }) c.in-Refuted.is
    (c.as_slice.ensures ∙ c.in_ok-part.ensures.value) (c.in_ok-blocked.ensures ∙ ap (λ (n : ℕ). replicate n false) c.vars.ensures.value)
    (omega (arith, c.len.ensures.value, c.from-next.ensures)) c.len.ensures.formula (omega (arith, few, most, c.from-next.ensures)) (search rules)
    c.in_ok-round-in-Refuted.ensures.steps c.in_ok-used-in-Refuted.ensures
