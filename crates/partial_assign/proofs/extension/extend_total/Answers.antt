use Rattle.std.proofs.Common.{◌≡◌, ◌∙◌, ℤ, List, Bool, Option, ap, arith, length, unwrap_or, false, ◌+◌}
use Rattle.lk_model.specs.Formulas.Literal.{literal_of}
use Rattle.lk_model.specs.Held.PartialValues.{assignment_by}
use Rattle.lk_model.specs.Formulas.Assignment.{assignment_of, extended_literals}
use Rattle.partial_assign.proofs.Extensions.{literals_more, values_of}
use Rattle.partial_assign.proofs.extension.extend_total.Goals as goal

pub loop-v-preserved : goal.loop-v-preserved
loop-v-preserved c =
    let k = c.loop-v.v in
    literals_more (assignment_by c.args.phi.now) (assignment_by c.args.psi.now) k _ _ c.from_var.result c.loop-v.invariant
    (c.from_var.ensures ∙ ap (literal_of (k + 1)) (c.unwrap_or-value.ensures ∙ ap (λ (o : Option Bool). unwrap_or o false) c.composed_value.ensures)) c.in_ok-push.ensures.items

pub returns-clause-values : goal.returns-clause-values
returns-clause-values c =
    let φ = assignment_by c.args.phi.now in
    let ψ = assignment_by c.args.psi.now in
    let all : c.loop-v.v ≡ length c.args.phi.now = omega (arith, c.loop-v-test.false, c.loop-v.auto.v-end, c.vars-v-end.ensures.value) in
    ap (λ (ls : List ℤ). assignment_of ls) (c.from_vec.ensures ∙ c.loop-v.invariant ∙ ap (extended_literals φ ψ) all) ∙ values_of φ ψ (length c.args.phi.now)
