use Rattle.std.proofs.Common.{◌≡◌, ◌∙◌, ◌-◌, ℕ, refl, sym, subst, None, arith}
use Rattle.std.specs.Prelude.{find}
use Rattle.std.specs.List.{range_with_len}
use Rattle.check_tables.proofs.Spans.{first_in, none_at_more}
use Rattle.check_tables.proofs.places.first_passing.Goals as goal

pub loop-p-init : goal.loop-p-init
loop-p-init g c = λ by decides.
    let none : 0 ≡ c.args.span.first - c.args.span.first = omega arith in
    subst (λ (k : ℕ). find by (range_with_len c.args.span.first k) ≡ None) none refl

pub returns-then-test : goal.returns-then-test
returns-then-test g c = λ by decides.
    let yes = sym (decides c.loop-p.p c.test.result c.loop-p.auto.p c.loop-p-test.true (record { met = c.test.ensures })) ∙ c.if-test.true in
    first_in by c.args.span.first c.args.span.count c.loop-p.p c.loop-p.auto.p c.loop-p-test.true (c.loop-p.invariant by decides) yes

pub loop-p-preserved : goal.loop-p-preserved
loop-p-preserved g c = λ by decides.
    let no = sym (decides c.loop-p.p c.test.result c.loop-p.auto.p c.loop-p-test.true (record { met = c.test.ensures })) ∙ c.if-test.false in
    none_at_more by c.args.span.first c.loop-p.p c.loop-p.auto.p (c.loop-p.invariant by decides) no

pub returns : goal.returns
returns g c = λ by decides.
    let all : c.loop-p.p - c.args.span.first ≡ c.args.span.count = omega (arith, c.loop-p-test.false, c.loop-p.auto.p) in
    sym (subst (λ (k : ℕ). find by (range_with_len c.args.span.first k) ≡ None) all (c.loop-p.invariant by decides))
