use Rattle.std.proofs.Common.{◌≡◌, ◌∙◌, ℤ, true, false, List, sym, ap}
use Rattle.lk_model.specs.Formulas.Formula.{clause_at}
use Rattle.check_linear.specs.Linear.{is_bad_stage}
use Rattle.check_tables.proofs.Spans.{first_in, none_at_more}
use Rattle.check_linear.proofs.linear.bad_stage_in.Goals as goal

pub returns-then-branch : goal.returns-then-branch
returns-then-branch c =
    let places = c.args.firsts.now.places.items in
    let weights = c.args.firsts.now.weights.items in
    let passes : is_bad_stage c.args.last places weights (clause_at c.args.f.now c.loop-p.p) ≡ true =
    ap (λ (ls : List ℤ). is_bad_stage c.args.last places weights ls) (sym c.clause.ensures.value) ∙ sym c.in_ok-is_bad_stage.ensures ∙ c.if-branch.true in
    first_in (λ p. is_bad_stage c.args.last places weights (clause_at c.args.f.now p)) c.args.span.first c.args.span.count c.loop-p.p c.loop-p.auto.p c.loop-p-test.true c.loop-p.invariant passes

pub loop-p-preserved : goal.loop-p-preserved
loop-p-preserved c =
    let places = c.args.firsts.now.places.items in
    let weights = c.args.firsts.now.weights.items in
    let fails : is_bad_stage c.args.last places weights (clause_at c.args.f.now c.loop-p.p) ≡ false =
    ap (λ (ls : List ℤ). is_bad_stage c.args.last places weights ls) (sym c.clause.ensures.value) ∙ sym c.in_ok-is_bad_stage.ensures ∙ c.if-branch.false in
    none_at_more (λ p. is_bad_stage c.args.last places weights (clause_at c.args.f.now p)) c.args.span.first c.loop-p.p c.loop-p.auto.p c.loop-p.invariant fails
