use Rattle.std.proofs.Common.{◌≡◌, ◌-◌, ◌<◌, ◌∙◌, Some, arith, ap, sym, subst, List, ℤ, length, true, get_or, option_map}
use Rattle.std.specs.List.{list_all}
use Rattle.std.proofs.lemmas.List.{get_or_default}
use Rattle.lk_model.specs.Formulas.Literal.{is_literal}
use Rattle.lk_model.specs.declared.document.Step.{Step}
use Rattle.lk_model.proofs.Rounds.{step_literals}
use Rattle.check_rounds.proofs.ChainChecks.{step_back, step_none, step_past, step_form}
use Rattle.check_rounds.proofs.chains.earlier.Goals as goal

pub returns-then-k-number-clause-none : goal.returns-then-k-number-clause-none
returns-then-k-number-clause-none c e =
    let over = c.args.over.now in
    let s : Step = get_or over.steps.now c.args.i c.index-over-i.result in
    let is : s ≡ get_or over.steps.now c.args.i s = get_or_default over.steps.now c.args.i c.index-over-i.result s c.requires.place in
    step_past over c.args.i c.args.k s c.requires.round c.requires.place is c.if-k-number.true

pub returns-then-back-i-clause-some : goal.returns-then-back-i-clause-some
returns-then-back-i-clause-some c =
    let over = c.args.over.now in
    let s : Step = get_or over.steps.now c.args.i c.index-over-i.result in
    let is : s ≡ get_or over.steps.now c.args.i s = get_or_default over.steps.now c.args.i c.index-over-i.result s c.requires.place in
    let t = c.index-over-i-then-back-i.result in
    ap (option_map (λ (u : Step). u.clause)) (step_back over c.args.i c.args.k (c.args.i - (s.number - c.args.k)) s t c.requires.round c.requires.place is c.if-k-number.false (omega (arith, c.if-back-i.true)) c.index-over-i-then-back-i.is)
    ∙ ap (λ (u : Step). Some u.clause) c.index-over-i-then-back-i.is ∙ ap Some (sym c.as_slice.ensures)

pub returns-then-back-i-clause-literals : goal.returns-then-back-i-clause-literals
returns-then-back-i-clause-literals c =
    let over = c.args.over.now in
    let s : Step = get_or over.steps.now c.args.i c.index-over-i.result in
    let t = c.index-over-i-then-back-i.result in
    let inside : c.args.i - (s.number - c.args.k) < length over.steps.now = omega (arith, c.requires.place) in
    let lits = step_literals over.formula.now.vars t (step_form over (c.args.i - (s.number - c.args.k)) t c.requires.round inside c.index-over-i-then-back-i.is) in
    subst (λ (ls : List ℤ). list_all (is_literal over.formula.now.vars) ls ≡ true) (ap (λ (u : Step). u.clause) c.index-over-i-then-back-i.is ∙ sym c.as_slice.ensures) lits

pub returns-else-back-i-clause-none : goal.returns-else-back-i-clause-none
returns-else-back-i-clause-none c e =
    let over = c.args.over.now in
    let s : Step = get_or over.steps.now c.args.i c.index-over-i.result in
    let is : s ≡ get_or over.steps.now c.args.i s = get_or_default over.steps.now c.args.i c.index-over-i.result s c.requires.place in
    step_none over c.args.i c.args.k s c.requires.round c.requires.place is c.if-k-number.false c.if-back-i.false
