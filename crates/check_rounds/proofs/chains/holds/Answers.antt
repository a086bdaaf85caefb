use Rattle.std.proofs.Common.{◌≡◌, ◌∙◌, ap, sym, Bool, true, false, not, ◌&&◌}
use Rattle.lk_model.specs.Formulas.Literal.{variable, contains}
use Rattle.lk_model.proofs.Crossings.{contains_crossed}
use Rattle.check_rounds.specs.Blocking.{is_before}
use Rattle.check_rounds.proofs.chains.holds.Goals as goal

pub returns-then-not-is_before : goal.returns-then-not-is_before
returns-then-not-is_before c =
    let b = is_before c.args.k c.args.blocks.now in
    let free : b (variable c.args.l) ≡ false = ap b (sym c.var.ensures.value) ∙ sym c.is_before.ensures ∙ c.if-not-is_before.true in
    c.stands_in.ensures ∙ sym (contains_crossed b c.args.clause.now c.args.l ∙ ap (λ (x : Bool). not x && contains c.args.clause.now c.args.l) free)

pub returns-else-not-is_before : goal.returns-else-not-is_before
returns-else-not-is_before c =
    let b = is_before c.args.k c.args.blocks.now in
    let gone : b (variable c.args.l) ≡ true = ap b (sym c.var.ensures.value) ∙ sym c.is_before.ensures ∙ c.if-not-is_before.false in
    ap not c.if-not-is_before.false ∙ sym (contains_crossed b c.args.clause.now c.args.l ∙ ap (λ (x : Bool). not x && contains c.args.clause.now c.args.l) gone)
