use Rattle.std.proofs.Common.{◌∙◌, ap, subst, sym, IsTrue}
use Rattle.lk_model.specs.Formulas.Literal.{contains, is_literal}
use Rattle.lk_model.specs.Held.Growing.{Growing}
use Rattle.lk_model.proofs.Flags.{flag_up, flag_down}
use Rattle.lk_model.proofs.open_clause.OpenClause.holds.Goals as goal

pub returns-then-index : goal.returns-then-index
returns-then-index c =
    let literal = subst (λ (s : Growing). IsTrue (is_literal s.vars c.args.l)) (sym c.self.view_is) c.requires in
    flag_up _ _ _ _ c.args.l c.index.result.now c.self.invariant literal c.index.ensures c.if-index.true ∙ ap (λ (s : Growing). contains s.literals c.args.l) c.self.view_is

pub returns-else-index : goal.returns-else-index
returns-else-index c =
    let literal = subst (λ (s : Growing). IsTrue (is_literal s.vars c.args.l)) (sym c.self.view_is) c.requires in
    rw (c.stands_in-else-index.ensures, c.deref-else-index.ensures.value)
    (flag_down _ _ _ _ c.args.l c.index.result.now c.self.invariant literal c.index.ensures c.if-index.false ∙ ap (λ (s : Growing). contains s.literals c.args.l) c.self.view_is)
