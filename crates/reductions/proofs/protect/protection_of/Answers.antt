use Rattle.std.proofs.Common.{◌∙◌, ap, sym, filter}
use Rattle.lk_model.specs.Lists.{among}
use Rattle.lk_model.specs.Formulas.Crossed.{formula_without}
use Rattle.lk_model.specs.Formulas.Formula.{variables_to}
use Rattle.reductions.proofs.Protecting.{line_is, set_is}
use Rattle.reductions.proofs.protect.protection_of.Goals as goal

pub returns-clause-line : goal.returns-clause-line
returns-clause-line c =
    c.in_ok-line.ensures ∙ line_is c.vars-n.result c.in_ok-set.set c.args.listed.now c.in_ok-set.ensures.vars
    ∙ ap (λ m. filter (among c.args.listed.now) (variables_to m)) c.vars-n.ensures.value

pub returns-clause-left : goal.returns-clause-left
returns-clause-left c =
    c.in_ok-left.ensures
    ∙ ap (formula_without c.args.f.now) (set_is c.vars-n.result c.in_ok-set.set c.args.listed.now c.in_ok-set.ensures.vars ∙ ap among (sym c.in_ok-line.ensures))
