use Rattle.std.proofs.Common.{◌≡◌, ◌∙◌, List, ℕ, ap, length, sym, subst, true}
use Rattle.lk_model.specs.Limits.{max_vars}
use Rattle.lk_model.specs.Lists.{rises_within}
use Rattle.lk_model.proofs.Rising.{rises_to}
use Rattle.crossed_copy.proofs.ToldRefutations.{told_over}
use Rattle.crossed_copy.proofs.copying.CrossedCopy.told.Goals as goal

pub only-requires : goal.only-requires
only-requires c =
    subst (λ (ns : List ℕ). rises_within 0 max_vars ns ≡ true) (sym c.deref-2.ensures.value)
    (rises_to 0 c.args.over.now.formula.now.vars max_vars c.args.self.now.names.items c.vars-vars.ensures.limits.vars c.requires.copy.dense.ascend)

pub returns : goal.returns
returns c =
    told_over c.args.over.now c.args.self.now c.args.last c.len.result c.deref.result.now c.deref-2.result.now c.args.refutation _ c.requires.crossed c.requires.copy
    c.requires.last c.requires.refutes c.in_ok-only.ensures.numbers (c.len.ensures ∙ sym c.deref.ensures.len ∙ ap (λ (ps : List ℕ). length ps) c.deref.ensures.value)
    c.deref.ensures.value c.deref-2.ensures.value c.in_ok-only.ensures.round c.positions.ensures
