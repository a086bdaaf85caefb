use Rattle.std.proofs.Common.{◌≡◌, ◌∙◌, List, ℤ, Bool, sym, ap, subst}
use Rattle.lk_model.specs.Formulas.Literal.{contains}
use Rattle.refutation_log.specs.Flagged.{is_flagged}
use Rattle.refutation_log.proofs.FlaggedLaws.{flagged_holds}
use Rattle.refutation_log.proofs.chain_clause.FlaggedClause.has.Goals as goal

pub returns : goal.returns
returns c =
    let l = c.args.l in
    subst (λ (clause : List ℤ). c.is_flagged.result ≡ contains clause l) c.self.view_is
    (c.is_flagged.ensures ∙ ap (λ (fs : List Bool). is_flagged fs l) c.deref.ensures.value
    ∙ sym (flagged_holds c.self.inside.flags.items c.self.inside.came.items c.self.invariant l))
