use Rattle.std.proofs.Common.{List, ℤ, subst}
use Rattle.lk_model.specs.Chains.Chain.{without}
use Rattle.refutation_log.specs.Flagged.{flagged}
use Rattle.refutation_log.specs.SameClause.{HaveSame}
use Rattle.refutation_log.proofs.FlaggedLaws.{taken_out}
use Rattle.refutation_log.proofs.chain_clause.FlaggedClause.take_out.Goals as goal

pub returns : goal.returns
returns c =
    let flags = c.self.inside.flags.items in
    let rest = c.unflag.new.flags.items in
    let came = c.self.inside.came.items in
    subst (λ (old : List ℤ). HaveSame (flagged rest came) (without old c.args.l)) c.self.view_is
    (taken_out flags rest came c.args.l c.self.invariant c.unflag.ensures).1
