use Rattle.std.proofs.Common.{◌++◌, ℤ, subst}
use Rattle.std.proofs.lemmas.Result.{on_ok_weaker}
use Rattle.lk_model.specs.Formulas.Literal.{complement}
use Rattle.lk_model.specs.Formulas.Crossed.{crossed_out}
use Rattle.lk_model.specs.Held.VariableSets.{is_in}
use Rattle.lk_model.specs.Chains.Chain.{without}
use Rattle.refutation_log.specs.SameClause.{HaveSame}
use Rattle.refutation_log.proofs.Clauses.{same_set, HaveSame-trans, HaveSame-append, HaveSame-refl}
use Rattle.refutation_log.proofs.chain_clause.FlaggedClause.resolve_crossed.Goals as goal

pub returns : goal.returns
returns c =
    let rest = c.take_out.new.self in
    let old = without c.args.self.now c.args.l in
    let other = crossed_out (is_in c.args.blocked.now) c.args.clause.now in
    let more = without other (complement c.args.l) in
    let now = c.put_others_crossed.new.self in
    on_ok_weaker c.put_others_crossed.result
    (λ h. same_set now (old ++ more)
    (HaveSame-trans now (rest ++ more) (old ++ more)
    (subst (λ (k : ℤ). HaveSame now (rest ++ without other k)) c.negated.ensures h)
    (HaveSame-append rest more old more c.take_out.ensures (HaveSame-refl more))))
    c.put_others_crossed.ensures
