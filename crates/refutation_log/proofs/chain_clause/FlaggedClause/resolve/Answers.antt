use Rattle.std.proofs.Common.{◌++◌, ℤ, subst}
use Rattle.std.proofs.lemmas.Result.{on_ok_weaker}
use Rattle.lk_model.specs.Formulas.Literal.{complement}
use Rattle.lk_model.specs.Chains.Chain.{without}
use Rattle.refutation_log.specs.SameClause.{HaveSame}
use Rattle.refutation_log.proofs.Clauses.{same_set, HaveSame-trans, HaveSame-append, HaveSame-refl}
use Rattle.refutation_log.proofs.chain_clause.FlaggedClause.resolve.Goals as goal

pub returns : goal.returns
returns c =
    let rest = c.take_out.new.self in
    let old = without c.args.self.now c.args.l in
    let more = without c.args.other.now (complement c.args.l) in
    let now = c.put_others.new.self in
    on_ok_weaker c.put_others.result
    (λ h. same_set now (old ++ more)
    (HaveSame-trans now (rest ++ more) (old ++ more)
    (subst (λ (k : ℤ). HaveSame now (rest ++ without c.args.other.now k)) c.negated.ensures h)
    (HaveSame-append rest more old more c.take_out.ensures (HaveSame-refl more))))
    c.put_others.ensures
