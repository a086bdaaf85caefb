use Rattle.std.proofs.Common.{◌≡◌, ◌∙◌, ◌++◌, Some, List, ℤ, sym, ap, subst, arith}
use Rattle.std.proofs.lemmas.Result.{on_ok_weaker}
use Rattle.lk_model.specs.Formulas.Crossed.{crossed_out}
use Rattle.lk_model.specs.Held.VariableSets.{is_in, premises_of}
use Rattle.lk_model.specs.Chains.Chain.{Premises, clause_named}
use Rattle.refutation_log.specs.SameClause.{HaveSame}
use Rattle.refutation_log.proofs.Chains.{position_first, position_named, step_named, some_clause}
use Rattle.refutation_log.proofs.Clauses.{same_set}
use Rattle.refutation_log.proofs.log.Log.begin.Goals as goal

pub clause-requires-clause-first : goal.clause-requires-clause-first
clause-requires-clause-first c =
    position_first (premises_of c.args.over.now c.args.self.now.steps) c.args.k c.requires.crossed.part (omega (arith, c.len.ensures.value, c.from.ensures, c.if-k-from.true)) c.requires.named

pub returns-then-k-from : goal.returns-then-k-from
returns-then-k-from c =
    let from : Premises = premises_of c.args.over.now c.args.self.now.steps in
    let clause = crossed_out (is_in c.args.over.now.blocked.now) c.clause.result.now in
    let now = c.put_crossed.new.self in
    let named : clause_named from c.args.k ≡ Some clause =
    (position_named from c.args.k (omega (arith, c.len.ensures.value, c.from.ensures, c.if-k-from.true)) c.requires.named).1
    ∙ ap (λ (d : List ℤ). Some (crossed_out (is_in c.args.over.now.blocked.now) d)) (sym c.clause.ensures.value) in
    on_ok_weaker c.put_crossed.result
    (λ h. some_clause now (clause_named from c.args.k) clause named (same_set now clause (subst (λ (old : List ℤ). HaveSame now (old ++ clause)) c.requires.empty h)))
    c.put_crossed.ensures

pub returns-else-k-from : goal.returns-else-k-from
returns-else-k-from c =
    let from : Premises = premises_of c.args.over.now c.args.self.now.steps in
    let clause = c.clause-else-k-from.result.now in
    let now = c.put_all.new.self in
    let named : clause_named from c.args.k ≡ Some clause =
    step_named from c.args.k (omega (arith, c.len.ensures.value, c.from.ensures, c.if-k-from.false)) ∙ c.clause-else-k-from.ensures.value in
    on_ok_weaker c.put_all.result
    (λ h. some_clause now (clause_named from c.args.k) clause named (same_set now clause (subst (λ (old : List ℤ). HaveSame now (old ++ clause)) c.requires.empty h)))
    c.put_all.ensures
