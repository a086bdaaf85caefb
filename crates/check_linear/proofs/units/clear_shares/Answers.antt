use Rattle.std.proofs.Common.{◌≡◌, ◌∙◌, ◌||◌, ℕ, Bool, true, List, length, take, pos, sym, ap, subst, arith}
use Rattle.std.specs.List.{list_all}
use Rattle.std.proofs.lemmas.List.{take_all}
use Rattle.lk_model.specs.Formulas.Literal.{is_literal, is_distinct}
use Rattle.lk_model.specs.declared.document.Share.{Share}
use Rattle.lk_model.proofs.Booleans.{and_true}
use Rattle.check_linear.specs.Linear.{ClearsShares, is_unbalanced_share}
use Rattle.check_linear.proofs.Clearing.{share_cleared}
use Rattle.check_linear.proofs.SummedOnce.{share_tested}
use Rattle.check_linear.proofs.UnitChecks.{share_bounds}
use Rattle.check_linear.proofs.units.clear_shares.Goals as goal

-- what stands where there is no share
abbrev no_share : Share
no_share = record { pos = 0; z = pos 0 }

pub clause-requires-clause-first : goal.clause-requires-clause-first
clause-requires-clause-first c = (share_bounds (length c.args.f.now.clauses) c.args.shares.now c.loop-i.i no_share c.requires.rising c.loop-i-test.true).0

pub clause-requires-clause-last : goal.clause-requires-clause-last
clause-requires-clause-last c = (share_bounds (length c.args.f.now.clauses) c.args.shares.now c.loop-i.i no_share c.requires.rising c.loop-i-test.true).1

pub loop-i-preserved : goal.loop-i-preserved
loop-i-preserved c =
    let F = c.args.f.now in
    let occurring = c.args.occurring.now in
    let shares = c.args.shares.now in
    let before = c.args.numbers.now.items in
    let mid = c.loop-i.numbers.items in
    let clause = c.clause.result.now in
    let found = is_unbalanced_share F occurring before (take c.loop-i.i shares) in
    let literals : list_all (is_literal c.vars.result) clause ≡ true = subst (λ (n : ℕ). list_all (is_literal n) clause ≡ true) (sym c.vars.ensures.value)
    (and_true (list_all (is_literal F.vars) clause) (is_distinct clause) c.clause.ensures.clause).0 in (
      ap (λ (x : Bool). x || c.clear_clause-unbalanced.result) c.loop-i.invariant.0 ∙ ap (λ (x : Bool). found || x) c.clear_clause-unbalanced.ensures.unbalanced
          ∙ share_tested F occurring shares c.loop-i.i no_share c.vars.result clause before mid c.loop-i-test.true c.vars.ensures.value c.clause.ensures.value literals c.loop-i.invariant.1,
      share_cleared F shares c.loop-i.i no_share c.vars.result clause before mid c.clear_clause-unbalanced.new.numbers.items c.loop-i-test.true
          c.vars.ensures.value c.clause.ensures.value c.clear_clause-unbalanced.ensures.cleared c.loop-i.invariant.1,
    )

pub returns-clause-unbalanced : goal.returns-clause-unbalanced
returns-clause-unbalanced c =
    c.loop-i.invariant.0 ∙ ap (is_unbalanced_share c.args.f.now c.args.occurring.now c.args.numbers.now.items) (take_all c.loop-i.i c.args.shares.now (omega arith))

pub returns-clause-cleared : goal.returns-clause-cleared
returns-clause-cleared c =
    subst (λ (shares : List Share). ClearsShares c.args.f.now shares c.args.numbers.now.items c.loop-i.numbers.items) (take_all c.loop-i.i c.args.shares.now (omega arith)) c.loop-i.invariant.1
