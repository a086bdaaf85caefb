use Rattle.std.proofs.Common.{ℕ, List, length, subst}
use Rattle.std.proofs.lemmas.List.{take_all}
use Rattle.check_tables.specs.Occurring.{AreOccurring}
use Rattle.check_pure_matching.specs.Matching.{AreNamedThere, has_own, has_escape}
use Rattle.check_pure_matching.proofs.KeptClauses.{occurring_none, occurring_more, named_none, named_more}
use Rattle.check_tables.proofs.KeptFlags.{kept_bounds}
use Rattle.check_pure_matching.proofs.matching.seen_at.Goals as goal

pub clause-requires-clause-first : goal.clause-requires-clause-first
clause-requires-clause-first c = (kept_bounds (length c.args.f.now.clauses) c.args.kept.now c.loop-p.p-index c.requires.kept c.loop-p-test.true).0

pub clause-requires-clause-last : goal.clause-requires-clause-last
clause-requires-clause-last c = (kept_bounds (length c.args.f.now.clauses) c.args.kept.now c.loop-p.p-index c.requires.kept c.loop-p-test.true).1

pub loop-p-init : goal.loop-p-init
loop-p-init c =
    let F = c.args.f.now in
    let rows = c.args.rows.now in
    record {
      occurring = occurring_none F c.vars.result c.vars.ensures.value c.in_ok-new.field-0 c.in_ok-new.ensures;
      own = named_none F c.vars-2.result c.vars-2.ensures.value c.in_ok-new-2.field-0 rows has_own c.in_ok-new-2.ensures;
      escape = named_none F c.vars-3.result c.vars-3.ensures.value c.in_ok-new-3.field-0 rows has_escape c.in_ok-new-3.ensures;
    }

pub loop-p-preserved : goal.loop-p-preserved
loop-p-preserved c =
    let F = c.args.f.now in
    let kept = c.args.kept.now in
    let rows = c.args.rows.now in
    let i = c.loop-p.p-index in
    let n = c.vars-in-loop-p.result in
    let vars = c.vars-in-loop-p.ensures.value in
    let clause = c.clause.result.now in
    let inside = c.loop-p-test.true in
    let before = c.loop-p.seen in
    let after = c.note.new.self in
    record {
      occurring = occurring_more F kept i n clause inside vars c.clause.ensures.value before.occurring after.occurring c.note.ensures.occurring c.loop-p.invariant.occurring;
      own = named_more F kept i n clause inside vars c.clause.ensures.value before.own after.own rows has_own c.note.ensures.own c.loop-p.invariant.own;
      escape = named_more F kept i n clause inside vars c.clause.ensures.value before.escape after.escape rows has_escape c.note.ensures.escape c.loop-p.invariant.escape;
    }

pub returns : goal.returns
returns c =
    let F = c.args.f.now in
    let rows = c.args.rows.now in
    let seen = c.loop-p.seen in
    let all = take_all c.loop-p.p-index c.args.kept.now c.loop-p-test.false in
    record {
      occurring = subst (λ (ps : List ℕ). AreOccurring F ps seen.occurring) all c.loop-p.invariant.occurring;
      own = subst (λ (ps : List ℕ). AreNamedThere F ps rows has_own seen.own) all c.loop-p.invariant.own;
      escape = subst (λ (ps : List ℕ). AreNamedThere F ps rows has_escape seen.escape) all c.loop-p.invariant.escape;
    }
