use Rattle.std.proofs.Common.{ℕ, List, length, subst}
use Rattle.std.proofs.lemmas.List.{take_all}
use Rattle.check_tables.specs.Occurring.{AreOccurring}
use Rattle.check_pure_matching.specs.Pairs.{AreShown}
use Rattle.check_pure_matching.proofs.KeptClauses.{occurring_none, occurring_more, shown_none, shown_more}
use Rattle.check_tables.proofs.KeptFlags.{kept_bounds}
use Rattle.check_pure_matching.proofs.pairs.seen_at.Goals as goal

pub clause-requires-clause-first : goal.clause-requires-clause-first
clause-requires-clause-first c = (kept_bounds (length c.args.f.now.clauses) c.args.kept.now c.loop-p.p-index c.requires.kept c.loop-p-test.true).0

pub clause-requires-clause-last : goal.clause-requires-clause-last
clause-requires-clause-last c = (kept_bounds (length c.args.f.now.clauses) c.args.kept.now c.loop-p.p-index c.requires.kept c.loop-p-test.true).1

pub loop-p-init : goal.loop-p-init
loop-p-init c = record {
  occurring = occurring_none c.args.f.now c.vars.result c.vars.ensures.value c.in_ok-new.field-0 c.in_ok-new.ensures;
  shown = shown_none c.args.f.now c.vars-2.result c.vars-2.ensures.value c.in_ok-new-2.field-0 c.args.named.now c.in_ok-new-2.ensures;
}

pub loop-p-preserved : goal.loop-p-preserved
loop-p-preserved c =
    let F = c.args.f.now in
    let kept = c.args.kept.now in
    let i = c.loop-p.p-index in
    let n = c.vars-in-loop-p.result in
    let vars = c.vars-in-loop-p.ensures.value in
    let clause = c.clause.result.now in
    let inside = c.loop-p-test.true in
    record {
      occurring = occurring_more F kept i n clause inside vars c.clause.ensures.value c.loop-p.seen.occurring c.note.new.self.occurring c.note.ensures.occurring c.loop-p.invariant.occurring;
      shown = shown_more F kept i n clause inside vars c.clause.ensures.value c.loop-p.seen.shown c.note.new.self.shown c.args.named.now c.note.ensures.shown c.loop-p.invariant.shown;
    }

pub returns : goal.returns
returns c =
    let F = c.args.f.now in
    let seen = c.loop-p.seen in
    let all = take_all c.loop-p.p-index c.args.kept.now c.loop-p-test.false in
    record {
      occurring = subst (λ (ps : List ℕ). AreOccurring F ps seen.occurring) all c.loop-p.invariant.occurring;
      shown = subst (λ (ps : List ℕ). AreShown F ps c.args.named.now seen.shown) all c.loop-p.invariant.shown;
    }
