use Rattle.std.proofs.Common.{◌≡◌, ◌∙◌, ◌&&◌, ◌||◌, ◌==◌, Bool, get_or, ap}
use Rattle.lk_model.specs.Formulas.Literal.{variable}
use Rattle.lk_model.specs.Held.VariableSets.{is_in}
use Rattle.check_pure_matching.specs.Matching.{has_own, has_escape}
use Rattle.check_pure_matching.proofs.MatchingChecks.{noted_more}
use Rattle.check_pure_matching.proofs.matching.Seen.note.Goals as goal

pub loop-l-preserved : goal.loop-l-preserved
loop-l-preserved c =
    let n = c.args.n in
    let clause = c.args.clause.now in
    let i = c.loop-l.l-index in
    let l = c.l-item.result in
    let v = c.var-v.result in
    let is : v ≡ variable (get_or clause i l) = c.var-v.ensures.value ∙ ap variable c.l-item.is in
    record {
      occurring = c.loop-l.invariant.occurring;
      own = noted_more n clause i l c.args.position c.args.rows.now has_own c.args.self.now.own c.loop-l.self.own c.add_where.new.set v c.loop-l-test.true is c.loop-l.invariant.own c.add_where.ensures.size
          (λ k. c.add_where.ensures.added k ∙ ap (λ (t : Bool). is_in c.loop-l.self.own k || (t && v == k)) c.has_own.ensures);
      escape = noted_more n clause i l c.args.position c.args.rows.now has_escape c.args.self.now.escape c.loop-l.self.escape c.add_where-in-loop-l.new.set v c.loop-l-test.true is c.loop-l.invariant.escape
          c.add_where-in-loop-l.ensures.size (λ k. c.add_where-in-loop-l.ensures.added k ∙ ap (λ (t : Bool). is_in c.loop-l.self.escape k || (t && v == k)) c.has_escape.ensures);
    }
