use Rattle.std.proofs.Common.{◌∙◌, not}
use Rattle.lk_model.specs.Lists.{is_empty}
use Rattle.lk_model.specs.Formulas.Formula.{clause_at}
use Rattle.elimination.proofs.Left.{passed_over, taken}
use Rattle.elimination.proofs.eliminated.Eliminated.left.Goals as goal
use Rattle.elimination.proofs.eliminated.Eliminated.left.Goals.{then-stays+in_ok-push, else-stays}

pub loop-k-preserved : goal.loop-k-preserved
loop-k-preserved c =
    let F = c.args.self.now.clauses in
    elim c.if-stays.branch [
      | then-stays+in_ok-push w ↦
          taken (λ p. not (is_empty (clause_at F p))) c.loop-k.k c.loop-k.positions c.if-stays.positions c.loop-k.invariant
          (w.positions-is ∙ w.in_ok-push.ensures.ok) (c.stays.ensures w.if-stays.true)
      | else-stays w ↦
          passed_over (λ p. not (is_empty (clause_at F p))) c.loop-k.k c.loop-k.positions c.if-stays.positions c.loop-k.invariant w.positions-is
    ]
