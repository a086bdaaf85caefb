use Rattle.std.proofs.Common.{◌∙◌, ap, arith, Vec, Global}
use Rattle.lk_model.specs.declared.document.Own.{Own}
use Rattle.deficiency.specs.Deficiency.{pairs_of}
use Rattle.deficiency.proofs.Pairs.{pair_taken, pair_left, pairs_done}
use Rattle.deficiency.proofs.greatest.pairs.Goals as goal
use Rattle.deficiency.proofs.greatest.pairs.Goals.{then-var-ne0+in_ok-push, else-var-ne0}

pub loop-i-preserved : goal.loop-i-preserved
loop-i-preserved c =
    let part = c.args.part.now in
    let clauses = c.args.of_clause.now in
    elim c.if-var-ne0.branch [
      | then-var-ne0+in_ok-push w ↦ pair_taken part clauses c.loop-i.own.items c.if-var-ne0.own.items c.loop-i.i (pairs_of part clauses) (omega arith) c.requires w.if-var-ne0.true
          (ap (λ (v : Vec Own Global). v.items) w.own-is ∙ w.in_ok-push.ensures.items) c.loop-i.invariant
      | else-var-ne0 w ↦ pair_left part clauses c.loop-i.own.items c.if-var-ne0.own.items c.loop-i.i (pairs_of part clauses) (omega arith) c.requires w.if-var-ne0.false
          (ap (λ (v : Vec Own Global). v.items) w.own-is) c.loop-i.invariant
    ]

pub returns : goal.returns
returns c = pairs_done c.args.part.now c.args.of_clause.now c.loop-i.own.items c.loop-i.i (pairs_of c.args.part.now c.args.of_clause.now) (omega arith) c.loop-i.invariant
