use Rattle.std.proofs.Common.{◌∙◌, sym, ap, arith, Vec, Global}
use Rattle.lk_model.specs.declared.document.Own.{Own}
use Rattle.matching_kernel.specs.Lines.{owners_of}
use Rattle.matching_kernel.proofs.Chosen.{owner_taken, owner_left, owners_done}
use Rattle.matching_kernel.proofs.kernel.owners.Goals as goal
use Rattle.matching_kernel.proofs.kernel.owners.Goals.{then-is_removed+in_ok-push, else-is_removed}

pub loop-i-preserved : goal.loop-i-preserved
loop-i-preserved c =
    let part = c.args.part.now in
    let clauses = c.args.of_clause.now in
    let escape = c.args.escape.now in
    let all = owners_of part clauses escape in
    elim c.if-is_removed.branch [
      | then-is_removed+in_ok-push w ↦ owner_taken part clauses escape c.loop-i.own.items c.if-is_removed.own.items all c.loop-i.i (omega arith) c.requires (sym c.is_removed.ensures ∙ w.if-is_removed.true)
          (ap (λ (v : Vec Own Global). v.items) w.own-is ∙ w.in_ok-push.ensures.items) c.loop-i.invariant
      | else-is_removed w ↦ owner_left part clauses escape c.loop-i.own.items c.if-is_removed.own.items all c.loop-i.i (omega arith) c.requires (sym c.is_removed.ensures ∙ w.if-is_removed.false)
          (ap (λ (v : Vec Own Global). v.items) w.own-is) c.loop-i.invariant
    ]

pub returns : goal.returns
returns c = owners_done c.args.part.now c.args.of_clause.now c.args.escape.now c.loop-i.own.items (owners_of c.args.part.now c.args.of_clause.now c.args.escape.now) c.loop-i.i (omega arith) c.loop-i.invariant
