use Rattle.std.proofs.Common.{◌∷◌, [], ◌++◌, ◌∙◌, sym, ap, arith, Vec, Global}
use Rattle.lk_model.specs.declared.document.MatchRow.{MatchRow}
use Rattle.matching_kernel.specs.Lines.{match_rows}
use Rattle.matching_kernel.proofs.Chosen.{row_taken, row_left, rows_done}
use Rattle.matching_kernel.proofs.kernel.rows.Goals as goal
use Rattle.matching_kernel.proofs.kernel.rows.Goals.{then-number_of-ne0+in_ok-push, else-number_of-ne0}

pub loop-v-preserved : goal.loop-v-preserved
loop-v-preserved c =
    let of_var = c.args.of_var.now in
    let escape = c.args.escape.now in
    let rank = c.args.rank.now in
    let all = match_rows c.args.end of_var escape rank in
    elim c.if-number_of-ne0.branch [
      | then-number_of-ne0+in_ok-push w ↦ row_taken of_var escape rank c.loop-v.rows.items c.if-number_of-ne0.rows.items all c.loop-v.v c.args.end (omega arith)
          (λ z. w.if-number_of-ne0.true (c.number_of.ensures ∙ z))
          (ap (λ (v : Vec MatchRow Global). v.items) w.rows-is ∙ w.in_ok-push.ensures.items ∙ ap (λ (r : MatchRow). c.loop-v.rows.items ++ r ∷ []) w.row_at.ensures) c.loop-v.invariant
      | else-number_of-ne0 w ↦ row_left of_var escape rank c.loop-v.rows.items c.if-number_of-ne0.rows.items all c.loop-v.v c.args.end (omega arith)
          (sym c.number_of.ensures ∙ w.if-number_of-ne0.false) (ap (λ (v : Vec MatchRow Global). v.items) w.rows-is) c.loop-v.invariant
    ]

pub returns : goal.returns
returns c = rows_done c.args.of_var.now c.args.escape.now c.args.rank.now c.loop-v.rows.items (match_rows c.args.end c.args.of_var.now c.args.escape.now c.args.rank.now) c.loop-v.v c.args.end (omega arith) c.loop-v.invariant
