use Rattle.std.proofs.Common.{◌+◌, drop, arith}
use Rattle.lk_model.specs.Texts.PlainText.{literal_words}
use Rattle.lk_model.specs.Formulas.Formula.{clause_at}
use Rattle.formula_text.proofs.writing.put_clauses.Goals as goal
use Rattle.lk_model.proofs.Clauses.{clauses_from}
use Rattle.line_text.proofs.PrintedLines.{next_line}

pub loop-k-preserved : goal.loop-k-preserved
loop-k-preserved c =
    let f = c.args.f.now in
    let k = c.loop-k.k in
    next_line literal_words (clause_at f (k + 1)) (drop (k + 1) f.clauses) (drop k f.clauses) c.loop-k.out.items c.put_clause_line.new.out.items _
    (clauses_from f k (omega arith)) c.loop-k.invariant (rw (← c.clause.ensures.value) c.in_ok-put_clause_line.ensures)
