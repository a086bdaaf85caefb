use Rattle.std.proofs.Common.{ℕ, sym, subst}
use Rattle.line_text.specs.Fields.{fields}
use Rattle.formula_text.specs.FormulaLines.{IsReady}
use Rattle.cert_text.proofs.ClauseLines.{few_clauses, text_taken, ready_again}
use Rattle.cert_text.proofs.steps.take_text.Goals as goal

pub take_clause-requires-clause-few : goal.take_clause-requires-clause-few
take_clause-requires-clause-few c = rw c.clause_count-count.ensures (few_clauses c.args.draft.now c.requires.small)

pub take_clause-requires-clause-growing : goal.take_clause-requires-clause-growing
take_clause-requires-clause-growing c = subst (λ (n : ℕ). IsReady n c.args.growing.now) (sym c.requires.small.texts) c.requires.growing

pub returns-clause-taken : goal.returns-clause-taken
returns-clause-taken c =
    text_taken c.args.draft.now c.clause_count-count.result (fields c.args.line.now) c.take_clause.new.texts c.take_clause.result c.clause_count-count.ensures c.take_clause.ensures.taken

pub returns-clause-ready : goal.returns-clause-ready
returns-clause-ready c = ready_again _ _ c.take_clause.new.growing c.take_clause.result c.requires.small.texts c.take_clause.ensures.ready
