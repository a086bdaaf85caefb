use Rattle.std.proofs.Common.{◌≡◌, ℕ, List, subst, OnOk}
use Rattle.answer_text.proofs.PrintedAnswers.{model_behind}
use Rattle.answer_text.proofs.printing.put_model.Goals as goal

pub returns : goal.returns
returns c =
    subst (λ (text : List ℕ). OnOk c.put_clause_line.result (c.put_clause_line.new.out.items ≡ text))
    (model_behind c.args.out.now.items c.put.new.out.items c.put-2.new.out.items c.args.lits.now c.in_ok-put.ensures c.in_ok-put-2.ensures)
    c.put_clause_line.ensures
