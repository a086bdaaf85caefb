use Rattle.line_text.specs.DraftReading.{IsCompletedBy}
use Rattle.answer_text.specs.Drafts.{answer_drafts}
use Rattle.answer_text.proofs.AnswerReads.{if_text, if_stop}
use Rattle.answer_text.proofs.reading.read_answer.Goals as goal

pub returns-clause-answer : goal.returns-clause-answer
returns-clause-answer c =
    let r = c.answer_reader.result in
    if_text c.args.n c.args.m (IsCompletedBy (answer_drafts r.vars r.clauses) r.draft) c.args.bytes.now c.read_lines.result c.answer_reader.ensures.answers c.read_lines.ensures.value

pub returns-clause-stop : goal.returns-clause-stop
returns-clause-stop c =
    let r = c.answer_reader.result in
    if_stop c.args.n c.args.m (IsCompletedBy (answer_drafts r.vars r.clauses) r.draft) c.args.bytes.now c.read_lines.result c.answer_reader.ensures.answers c.read_lines.ensures.stop
