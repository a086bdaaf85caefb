use Rattle.std.proofs.Common.{subst}
use Rattle.std.proofs.lemmas.Result.{err_from_is_err_and}
use Rattle.line_text.specs.DraftReading.{IsCompletedBy}
use Rattle.answer_check.specs.Drafts.{answer_drafts}
use Rattle.command_inputs.specs.LineTexts.{IsReadAs}
use Rattle.command_inputs.proofs.LineReads.{answer_reads, answer_read, answer_form, answer_stops, answer_text}
use Rattle.command_inputs.proofs.input.read_answer_of.Goals as goal

pub returns-in_err-read-clause-stop : goal.returns-in_err-read-clause-stop
returns-in_err-read-clause-stop g c =
    let p = err_from_is_err_and c.from_residual.result c.from_residual.ensures.1 in
    rw (p.1, p.2) (answer_text c.args.formula.now (g.H.Shelf.told c.args.shelf.now c.args.name.now) (g.H.Shelf.ailing c.read_by_lines.new.shelf) c.in_err-read.field-0.0 c.in_err-read.ensures.stop)

pub returns-in-Ok-clause-answer : goal.returns-in-Ok-clause-answer
returns-in-Ok-clause-answer g c =
    let reader = c.answer_reader-reader.result in
    let completes = IsCompletedBy (answer_drafts reader.vars reader.clauses) reader.draft in
    let told = g.H.Shelf.told c.args.shelf.now c.args.name.now in
    answer_read c.args.formula.now completes told c.in-Ok.answer (answer_reads c.args.formula.now c.vars.result c.len.result completes c.vars.ensures.value c.len.ensures.value c.answer_reader-reader.ensures.answers) (subst (λ r. IsReadAs completes told r) c.in-Ok.is c.in_ok-read.ensures.read)

pub returns-in-Ok-clause-form : goal.returns-in-Ok-clause-form
returns-in-Ok-clause-form g c =
    let reader = c.answer_reader-reader.result in
    let completes = IsCompletedBy (answer_drafts reader.vars reader.clauses) reader.draft in
    let told = g.H.Shelf.told c.args.shelf.now c.args.name.now in
    answer_form c.args.formula.now completes told c.in-Ok.answer (answer_reads c.args.formula.now c.vars.result c.len.result completes c.vars.ensures.value c.len.ensures.value c.answer_reader-reader.ensures.answers) (subst (λ r. IsReadAs completes told r) c.in-Ok.is c.in_ok-read.ensures.read)

pub returns-in-Err-clause-stop : goal.returns-in-Err-clause-stop
returns-in-Err-clause-stop g c =
    let reader = c.answer_reader-reader.result in
    let completes = IsCompletedBy (answer_drafts reader.vars reader.clauses) reader.draft in
    let told = g.H.Shelf.told c.args.shelf.now c.args.name.now in
    rw c.of_answer.ensures (answer_stops c.args.formula.now completes told (g.H.Shelf.ailing c.read_by_lines.new.shelf) c.in-Err.stop (answer_reads c.args.formula.now c.vars.result c.len.result completes c.vars.ensures.value c.len.ensures.value c.answer_reader-reader.ensures.answers) (subst (λ r. IsReadAs completes told r) c.in-Err.is c.in_ok-read.ensures.read))
