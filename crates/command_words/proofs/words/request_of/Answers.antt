use Rattle.std.proofs.Common.{◌∙◌, ◌+◌, map, arith, ap, sym, length}
use Rattle.std.proofs.lemmas.List.{length-map}
use Rattle.std.proofs.lemmas.Result.{err_from_is_err_and}
use Rattle.command_words.specs.OptionRows.{values_of}
use Rattle.command_words.proofs.LawfulLists.{unknown}
use Rattle.command_words.proofs.RequestWords.{lawful_request, refused_request, missing_in, opened, number_refused}
use Rattle.command_words.proofs.words.request_of.Goals as goal

pub returns-in_err-command-clause-asked : goal.returns-in_err-command-clause-asked
returns-in_err-command-clause-asked c =
    let p = err_from_is_err_and c.from_residual.result c.from_residual.ensures.1 in
    rw (p.1, p.2) (unknown (map (λ w. w.now) c.args.words.now) c.in_err-command.field-0.0 c.in_err-command.ensures)

pub returns-in_default-clause-asked : goal.returns-in_default-clause-asked
returns-in_default-clause-asked c =
    let size = sym (length-map c.shape-shape.result.words.now (λ w. w.now)) ∙ ap length c.shape-shape.ensures.words in
    let front = length c.shape-shape.result.words.now in
    number_refused c.args.words.now c.in_ok-command.command c.shape-shape.result.numbers front c.in_ok-command.ensures size c.shape-shape.ensures.numbers c.in_default.ensures

pub returns-then-words-end-clause-asked : goal.returns-then-words-end-clause-asked
returns-then-words-end-clause-asked c =
    let size = sym (length-map c.shape-shape.result.words.now (λ w. w.now)) ∙ ap length c.shape-shape.ensures.words in
    let front = length c.shape-shape.result.words.now in
    let command = c.in_ok-command.command in
    let is_open = opened c.args.words.now command c.shape-shape.result.numbers front c.number_words.result c.in-Some.number c.in_ok-command.ensures size c.shape-shape.ensures.numbers c.in-Some.ensures c.number_words.ensures.value in
    missing_in c.args.words.now command (front + c.number_words.result) c.in-Some.number is_open (omega (arith, c.if-words-end.true, ap length c.shape-shape.ensures.inputs))

pub returns-in-Ok-clause-asked : goal.returns-in-Ok-clause-asked
returns-in-Ok-clause-asked c =
    let size = sym (length-map c.shape-shape.result.words.now (λ w. w.now)) ∙ ap length c.shape-shape.ensures.words in
    let front = length c.shape-shape.result.words.now in
    let command = c.in_ok-command.command in
    let is_open = opened c.args.words.now command c.shape-shape.result.numbers front c.number_words.result c.in-Some.number c.in_ok-command.ensures size c.shape-shape.ensures.numbers c.in-Some.ensures c.number_words.ensures.value in
    let begin = front + c.number_words.result in
    lawful_request c.args.words.now command begin (begin + length c.shape-shape.result.inputs.now) c.in-Some.number (values_of c.in-Ok.options) is_open (omega (arith, ap length c.shape-shape.ensures.inputs)) (omega (arith, c.if-words-end.false)) c.in-Ok.ensures.options

pub returns-in-Err-clause-asked : goal.returns-in-Err-clause-asked
returns-in-Err-clause-asked c =
    let size = sym (length-map c.shape-shape.result.words.now (λ w. w.now)) ∙ ap length c.shape-shape.ensures.words in
    let front = length c.shape-shape.result.words.now in
    let command = c.in_ok-command.command in
    let is_open = opened c.args.words.now command c.shape-shape.result.numbers front c.number_words.result c.in-Some.number c.in_ok-command.ensures size c.shape-shape.ensures.numbers c.in-Some.ensures c.number_words.ensures.value in
    let begin = front + c.number_words.result in
    refused_request c.args.words.now command begin (begin + length c.shape-shape.result.inputs.now) c.in-Some.number c.in-Err.place is_open (omega (arith, ap length c.shape-shape.ensures.inputs)) (omega (arith, c.if-words-end.false)) c.in-Err.ensures.options
