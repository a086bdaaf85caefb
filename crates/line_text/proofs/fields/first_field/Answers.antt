use Rattle.std.proofs.Common.{◌<◌, length, arith}
use Rattle.line_text.proofs.FieldTexts.{whole_field, field_before}
use Rattle.line_text.proofs.fields.first_field.Goals as goal

pub returns-then-end-line-clause-words : goal.returns-then-end-line-clause-words
returns-then-end-line-clause-words c = whole_field c.args.line.now c.field_end-end.result c.if-end-line.true c.field_end-end.ensures.passed

pub returns-else-end-line-clause-words : goal.returns-else-end-line-clause-words
returns-else-end-line-clause-words c =
    let short : c.field_end-end.result < length c.args.line.now = omega (arith, c.field_end-end.ensures.high, c.if-end-line.false) in
    field_before c.args.line.now c.field_end-end.result short (c.field_end-end.ensures.stopped short) c.field_end-end.ensures.passed
