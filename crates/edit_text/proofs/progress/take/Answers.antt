use Rattle.std.proofs.Common.{◌∙◌, refl, sym}
use Rattle.edit_text.proofs.Standing.{too_long, byte_taken, behind_newline, behind_other}
use Rattle.edit_text.proofs.progress.take.Goals as goal

pub returns-then-progress-eq-MAX_BYTES-clause-cause : goal.returns-then-progress-eq-MAX_BYTES-clause-cause
returns-then-progress-eq-MAX_BYTES-clause-cause c = λ F fed h more.
    too_long F fed more c.args.byte c.args.progress.now.line (sym h.size ∙ c.if-progress-eq-MAX_BYTES.true) h.line

pub returns-then-byte-eq10-clause-ok : goal.returns-then-byte-eq10-clause-ok
returns-then-byte-eq10-clause-ok c = λ F fed h.
    byte_taken F fed c.args.progress.now _ c.args.byte h c.if-progress-eq-MAX_BYTES.false refl (sym (behind_newline c.args.progress.now.line c.args.byte c.if-byte-eq10.true))
    (c.in_ok-step.ensures.ok F fed h.stands)

pub returns-else-byte-eq10-clause-ok : goal.returns-else-byte-eq10-clause-ok
returns-else-byte-eq10-clause-ok c = λ F fed h.
    byte_taken F fed c.args.progress.now _ c.args.byte h c.if-progress-eq-MAX_BYTES.false refl (sym (behind_other c.args.progress.now.line c.args.byte c.if-byte-eq10.false))
    (c.in_ok-step.ensures.ok F fed h.stands)
