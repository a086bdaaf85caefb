use Rattle.std.proofs.Common.{arith, ◌<◌, length}
use Rattle.lk_model.specs.Texts.Lines.{is_blank}
use Rattle.lk_text.proofs.Ranges.{rest_fails}
use Rattle.lk_text.proofs.cuts.next_word.Goals as goal

pub returns-clause-none : goal.returns-clause-none
returns-clause-none c =
    let inside : c.word_begin-begin.result < length c.args.bytes.now = omega (arith, c.word_begin-begin.ensures.high, c.if-begin-bytes.false) in
    (λ e. absurd (let f : ⊥ = cc in f), λ h. absurd (rest_fails is_blank c.args.bytes.now c.args.from _ c.word_begin-begin.ensures.low inside (c.word_begin-begin.ensures.stopped inside) h))
