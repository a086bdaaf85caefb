use Rattle.std.proofs.Common.{◌∙◌, ◌≤◌, length, refl, arith}
use Rattle.edit_text.proofs.Counts.{tells_removed, flag_at}
use Rattle.edit_text.proofs.draft.remove.Goals as goal

pub returns-clause-made : goal.returns-clause-made
returns-clause-made c = λ s edits k t is.
    let draft = c.args.draft.now in
    let last : c.args.number ≤ length draft.live.items = omega (arith, c.if-number-len.false, c.len.ensures) in
    let there = flag_at draft.live.items c.args.number c.index.result.now c.requires.first last c.index.ensures ∙ c.if-not-index.false in
    tells_removed s edits draft _ k c.args.number t c.requires.first last is c.requires.sound.clauses there refl refl refl c.in_ok-push.ensures.ok
