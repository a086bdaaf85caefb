use Rattle.std.proofs.Common.{subst}
use Rattle.model_text.specs.ModelTexts.{words_in}
use Rattle.edit_text.specs.EditText.{live_behind, edits_in}
use Rattle.edit_text.specs.Fed.{TakesLine}
use Rattle.edit_text.proofs.Standing.{last_fine, last_made, last_wrong}
use Rattle.edit_text.proofs.progress.with_last_line.Goals as goal

pub returns-in-Some-clause-cause : goal.returns-in-Some-clause-cause
returns-in-Some-clause-cause c = λ F fed few s.
    let live = live_behind F s.before in
    let edits = edits_in F.vars s.before in
    let taken = subst (λ o. TakesLine live edits (words_in c.args.open_line.bytes.items) o c.take_line.new.draft) c.in-Some.is
    (subst (λ bs. TakesLine live edits (words_in bs) c.in_ok-fault.field-0 c.take_line.new.draft) c.as_slice.ensures.value (c.in_ok-fault.ensures.taken live edits s.tells)) in
    last_wrong F fed c.args.line c.args.open_line c.in-Some.fault c.take_line.new.draft s c.requires.one_line few taken

pub returns-clause-ok : goal.returns-clause-ok
returns-clause-ok c = λ F fed few s.
    let live = live_behind F s.before in
    let edits = edits_in F.vars s.before in
    let taken = subst (λ o. TakesLine live edits (words_in c.args.open_line.bytes.items) o c.take_line.new.draft) c.in-None.is
    (subst (λ bs. TakesLine live edits (words_in bs) c.in_ok-fault.field-0 c.take_line.new.draft) c.as_slice.ensures.value (c.in_ok-fault.ensures.taken live edits s.tells)) in
    last_fine F fed c.args.line c.args.open_line c.take_line.new.draft s c.requires.one_line few taken

pub returns-clause-made : goal.returns-clause-made
returns-clause-made c = λ F fed s.
    let live = live_behind F s.before in
    let edits = edits_in F.vars s.before in
    let taken = subst (λ o. TakesLine live edits (words_in c.args.open_line.bytes.items) o c.take_line.new.draft) c.in-None.is
    (subst (λ bs. TakesLine live edits (words_in bs) c.in_ok-fault.field-0 c.take_line.new.draft) c.as_slice.ensures.value (c.in_ok-fault.ensures.taken live edits s.tells)) in
    last_made F fed c.args.line c.args.open_line c.take_line.new.draft s taken
