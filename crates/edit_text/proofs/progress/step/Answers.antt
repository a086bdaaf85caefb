use Rattle.std.proofs.Common.{◌∷◌, [], ◌++◌, sym, subst}
use Rattle.model_text.specs.ModelTexts.{words_in}
use Rattle.edit_text.specs.EditText.{live_behind, edits_in}
use Rattle.edit_text.specs.Fed.{Stands, TakesLine, IsSoundStage, line_behind}
use Rattle.edit_text.proofs.Standing.{end_fine, end_wrong, still_first}
use Rattle.edit_text.proofs.progress.step.Goals as goal

pub returns-in_default-clause-ok : goal.returns-in_default-clause-ok
returns-in_default-clause-ok c = λ F fed h.
    let fed_now = fed ++ c.args.byte ∷ [] in
    subst (λ st. Stands F fed_now (line_behind c.args.line c.args.byte) st) (sym c.in_default.is)
    (still_first F fed (c.args.byte ∷ []) c.in_default.field-0 c.in_default.field-1 (subst (λ st. Stands F fed c.args.line st) c.in_default.is h))

pub returns-in-Some-clause-ok : goal.returns-in-Some-clause-ok
returns-in-Some-clause-ok c = λ F fed h.
    let sound = subst (λ st. IsSoundStage st) c.in-Reading.is c.requires in
    let s = subst (λ st. Stands F fed c.args.line st) c.in-Reading.is h in
    let live = live_behind F s.before in
    let edits = edits_in F.vars s.before in
    let taken = subst (λ o. TakesLine live edits (words_in c.in-Reading.open_line.bytes.items) o c.end_line.new.open_line.draft) c.in-Some.is (c.in_ok-fault.ensures.taken live edits s.tells) in
    end_wrong F fed c.args.line c.args.byte c.in-Reading.open_line c.in-Some.fault c.end_line.new.open_line.draft c.if-byte-ne10.false sound.one_line s taken

pub returns-in_default-2-clause-ok : goal.returns-in_default-2-clause-ok
returns-in_default-2-clause-ok c = λ F fed h.
    let sound = subst (λ st. IsSoundStage st) c.in-Reading.is c.requires in
    let s = subst (λ st. Stands F fed c.args.line st) c.in-Reading.is h in
    let live = live_behind F s.before in
    let edits = edits_in F.vars s.before in
    let taken = subst (λ o. TakesLine live edits (words_in c.in-Reading.open_line.bytes.items) o c.end_line.new.open_line.draft) c.in_default-2.is (c.in_ok-fault.ensures.taken live edits s.tells) in
    end_fine F fed c.args.line c.args.byte c.in-Reading.open_line c.end_line.new.open_line c.if-byte-ne10.false sound.one_line s taken c.in_ok-fault.ensures.empty
