use Rattle.std.proofs.Common.{◌+◌, drop, arith, subst, sym}
use Rattle.lk_model.proofs.Lists.{drop_read}
use Rattle.std.proofs.lemmas.List.{drop_all}
use Rattle.edit_text.specs.LiveClauses.{LiveClauses}
use Rattle.command_endings.proofs.EditedLines.{IsWritten, begun, next, written}
use Rattle.command_endings.proofs.edits.text_of.Goals as goal

pub loop-edit-init : goal.loop-edit-init
loop-edit-init g c = record {
  lines = subst (λ (s : LiveClauses). IsWritten c.args.live.now c.args.edits.now s c.args.edits.now c.put_kernel.new.text.items) (sym c.put_kernel.ensures.same)
      (begun c.args.live.now c.args.edits.now c.new-text.result.items c.put_kernel.new.text.items c.requires.made c.new-text.ensures.items c.in_ok-put_kernel.ensures.written);
  searches = omega arith;
}

pub loop-edit-preserved : goal.loop-edit-preserved
loop-edit-preserved g c =
    let edits = c.args.edits.now in
    let i = c.loop-edit.edit-index in
    let inv = c.loop-edit.invariant in
    record {
      lines = subst (λ (s : LiveClauses). IsWritten c.args.live.now edits s (drop (i + 1) edits) c.put_kernel-in-loop-edit.new.text.items) (sym c.put_kernel-in-loop-edit.ensures.same)
          (next c.args.live.now c.loop-edit.live c.make.new.live edits (drop i edits) (drop (i + 1) edits) c.edit-item.result c.loop-edit.text.items c.put_kernel-in-loop-edit.new.text.items
          (drop_read edits i c.edit-item.result (omega (arith, c.loop-edit-test.true)) c.edit-item.is) c.in_ok-make.ensures.ok inv.lines c.in_ok-put_kernel-2.ensures.written);
      searches = omega (arith, inv.searches, c.make.ensures.search);
    }

pub returns-clause-kernels : goal.returns-clause-kernels
returns-clause-kernels g c =
    let edits = c.args.edits.now in
    let i = c.loop-edit.edit-index in
    written c.args.live.now c.loop-edit.live edits (drop i edits) c.loop-edit.text.items (drop_all i edits c.loop-edit-test.false) c.loop-edit.invariant.lines
