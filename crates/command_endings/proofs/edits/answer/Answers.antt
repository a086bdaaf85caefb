use Rattle.std.proofs.Common.{refl, List, subst}
use Rattle.edit_text.specs.LiveClauses.{LiveClauses, live_of}
use Rattle.edit_text.specs.Edits.{states}
use Rattle.edit_text.specs.declared.edit.Edit.{Edit}
use Rattle.command_endings.specs.Commands.Edits.{WritesKernels}
use Rattle.command_endings.proofs.edits.answer.Goals as goal

pub returns : goal.returns
returns c = record {
  result = refl;
  answers = record {
    status_is = refl;
    writes = subst (λ (edits : List Edit). WritesKernels (states (live_of c.args.read.now.formula) edits) c.in_ok-written.field-0.items) c.as_slice.ensures
        (subst (λ (s : LiveClauses). WritesKernels (states s c.as_slice.result.now) c.in_ok-written.field-0.items) c.in_ok-live.ensures c.in_ok-written.ensures.kernels);
    silent = c.new.ensures.items;
  };
}
