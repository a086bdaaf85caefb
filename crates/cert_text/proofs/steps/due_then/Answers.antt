use Rattle.std.proofs.Common.{◌∙◌, Bool, cond, sym, ap}
use Rattle.cert_text.specs.declared.draft.LineDue.TheVariants.{Keep, Learned}
use Rattle.cert_text.proofs.steps.due_then.Goals as goal

pub returns-then-is_finished : goal.returns-then-is_finished
returns-then-is_finished c = sym (ap (λ (b : Bool). cond b Keep Learned) (sym c.is_finished.ensures ∙ c.if-is_finished.true))

pub returns-else-is_finished : goal.returns-else-is_finished
returns-else-is_finished c = sym (ap (λ (b : Bool). cond b Keep Learned) (sym c.is_finished.ensures ∙ c.if-is_finished.false))
