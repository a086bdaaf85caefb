use Rattle.std.proofs.Common.{ℕ, Option, drop, sym, subst}
use Rattle.std.specs.Prelude.{IfOk, option_map}
use Rattle.model_text.specs.ModelTexts.{words_in}
use Rattle.edit_text.specs.EditText.{removed}
use Rattle.edit_text.specs.Fed.{MakesIfAny}
use Rattle.edit_text.specs.declared.edit.Edit.TheVariants.{Remove}
use Rattle.edit_text.proofs.LineSteps.{was_number}
use Rattle.edit_text.proofs.lines.take_removed.Goals as goal

pub returns-clause-taken : goal.returns-clause-taken
returns-clause-taken c = λ s edits t.
    let is = was_number (removed (words_in (drop c.args.from c.args.line.now))) c.in-Some.number c.in-Some.ensures in
    subst (λ (o : Option ℕ). IfOk c.remove.result (λ fault. MakesIfAny s edits (option_map Remove o) fault c.remove.new.draft)) (sym is.1) (c.remove.ensures.made s edits is.0 t is.2)
