use Rattle.std.proofs.Common.{◌≡◌, ◌∙◌, Bool, Some, drop, sym, ap, subst}
use Rattle.std.specs.Prelude.{IfOk, option_map}
use Rattle.lk_model.specs.Held.Growing.{Growing}
use Rattle.line_text.specs.FieldLists.{IsClauseOf}
use Rattle.model_text.specs.ModelTexts.{words_in}
use Rattle.edit_text.specs.EditText.{added}
use Rattle.edit_text.specs.Fed.{MakesIfAny}
use Rattle.edit_text.specs.declared.edit.Edit.TheVariants.{Add}
use Rattle.edit_text.proofs.lines.take_added.Goals as goal

pub returns-clause-taken : goal.returns-clause-taken
returns-clause-taken c = λ s edits t.
    let words = words_in (drop c.args.from c.args.line.now) in
    let literals = c.read_clause.new.clause.literals in
    let vars = ap (λ (g : Growing). g.vars) c.clear.ensures.empty ∙ t.vars in
    let found : added s.held.vars words ≡ Some literals =
    ap (λ n. added n words) (sym vars) ∙ subst (λ (b : Bool). IsClauseOf (added c.clear.new.self.vars words) b literals) c.if-not-branch.false c.in_ok-read_clause.ensures.read in
    subst (λ o. IfOk c.add.result (λ fault. MakesIfAny s edits (option_map Add o) fault c.add.new.draft)) (sym found)
    (c.add.ensures.made s edits (record {
      vars = c.read_clause.ensures.vars ∙ vars;
      numbers = t.numbers;
      literals = t.literals;
      live = t.live;
      edits_are = t.edits_are;
    }))
