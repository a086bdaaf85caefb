use Rattle.std.proofs.Common.{sym, ap, ◌∙◌}
use Rattle.lk_model.specs.Linear.Rows.{TableauRows}
use Rattle.exact_pivot.proofs.tableau.Tableau.units.Goals as goal

pub returns : goal.returns
returns c = c.units.ensures c.args.self.now
    (ap (λ (t : TableauRows). t.positions) (sym c.self.view_is) ∙ sym c.deref.ensures.value)
    (ap (λ (t : TableauRows). t.vars) (sym c.self.view_is) ∙ sym c.deref-2.ensures.value)
    (ap (λ (t : TableauRows). t.signs) (sym c.self.view_is) ∙ sym c.deref-3.ensures.value)
    (ap (λ (t : TableauRows). t.rows) (sym c.self.view_is) ∙ sym c.deref-4.ensures.value)
