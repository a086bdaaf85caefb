use Rattle.std.proofs.Common.{◌∙◌, List, ℕ, ap, subst}
use Rattle.lk_model.specs.Formulas.Crossed.{formula_without}
use Rattle.lk_model.specs.Formulas.Formula.{Cnf, clauses_at}
use Rattle.lk_model.specs.Held.VariableSets.{is_in}
use Rattle.renaming_laws.specs.Renaming.{IsDense}
use Rattle.crossed_copy.proofs.PartCopies.{crossed_dense}
use Rattle.crossed_copy.proofs.copying.copy_of.Goals as goal

pub returns : goal.returns
returns c =
    let F = c.args.over.now.formula.now in
    let b = is_in c.args.over.now.blocked.now in
    let C = c.in_ok-clauses.clauses in
    let all = c.as_slice-2.ensures ∙ c.in_ok-all.ensures.value in
    record {
      positions = c.requires.positions;
      dense = crossed_dense c.args.over.now C c.in_ok-formula.formula c.args.positions.items c.in_ok-names.names.items
          (c.in_ok-clauses.ensures ∙ ap (λ (H : Cnf). formula_without H b) (c.in_ok-clauses_at.ensures ∙ ap (clauses_at F) c.deref.ensures.value))
          (subst (λ (ps : List ℕ). IsDense C ps c.in_ok-names.names.items c.in_ok-formula.formula) all
          (subst (λ (ns : List ℕ). IsDense C c.as_slice-2.result.now ns c.in_ok-formula.formula) c.deref-2.ensures.value c.in_ok-formula.ensures));
    }
