use Rattle.std.proofs.Common.{◌≡◌, ◌∙◌, true, ℕ, List, [], ◌∷◌, ap, subst, sym}
use Rattle.lk_model.specs.Limits.{max_vars}
use Rattle.lk_model.specs.Lists.{rises_within}
use Rattle.lk_model.specs.Formulas.Formula.{clauses_at, positions_of}
use Rattle.general_laws.specs.Found.{IsUnfinished}
use Rattle.result_renaming.specs.declared.renaming.Renaming.{Renaming}
use Rattle.part_copy.specs.Copies.{Copy}
use Rattle.part_copy.proofs.Told.{names_fit, alone_answered}
use Rattle.part_copy.proofs.copies.PartCopy.open_alone.Goals as goal

pub only-requires : goal.only-requires
only-requires c = subst (λ (ns : List ℕ). rises_within 0 max_vars ns ≡ true) (sym c.as_slice-3.ensures) (names_fit _ c.self.invariant)

pub returns-clause-round : goal.returns-clause-round
returns-clause-round c conflicts open_round =
    let own : Copy = record { formula = c.self.inside.formula.now; part = c.self.inside.part; names = c.self.inside.names; clauses = c.self.inside.clauses } in
    let T = c.in_ok-texts.texts in
    let by : Renaming = record { positions = c.from.result; last = c.from-2.result; part = c.as_slice-2.result; names = c.as_slice-3.result } in
    alone_answered own T by c.args.round c.in_ok-round.round conflicts c.self.invariant
    (c.in_ok-texts.ensures ∙ ap (clauses_at own.formula) c.as_slice.ensures) c.len.ensures.formula (record {
      positions = c.from.ensures ∙ c.len.ensures.value;
      last = c.from-2.ensures ∙ c.len-2.ensures.value;
      part = c.as_slice-2.ensures ∙ c.in_ok-all.ensures.value;
      names = c.as_slice-3.ensures;
    }) (subst (λ (d : Copy). IsUnfinished d.clauses (positions_of d.clauses) conflicts (c.args.round ∷ [])) (sym c.self.view_is) open_round)
    c.in_ok-round.ensures.round c.in_ok-round.ensures.numbers
