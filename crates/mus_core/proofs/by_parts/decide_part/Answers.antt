use Rattle.std.proofs.Common.{◌≡◌, ◌∙◌, true, ℕ, ℤ, List, [], ◌∷◌, subst, sym}
use Rattle.lk_model.specs.Formulas.Formula.{Cnf, positions_of}
use Rattle.lk_model.specs.declared.decided.Decided.{Decided}
use Rattle.lk_model.specs.declared.document.Round.{Round}
use Rattle.general_laws.specs.Found.{IsUnfinished}
use Rattle.part_copy.specs.Found.{are_filled, IsPartModel}
use Rattle.part_copy.proofs.SubCopies.{filled_copy}
use Rattle.part_formula.specs.declared.deciding.Refuted.{Refuted as Refutation}
use Rattle.part_formula.specs.Decisions.{IsDecided, IsRefuted}
use Rattle.mus_core.proofs.Beginning.{filled_part, told_set}
use Rattle.mus_core.proofs.Telling.{stopped_copy}
use Rattle.mus_core.proofs.by_parts.decide_part.Goals as goal

pub decide_clauses-requires : goal.decide_clauses-requires
decide_clauses-requires c =
    let copy = c.in_ok-copy.copy in
    subst (λ (G : Cnf). are_filled G (positions_of G) ≡ true) (sym c.clauses.ensures.clauses)
    (filled_copy copy c.clauses.ensures.copy (filled_part c.args.f.now c.args.part.now copy c.in_ok-copy.ensures c.requires.part c.requires.filled))

pub returns-in-Model : goal.returns-in-Model
returns-in-Model c =
    let copy = c.in_ok-copy.copy in
    let of = c.in_ok-copy.ensures in
    let found : IsPartModel copy.clauses (positions_of copy.clauses) c.in-Model.set = subst (λ (H : Cnf). IsPartModel H (positions_of H) c.in-Model.set) c.clauses.ensures.clauses
    (subst (λ (d : Decided (List ℤ) Refutation Round). IsDecided c.clauses.result.now c.args.conflicts d) c.in-Model.is c.in_ok-set.ensures) in
    subst (λ (F : Cnf). IsPartModel F c.args.part.now c.literals.result) of.formula
    (subst (λ (ps : List ℕ). IsPartModel copy.formula ps c.literals.result) of.part (c.literals.ensures.model found))

pub returns-in_ok-refutation-in-Refuted : goal.returns-in_ok-refutation-in-Refuted
returns-in_ok-refutation-in-Refuted c =
    let copy = c.in_ok-copy.copy in
    let conflicts = c.args.conflicts in
    let found : IsRefuted copy.clauses conflicts c.in-Refuted.found = subst (λ (H : Cnf). IsRefuted H conflicts c.in-Refuted.found) c.clauses.ensures.clauses
    (subst (λ (d : Decided (List ℤ) Refutation Round). IsDecided c.clauses.result.now conflicts d) c.in-Refuted.is c.in_ok-set.ensures) in
    let r = c.in_ok-refutation-in-Refuted in
    told_set c.args.f.now c.args.part.now copy conflicts c.in-Refuted.found.used c.positions.result r.field-0 c.in_ok-copy.ensures c.clauses.ensures.copy found.positions
    c.positions.ensures.positions (r.ensures c.in-Refuted.found.used conflicts found.positions found.refuted)

pub returns-in_ok-open-in-Stopped : goal.returns-in_ok-open-in-Stopped
returns-in_ok-open-in-Stopped c =
    let copy = c.in_ok-copy.copy in
    let conflicts = c.args.conflicts in
    let found : IsUnfinished copy.clauses (positions_of copy.clauses) conflicts (c.in-Stopped.round ∷ []) =
    subst (λ (H : Cnf). IsUnfinished H (positions_of H) conflicts (c.in-Stopped.round ∷ [])) c.clauses.ensures.clauses
    (subst (λ (d : Decided (List ℤ) Refutation Round). IsDecided c.clauses.result.now conflicts d) c.in-Stopped.is c.in_ok-set.ensures) in
    let o = c.in_ok-open-in-Stopped in (
      stopped_copy c.args.f.now c.args.part.now copy c.into_part-part.result o.open.texts conflicts o.open.round c.in_ok-copy.ensures c.clauses.ensures.copy c.into_part-part.ensures
          o.ensures.form o.ensures.texts (o.ensures.round conflicts found),
      c.into_part-part.ensures ∙ c.in_ok-copy.ensures.part,
    )
