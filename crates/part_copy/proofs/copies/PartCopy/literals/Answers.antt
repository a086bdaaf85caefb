use Rattle.std.proofs.Common.{◌≡◌, ◌∙◌, true, ap, subst, sym, map, List, ℕ}
use Rattle.lk_model.specs.Limits.{max_vars}
use Rattle.lk_model.specs.Lists.{rises_within}
use Rattle.renaming_laws.specs.Renaming.{named}
use Rattle.part_copy.proofs.Told.{names_fit, literals_told, model_told}
use Rattle.part_copy.proofs.copies.PartCopy.literals.Goals as goal

pub literals-requires : goal.literals-requires
literals-requires c =
    subst (λ (ns : List ℕ). rises_within 0 max_vars ns ≡ true) (sym c.renaming.ensures.renaming.names) (names_fit c.args.self.now c.renaming.ensures.copy)

pub returns-clause-told : goal.returns-clause-told
returns-clause-told c =
    literals_told c.args.self.now c.args.literals c.literals.result c.renaming.ensures.copy c.requires
    (c.literals.ensures ∙ ap (λ (ns : List ℕ). map (named ns) c.args.literals) c.renaming.ensures.renaming.names)

pub returns-clause-model : goal.returns-clause-model
returns-clause-model c model =
    model_told c.args.self.now c.args.literals c.literals.result c.renaming.ensures.copy
    (c.literals.ensures ∙ ap (λ (ns : List ℕ). map (named ns) c.args.literals) c.renaming.ensures.renaming.names) model
