use Rattle.std.proofs.Common.{◌≡◌, true, ℕ, List, subst, sym}
use Rattle.lk_model.specs.Limits.{max_vars}
use Rattle.lk_model.specs.Lists.{rises_within}
use Rattle.lk_model.specs.Formulas.Formula.{positions_of}
use Rattle.lk_model.specs.declared.result.General.{General}
use Rattle.general_laws.specs.Found.{IsFound}
use Rattle.part_copy.proofs.Told.{names_fit, done_told, unfinished_told}
use Rattle.part_copy.proofs.copies.PartCopy.general.Goals as goal

pub result-requires : goal.result-requires
result-requires c =
    subst (λ (ns : List ℕ). rises_within 0 max_vars ns ≡ true) (sym c.renaming.ensures.renaming.names) (names_fit c.args.self.now c.renaming.ensures.copy)

pub rounds-requires : goal.rounds-requires
rounds-requires c =
    let e = c.renaming-in-Unfinished.ensures in
    subst (λ (ns : List ℕ). rises_within 0 max_vars ns ≡ true) (sym e.renaming.names) (names_fit c.args.self.now e.copy)

pub returns-in_ok-result-in-Done : goal.returns-in_ok-result-in-Done
returns-in_ok-result-in-Done c conflicts found =
    let G = c.args.self.now.clauses in
    let r = c.in_ok-result-in-Done in
    done_told c.args.self.now c.renaming.result c.in-Done.r r.field-0 conflicts c.renaming.ensures.copy c.renaming.ensures.renaming r.ensures.result r.ensures.numbers
    (subst (λ (g : General). IsFound G (positions_of G) conflicts g) c.in-Done.is found)

pub returns-in_ok-rounds-in-Unfinished : goal.returns-in_ok-rounds-in-Unfinished
returns-in_ok-rounds-in-Unfinished c conflicts found =
    let G = c.args.self.now.clauses in
    let r = c.in_ok-rounds-in-Unfinished in
    let e = c.renaming-in-Unfinished in
    unfinished_told c.args.self.now e.result c.in-Unfinished.rounds r.field-0 conflicts e.ensures.copy e.ensures.renaming r.ensures.rounds r.ensures.numbers
    (subst (λ (g : General). IsFound G (positions_of G) conflicts g) c.in-Unfinished.is found)
