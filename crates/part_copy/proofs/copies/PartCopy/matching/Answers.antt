use Rattle.std.proofs.Common.{◌∙◌, ap, subst, sym}
use Rattle.matching_laws.specs.MatchingResults.{IsMatchingResult}
use Rattle.lk_model.specs.declared.result.MatchingResult.{MatchingResult}
use Rattle.part_copy.specs.Copies.{Copy, IsCopy}
use Rattle.part_copy.specs.Renamed.{renamed_matching}
use Rattle.part_copy.proofs.RenamedMatchings.{matching_found}
use Rattle.part_copy.proofs.copies.PartCopy.matching.Goals as goal

pub returns : goal.returns
returns c =
    let now = c.args.self.now in
    let copy : IsCopy now = subst (λ (d : Copy). IsCopy d) c.self.view_is c.self.invariant in
    let part = c.as_slice.ensures ∙ ap (λ (d : Copy). d.part) c.self.view_is in
    let names = c.as_slice-2.ensures ∙ ap (λ (d : Copy). d.names) c.self.view_is in
    subst (λ (r : MatchingResult). IsMatchingResult now.formula now.part r)
    (sym (c.renamed.ensures ∙ (λ j. renamed_matching (part j) (names j) c.args.found))) (matching_found now c.args.found copy c.requires)
