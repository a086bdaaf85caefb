use Rattle.std.proofs.Common.{◌≡◌, ◌∙◌, ℕ, List, ap, subst}
use Rattle.lk_model.specs.Formulas.Formula.{Cnf, positions_of}
use Rattle.matching_laws.specs.MatchingResults.{IsMatchingResult}
use Rattle.part_kernels.proofs.copied.matching_of_part.Goals as goal

pub matching-requires : goal.matching-requires
matching-requires c =
    let G = c.in_ok-copy.copy.clauses in
    let found = c.in_ok-found.found in
    let all : c.as_slice.result.now ≡ positions_of G = c.as_slice.ensures ∙ c.in_ok-all.ensures.value ∙ ap positions_of c.clauses.ensures.clauses in
    subst (λ (H : Cnf). IsMatchingResult H (positions_of G) found) c.clauses-2.ensures.clauses
    (subst (λ (ps : List ℕ). IsMatchingResult c.clauses-2.result.now ps found) all c.in_ok-found.ensures.found)
