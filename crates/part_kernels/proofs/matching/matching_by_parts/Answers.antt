use Rattle.std.proofs.Common.{ℕ, List, subst}
use Rattle.std.proofs.lemmas.Result.{IfOk-weaker}
use Rattle.lk_model.specs.Formulas.Formula.{positions_of}
use Rattle.lk_model.specs.declared.result.MatchingResult.{MatchingResult}
use Rattle.matching_laws.specs.MatchingResults.{IsMatchingResult}
use Rattle.autarky_compose.specs.JoinedMatching.{AreMatchingResults, AreJoined}
use Rattle.autarky_compose.proofs.JoinedLaws.{joined_matching_law}
use Rattle.part_kernels.proofs.matching.matching_by_parts.Goals as goal

pub returns : goal.returns
returns g c =
    let F = c.args.f.now in
    let groups = c.in_ok-groups.groups in
    let found = c.in_ok-found.found in
    let results : AreMatchingResults F groups found = subst (λ (gs : List (List ℕ)). AreMatchingResults F gs found) c.as_slice.ensures c.in_ok-found.ensures in
    IfOk-weaker c.join_matching.result (λ (t : MatchingResult). AreJoined c.len.result found t) (λ (t : MatchingResult). IsMatchingResult F (positions_of F) t)
    (λ t j. joined_matching_law.whole F groups found t c.in_ok-groups.ensures.cover results (subst (λ (m : ℕ). AreJoined m found t) c.len.ensures.value j)) c.join_matching.ensures
