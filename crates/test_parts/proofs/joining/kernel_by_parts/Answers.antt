use Rattle.std.proofs.Common.{ℕ, List, sym, subst}
use Rattle.std.proofs.lemmas.Result.{IfOk-weaker}
use Rattle.lk_model.specs.Formulas.Formula.{positions_of}
use Rattle.lk_model.specs.declared.result.MatchingResult.{MatchingResult}
use Rattle.matching_laws.specs.MatchingResults.{IsMatchingResult}
use Rattle.autarky_compose.specs.JoinedMatching.{AreMatchingResults, AreJoined}
use Rattle.autarky_compose.proofs.JoinedLaws.{joined_matching_law}
use Rattle.test_parts.proofs.joining.kernel_by_parts.Goals as goal

pub join_matching-requires : goal.join_matching-requires
join_matching-requires c = record {
  formula = c.args.f.now;
  groups = c.in_ok-list.list;
  count = sym c.len.ensures.value;
  cover = joined_matching_law.parts c.args.f.now c.in_ok-list.list c.in_ok-list.ensures;
  results = subst (λ (ps : List (List ℕ)). AreMatchingResults c.args.f.now ps c.in_ok-found.found) c.as_slice.ensures c.in_ok-found.ensures;
}

pub returns : goal.returns
returns c =
    let F = c.args.f.now in
    let list = c.in_ok-list.list in
    let found = c.in_ok-found.found in
    let results : AreMatchingResults F list found = subst (λ (ps : List (List ℕ)). AreMatchingResults F ps found) c.as_slice.ensures c.in_ok-found.ensures in
    IfOk-weaker c.join_matching.result (λ (t : MatchingResult). AreJoined c.len.result found t) (λ (t : MatchingResult). IsMatchingResult F (positions_of F) t)
    (λ t j. joined_matching_law.whole F list found t (joined_matching_law.parts F list c.in_ok-list.ensures) results (subst (λ (m : ℕ). AreJoined m found t) c.len.ensures.value j)) c.join_matching.ensures
