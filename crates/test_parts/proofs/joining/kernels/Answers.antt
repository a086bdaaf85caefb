use Rattle.std.proofs.Common.{◌∙◌, ℕ, ◌+◌, ◌<◌, List, [], ◌∷◌, ◌++◌, length, get_or, take, sym, subst, arith}
use Rattle.std.proofs.lemmas.List.{take_more}
use Rattle.lk_model.specs.declared.result.MatchingResult.{MatchingResult}
use Rattle.matching_laws.specs.MatchingResults.{IsMatchingResult}
use Rattle.autarky_compose.specs.JoinedMatching.{AreMatchingResults}
use Rattle.autarky_compose.proofs.Results.{results_more}
use Rattle.test_parts.proofs.joining.kernels.Goals as goal

pub loop-part-preserved : goal.loop-part-preserved
loop-part-preserved c =
    let F = c.args.f.now in
    let list = c.args.list.now in
    let i = c.loop-part.part-index in
    let part = c.part-item.result in
    let found = c.loop-part.found in
    let kernel = c.in_ok-kernel.kernel in
    let lt : i < length list = (let t = c.loop-part-test.true in omega (arith, t)) in
    let one : IsMatchingResult F (get_or list i part) kernel =
    subst (λ (ps : List ℕ). IsMatchingResult F ps kernel) (c.as_slice.ensures ∙ c.part-item.is) c.in_ok-kernel.ensures.found in
    let more = results_more F (take i list) found (get_or list i part) kernel c.loop-part.invariant one in
    subst (λ (rs : List MatchingResult). AreMatchingResults F (take (i + 1) list) rs) (sym c.in_ok-push.ensures.ok)
    (subst (λ (ps : List (List ℕ)). AreMatchingResults F ps (found ++ kernel ∷ [])) (sym (take_more list i part lt)) more)
