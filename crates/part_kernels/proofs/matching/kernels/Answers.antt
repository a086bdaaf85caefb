use Rattle.std.proofs.Common.{rules, ◌≡◌, ◌∙◌, ℕ, ◌<◌, List, [], length, get_or, map, Ok, IfOk, sym, arith}
use Rattle.std.proofs.lemmas.Result.{IfOk-weaker}
use Rattle.par_parts.proofs.AllOk.{ok_count, ok_at}
use Rattle.lk_model.specs.declared.result.MatchingResult.{MatchingResult}
use Rattle.matching_laws.specs.MatchingResults.{IsMatchingResult}
use Rattle.autarky_compose.specs.JoinedMatching.{AreMatchingResults}
use Rattle.autarky_compose.proofs.Sources.{nothing}
use Rattle.autarky_compose.proofs.Results.{results_from}
use Rattle.part_kernels.proofs.matching.kernels.Goals as goal

each_answer : (g : _) (c : goal.After-all_ok g) (k : ℕ) → k < length c.args.groups.now
    → IfOk (get_or c.in_ok-answers.answers k (Ok nothing)) (λ (r : MatchingResult). IsMatchingResult c.args.f.now (get_or c.args.groups.now k []) r)
each_answer g c k lt =
    let w = (c.in_ok-answers.ensures.each k (Ok nothing) lt).1 in
    let item = w.item_is [] in
    let call = w.call in
    search rules

pub returns : goal.returns
returns g c =
    let F = c.args.f.now in
    let groups = c.args.groups.now in
    IfOk-weaker c.all_ok.result (λ (found : List MatchingResult). c.in_ok-answers.answers ≡ map Ok found) (λ (found : List MatchingResult). AreMatchingResults F groups found)
    (λ found are.
    let count : length found ≡ length groups = sym (ok_count found are) ∙ c.in_ok-answers.ensures.len in
    results_from F groups found count (λ k lt.
    ok_at found are (λ (r : MatchingResult). IsMatchingResult F (get_or groups k []) r) k nothing (omega (arith, lt, count)) (each_answer g c k lt)))
    c.all_ok.ensures
