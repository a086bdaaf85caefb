use Rattle.std.proofs.Common.{rules, ◌≡◌, ◌∙◌, ℕ, ◌<◌, List, [], length, get_or, map, Ok, IfOk, sym, arith}
use Rattle.std.proofs.lemmas.Result.{IfOk-weaker}
use Rattle.par_parts.proofs.AllOk.{ok_count, ok_at}
use Rattle.general_laws.specs.Found.{IsFound}
use Rattle.lk_model.specs.declared.result.General.{General}
use Rattle.part_kernels.specs.ByParts.{AreFound}
use Rattle.part_kernels.proofs.Founds.{nothing, found_from}
use Rattle.part_kernels.proofs.general.answers.Goals as goal

each_answer : (g : _) (c : goal.After-all_ok g) (k : ℕ) → k < length c.args.list.now
    → IfOk (get_or c.in_ok-answers.answers k (Ok nothing)) (IsFound c.args.f.now (get_or c.args.list.now k []) c.args.conflicts)
each_answer g c k lt =
    let w = (c.in_ok-answers.ensures.each k (Ok nothing) lt).1 in
    let item = w.item_is [] in
    let call = w.call in
    search rules

pub returns : goal.returns
returns g c =
    let F = c.args.f.now in
    let conflicts = c.args.conflicts in
    let parts = c.args.list.now in
    IfOk-weaker c.all_ok.result (λ (found : List General). c.in_ok-answers.answers ≡ map Ok found) (AreFound F conflicts parts)
    (λ found are.
    let count : length found ≡ length parts = sym (ok_count found are) ∙ c.in_ok-answers.ensures.len in
    found_from F conflicts parts found count (λ k lt.
    ok_at found are (IsFound F (get_or parts k []) conflicts) k nothing (omega (arith, lt, count)) (each_answer g c k lt)))
    c.all_ok.ensures
