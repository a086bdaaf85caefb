use Rattle.std.proofs.Common.{◌∙◌, ℤ, List, map, ap, sym, subst}
use Rattle.std.specs.Vec.Iter.{into_iter_items, into_iter_len}
use Rattle.lk_model.specs.declared.result.GeneralResult.{GeneralResult}
use Rattle.autarky_compose.specs.JoinedGeneral.{AreJoinable}
use Rattle.part_copy.specs.Found.{sets_only}
use Rattle.kernel_solve.proofs.Gathering.{all_come}
use Rattle.kernel_solve.proofs.model.joined.Goals as goal

pub join_general-requires : goal.join_general-requires
join_general-requires c =
    let h = c.loop-set.invariant in
    let all = all_come c.args.models c.loop-set.yielded (into_iter_items c.loop-set.set-iterator) (into_iter_len c.loop-set.set-iterator) h.rest h.long c.in-None.ensures.steps.0 in
    subst (λ (rs : List GeneralResult). AreJoinable 0 rs) (sym (h.found ∙ ap (λ (sets : List (List ℤ)). map sets_only sets) all)) c.requires
