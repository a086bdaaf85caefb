use Rattle.std.proofs.Common.{◌≡◌, ◌∙◌, ◌+◌, ◌++◌, ℕ, ℤ, List, [], ◌∷◌, Option, take, refl, sym, ap, subst, arith}
use Rattle.std.specs.Prelude.{IfSome, unwrap_or}
use Rattle.std.proofs.lemmas.List.{take_more}
use Rattle.lk_model.specs.declared.decided.Decided.{Decided}
use Rattle.lk_model.specs.declared.result.GeneralResult.{GeneralResult}
use Rattle.autarky_compose.specs.JoinedGeneral.{AreJoinable, AreJoined}
use Rattle.part_copy.specs.Found.{IsPartModel, sets_only}
use Rattle.mus_core.specs.ByParts.{AreModels, IsFirstStop, IsPartDecided}
use Rattle.part_formula.specs.declared.deciding.Refuted.{Refuted as Refutation}
use Rattle.mus_core.specs.declared.by_parts.Stop.{Stop}
use Rattle.mus_core.proofs.PartModels.{behind_model, first_stop, joinable, model_more, stop_answer, taken, whole_model}
use Rattle.mus_core.proofs.by_parts.decide_each.Goals.{in-Model+in_ok-push-in-Model, in-Stopped}
use Rattle.mus_core.proofs.by_parts.decide_each.Goals as goal

pub loop-part-preserved : goal.loop-part-preserved
loop-part-preserved c =
    let F = c.args.f.now in
    let list = c.args.list.now in
    let i = c.loop-part.part-index in
    let part = c.part-item.result in
    let found = c.loop-part.models in
    let next : take (i + 1) list ≡ take i list ++ part ∷ [] = take_more list i part c.loop-part-test.true ∙ ap (λ (ps : List ℕ). take i list ++ ps ∷ []) (sym c.part-item.is) in
    elim c.match-branch-2.branch [
      | in-Model+in_ok-push-in-Model w ↦
          (let model = subst (λ (ps : List ℕ). IsPartModel F ps w.in-Model.set) c.as_slice.ensures
          (subst (λ (d : Decided (List ℤ) Refutation Stop). IsPartDecided F c.args.conflicts c.as_slice.result.now d) w.in-Model.is c.in_ok-set.ensures) in
          record {
            models = λ none.
                subst (λ (rs : List GeneralResult). AreModels F (take (i + 1) list) rs)
                (sym (w.models-is ∙ w.in_ok-push-in-Model.ensures.ok ∙ (λ j. found ++ w.only_set.ensures j ∷ [])))
                (model_more F list found i part (sets_only w.in-Model.set) c.loop-part-test.true c.part-item.is refl model
                (c.loop-part.invariant.models (sym w.stopped-is ∙ none)));
            stopped = subst (λ (o : Option Stop). IfSome o (IsFirstStop F c.args.conflicts (take (i + 1) list))) (sym w.stopped-is)
                (subst (λ (ps : List (List ℕ)). IfSome c.loop-part.stopped (IsFirstStop F c.args.conflicts ps)) (sym next)
                (behind_model F c.args.conflicts (take i list) part w.in-Model.set c.loop-part.stopped model c.loop-part.invariant.stopped));
          })
      | in-Stopped w ↦
          (let stop = subst (λ (d : Decided (List ℤ) Refutation Stop). IsPartDecided F c.args.conflicts c.as_slice.result.now d) w.in-Stopped.is c.in_ok-set.ensures in
          let own : w.in-Stopped.stop.part ≡ part = stop.1 ∙ c.as_slice.ensures in
          record {
            models = λ none. absurd (let stopped = w.stopped-is in let f : ⊥ = cc (stopped, none) in f);
            stopped = subst (λ (o : Option Stop). IfSome o (IsFirstStop F c.args.conflicts (take (i + 1) list))) (sym w.stopped-is)
                (subst (λ (s : Stop). IsFirstStop F c.args.conflicts (take (i + 1) list) s) (sym w.unwrap_or.ensures)
                (subst (λ (ps : List (List ℕ)). IsFirstStop F c.args.conflicts ps (unwrap_or c.loop-part.stopped w.in-Stopped.stop)) (sym (next ∙ ap (λ (ps : List ℕ). take i list ++ ps ∷ []) (sym own)))
                (first_stop F c.args.conflicts (take i list) found c.loop-part.stopped w.in-Stopped.stop stop.0 c.loop-part.invariant.models c.loop-part.invariant.stopped)));
          })
    ]

pub returns-in-Some : goal.returns-in-Some
returns-in-Some c =
    let F = c.args.f.now in
    let list = c.args.list.now in
    let past = c.loop-part-test.false in
    stop_answer F c.args.conflicts list c.in-Some.stop c.requires.parts
    (subst (λ (ps : List (List ℕ)). IsFirstStop F c.args.conflicts ps c.in-Some.stop) (taken list c.loop-part.part-index (omega (arith, past)))
    (subst (λ (o : Option Stop). IfSome o (IsFirstStop F c.args.conflicts (take c.loop-part.part-index list))) c.in-Some.is c.loop-part.invariant.stopped))

pub join_general-requires : goal.join_general-requires
join_general-requires c =
    let F = c.args.f.now in
    let list = c.args.list.now in
    let past = c.loop-part-test.false in
    subst (λ (m : ℕ). AreJoinable m c.loop-part.models) (sym c.len.ensures.value)
    (joinable F list c.loop-part.models c.requires.parts
    (subst (λ (ps : List (List ℕ)). AreModels F ps c.loop-part.models) (taken list c.loop-part.part-index (omega (arith, past)))
    (c.loop-part.invariant.models c.in-None.is)))

pub returns-in_ok-join_general-in-None : goal.returns-in_ok-join_general-in-None
returns-in_ok-join_general-in-None c =
    let F = c.args.f.now in
    let list = c.args.list.now in
    let past = c.loop-part-test.false in
    let t = c.in_ok-join_general-in-None.field-0 in
    whole_model F list c.loop-part.models t c.requires.parts
    (subst (λ (ps : List (List ℕ)). AreModels F ps c.loop-part.models) (taken list c.loop-part.part-index (omega (arith, past)))
    (c.loop-part.invariant.models c.in-None.is))
    (subst (λ (m : ℕ). AreJoined m c.loop-part.models t) c.len.ensures.value c.in_ok-join_general-in-None.ensures)
