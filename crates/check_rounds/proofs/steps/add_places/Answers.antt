use Rattle.std.proofs.Common.{◌∙◌, ◌++◌, ◌∷◌, [], List, sym, ap, append_assoc}
use Rattle.check_rounds.specs.declared.steps.StepPlace.{StepPlace}
use Rattle.check_rounds.specs.Steps.{places_in_round}
use Rattle.check_rounds.proofs.StepPlaces.{place_more}
use Rattle.check_rounds.proofs.steps.add_places.Goals as goal

pub loop-index-preserved : goal.loop-index-preserved
loop-index-preserved c =
    let k = c.args.round in
    let i = c.loop-index.index in
    let at : StepPlace = record { round = k; index = i } in
    let before = c.args.places.now.items in
    c.in_ok-push.ensures.items
    ∙ ap (λ (ps : List StepPlace). ps ++ at ∷ []) c.loop-index.invariant
    ∙ append_assoc before (places_in_round k 0 i) (at ∷ [])
    ∙ ap (λ (ps : List StepPlace). before ++ ps) (sym (place_more k i))
