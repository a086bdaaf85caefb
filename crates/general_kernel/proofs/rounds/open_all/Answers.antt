use Rattle.std.proofs.Common.{◌∙◌, ◌++◌, ◌∷◌, [], List, ap, sym}
use Rattle.std.proofs.lemmas.List.{map-append}
use Rattle.lk_model.specs.declared.document.Step.{Step}
use Rattle.lk_model.specs.declared.document.Round.{Round}
use Rattle.general_kernel.specs.TrimmedRounds.{rounds_of}
use Rattle.general_kernel.proofs.Needed.{round_of, round_of_log}
use Rattle.general_kernel.proofs.rounds.open_all.Goals as goal

pub loop-log-preserved : goal.loop-log-preserved
loop-log-preserved c =
    let before = c.loop-log.yielded in
    c.in_ok-push.ensures.ok ∙ ap (λ (rs : List Round). rs ++ c.in_ok-into_round.field-0 ∷ []) c.loop-log.invariant
    ∙ ap (λ (us : List Step). rounds_of before ++ round_of us ∷ []) c.in_ok-into_round.ensures.steps ∙ sym (map-append round_of_log before (c.in-Some.log ∷ []))
