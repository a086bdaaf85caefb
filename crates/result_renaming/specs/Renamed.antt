-- What is found, in the numbers that a renaming gives.
use Rattle.std.specs.Prelude.{ℕ, map}
use Rattle.lk_model.specs.declared.document.Turn.{Turn}
use Rattle.lk_model.specs.declared.document.Step.{Step}
use Rattle.lk_model.specs.declared.document.Round.{Round}
use Rattle.lk_model.specs.declared.result.GeneralResult.{GeneralResult}
use Rattle.renaming_laws.specs.Renaming.{nth, named, number_after, turn_under, step_under, round_under}
use Rattle.result_renaming.specs.declared.renaming.Renaming.{Renaming}

abbrev pub new_number : Renaming → ℕ → ℕ
new_number by = number_after by.positions by.last by.part.now

abbrev pub new_turn : Renaming → Turn → Turn
new_turn by = turn_under (named by.names.now) (new_number by)

abbrev pub new_step : Renaming → Step → Step
new_step by = step_under (named by.names.now) (new_number by)

abbrev pub new_round : Renaming → Round → Round
new_round by = round_under (named by.names.now) (new_number by)

abbrev pub new_result : Renaming → GeneralResult → GeneralResult
new_result by r = record {
  kept = map (nth by.part.now) r.kept;
  set = map (named by.names.now) r.set;
  rounds = map (new_round by) r.rounds;
}
