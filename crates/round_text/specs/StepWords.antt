-- The words of a step between its keyword and its closing 0.
use Rattle.std.specs.Prelude.{List, [], ◌∷◌, ◌++◌}
use Rattle.std.specs.List.{flat_map}
use Rattle.std.specs.Fmt.{decimal, signed_decimal}
use Rattle.lk_model.specs.Texts.Lines.{Word}
use Rattle.lk_model.specs.Texts.PlainText.{literal_words}
use Rattle.lk_model.specs.declared.document.Turn.{Turn}
use Rattle.lk_model.specs.declared.document.Step.{Step}

abbrev pub turn_words : List Turn → List Word
turn_words turns = flat_map (λ (t : Turn). signed_decimal t.lit ∷ decimal t.with ∷ []) turns

abbrev pub step_words : Step → List Word
step_words s = decimal s.number ∷ literal_words s.clause ++ decimal s.first ∷ turn_words s.turns
