use Rattle.std.proofs.Common.{◌∷◌, ◌∙◌, List, ap, sym}
use Rattle.lk_model.specs.declared.document.Turn.{Turn}
use Rattle.lk_model.specs.Texts.Lines.{Word}
use Rattle.line_text.specs.Fields.{fields, rest_fields}
use Rattle.line_text.specs.FieldLists.{twos}
use Rattle.round_text.specs.RoundLines.{turn_within}
use Rattle.line_text.proofs.TwosSteps.{twos_step, twos_short}
use Rattle.round_text.proofs.chain_lists.turns_in.Goals as goal

pub returns-in_default-behind : goal.returns-in_default-behind
returns-in_default-behind c =
    let w = c.first_field.result.0.now in
    let o = c.first_field-in-words.result.0.now in
    let words = c.first_field.ensures.words ∙ ap (λ p. w ∷ rest_fields p) c.in-Some.is ∙ ap (λ (ws : List Word). w ∷ ws) (c.first_field-in-words.ensures.words ∙ ap (λ p. o ∷ rest_fields p) c.in_default-behind.is) in
    twos_short (turn_within c.args.n c.args.number) _ c.words.turns (fields c.words.rest.now) w o c.words.invariant words

pub words-preserved : goal.words-preserved
words-preserved c =
    let w = c.first_field.result.0.now in
    let o = c.first_field-in-words.result.0.now in
    let words = c.first_field.ensures.words ∙ ap (λ p. w ∷ rest_fields p) c.in-Some.is ∙ ap (λ (ws : List Word). w ∷ ws) (c.first_field-in-words.ensures.words ∙ ap (λ p. o ∷ rest_fields p) c.in-Some-behind.is) in
    twos_step (turn_within c.args.n c.args.number) _ c.words.turns c.in-Some-turn_in.turn (fields c.words.rest.now) (fields c.in-Some-behind.behind.now) w o c.words.invariant words
    (sym c.turn_in.ensures ∙ c.in-Some-turn_in.is)
    ∙ ap (λ (xs : List Turn). twos (turn_within c.args.n c.args.number) xs (fields c.in-Some-behind.behind.now)) (sym c.in_ok-push.ensures.ok)
