use Rattle.std.proofs.Common.{◌∷◌, ◌∙◌, map, List, ap, sym}
use Rattle.lk_model.specs.declared.document.Weight.{Weight}
use Rattle.lk_model.specs.Texts.Lines.{Word}
use Rattle.line_text.specs.Fields.{fields, rest_fields}
use Rattle.line_text.specs.FieldLists.{twos}
use Rattle.line_text.specs.LastVars.{last_or}
use Rattle.cert_text.specs.LinearLines.{weight_within}
use Rattle.line_text.proofs.LastOnes.{last_more}
use Rattle.cert_text.proofs.LinearSteps.{weight_read}
use Rattle.line_text.proofs.TwosSteps.{twos_step, twos_short}
use Rattle.cert_text.proofs.signed_lists.weights_in.Goals as goal

pub returns-in_default-behind : goal.returns-in_default-behind
returns-in_default-behind c =
    let w = c.first_field.result.0.now in
    let o = c.first_field-in-words.result.0.now in
    let words = c.first_field.ensures.words ∙ ap (λ p. w ∷ rest_fields p) c.in-Some.is ∙ ap (λ (ws : List Word). w ∷ ws) (c.first_field-in-words.ensures.words ∙ ap (λ p. o ∷ rest_fields p) c.in_default-behind.is) in
    twos_short (weight_within c.args.n) _ c.words.weights (fields c.words.rest.now) w o c.words.invariant.told words

pub words-preserved : goal.words-preserved
words-preserved c =
    let w = c.first_field.result.0.now in
    let o = c.first_field-in-words.result.0.now in
    let words = c.first_field.ensures.words ∙ ap (λ p. w ∷ rest_fields p) c.in-Some.is ∙ ap (λ (ws : List Word). w ∷ ws) (c.first_field-in-words.ensures.words ∙ ap (λ p. o ∷ rest_fields p) c.in-Some-behind.is) in
    let item = c.in-Some-entry_in.entry in
    let is = weight_read c.args.n c.words.last item c.words.weights w o c.words.invariant.last (sym c.in-Some-entry_in.is ∙ c.entry_in.ensures) in
    record {
      told = twos_step (weight_within c.args.n) _ c.words.weights item (fields c.words.rest.now) (fields c.in-Some-behind.behind.now) w o c.words.invariant.told words is
          ∙ ap (λ (xs : List Weight). twos (weight_within c.args.n) xs (fields c.in-Some-behind.behind.now)) (sym c.in_ok-push.ensures.ok);
      last = sym (ap (λ (xs : List Weight). last_or 0 (map (λ (x : Weight). x.var) xs)) c.in_ok-push.ensures.ok ∙ last_more (λ (x : Weight). x.var) 0 c.words.weights item);
    }
