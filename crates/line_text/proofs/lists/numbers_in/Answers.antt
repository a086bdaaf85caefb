use Rattle.std.proofs.Common.{◌≡◌, ◌∷◌, ◌++◌, ◌+◌, ◌∙◌, ap, sym, subst, List, ℕ}
use Rattle.std.specs.Prelude.{option_map}
use Rattle.lk_model.specs.Texts.NumberWords.{plain_number}
use Rattle.line_text.specs.Fields.{fields}
use Rattle.line_text.specs.Fields.{rest_fields}
use Rattle.line_text.specs.FieldLists.{rising_from}
use Rattle.line_text.proofs.ListSteps.{rising_step, rising_none, number_high}
use Rattle.line_text.proofs.lists.numbers_in.Goals as goal

pub returns-in_default-number_in : goal.returns-in_default-number_in
returns-in_default-number_in c =
    let words = c.first_field.ensures.words ∙ ap (λ o. c.first_field.result.0.now ∷ rest_fields o) c.in-Some.is in
    rising_none _ c.words.numbers c.words.last c.args.high (fields c.words.rest.now) c.first_field.result.0.now c.in-Some.behind.now c.words.invariant.told words (sym c.in_default-number_in.is ∙ c.number_in.ensures)

pub words-preserved : goal.words-preserved
words-preserved c =
    let words = c.first_field.ensures.words ∙ ap (λ o. c.first_field.result.0.now ∷ rest_fields o) c.in-Some.is in
    let is = sym c.in-Some-number_in.is ∙ c.number_in.ensures in
    let step = rising_step _ c.words.numbers c.words.last c.args.high c.in-Some-number_in.number (fields c.words.rest.now) c.first_field.result.0.now c.in-Some.behind.now c.words.invariant.told words is in
    record {
      told = subst (λ (ns : List ℕ). rising_from 0 c.args.high (fields c.args.line.now) ≡ option_map (λ ms. ns ++ ms) (rising_from c.in-Some-number_in.number c.args.high (fields c.in-Some.behind.now))) (sym c.in_ok-push.ensures.ok) step;
      small = number_high (c.words.last + 1) c.args.high c.in-Some-number_in.number (plain_number c.first_field.result.0.now) is;
    }
