use Rattle.std.proofs.Common.{◌∷◌, ◌∙◌, List, ℕ, ap, sym}
use Rattle.std.specs.Borrow.{Bor}
use Rattle.lk_model.specs.Texts.Lines.{Word}
use Rattle.line_text.specs.Fields.{fields, rest_fields}
use Rattle.cert_text.proofs.LinearSteps.{unit_short}
use Rattle.cert_text.proofs.signed_lists.unit_in.Goals as goal

pub returns-in_default-behind : goal.returns-in_default-behind
returns-in_default-behind c =
    let x = c.first_field.result.0.now in
    let y = c.first_field-2.result.0.now in
    let words =
    c.first_field.ensures.words ∙ ap (λ o. x ∷ rest_fields o) c.in_default-Some.is-1
    ∙ ap (λ (ws : List Word). x ∷ ws) (sym (ap (λ (r : Bor (List ℕ)). fields r.now) c.in_default-Some.rest-is) ∙ c.first_field-2.ensures.words ∙ ap (λ o. y ∷ rest_fields o) c.in_default-behind.is) in
    unit_short c.args.last c.args.n c.args.m x y (fields c.args.line.now) words
