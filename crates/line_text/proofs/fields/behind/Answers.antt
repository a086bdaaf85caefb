use Rattle.std.proofs.Common.{◌≡◌, ◌∷◌, ◌∙◌, true, List, ℕ, Some, ap, sym}
use Rattle.std.specs.Borrow.{Bor}
use Rattle.std.specs.Str.{bytes_eq}
use Rattle.std.proofs.lemmas.Bool.{not-false}
use Rattle.lk_model.specs.Texts.Lines.{Word}
use Rattle.line_text.specs.Fields.{fields, after, rest_fields}
use Rattle.line_text.proofs.Words.{after_some}
use Rattle.line_text.proofs.fields.behind.Goals as goal

pub returns : goal.returns
returns c =
    let first = c.args.first.now in
    let second = c.args.second.now in
    let x = c.first_field.result.0.now in
    let y = c.first_field-2.result.0.now in
    let one : bytes_eq x first ≡ true = not-false (bytes_eq x first) (sym c.ne.ensures ∙ c.if-ne.false) in
    let other : bytes_eq y second ≡ true = not-false (bytes_eq y second) (sym c.ne-2.ensures ∙ c.if-ne-2.false) in
    let words =
    c.first_field.ensures.words ∙ ap (λ o. x ∷ rest_fields o) c.in_default-Some.is-1
    ∙ ap (λ (ws : List Word). x ∷ ws)
    (sym (ap (λ (r : Bor (List ℕ)). fields r.now) c.in_default-Some.rest-is) ∙ c.first_field-2.ensures.words ∙ ap (λ o. y ∷ rest_fields o) c.in_default-Some-first_field.is-1) in
    ap (λ (r : Bor (List ℕ)). Some (fields r.now)) c.in_default-Some-first_field.rest-is ∙ sym (ap (after first second) words ∙ after_some x y first second c.in_default-Some-first_field.rest.now one other)
