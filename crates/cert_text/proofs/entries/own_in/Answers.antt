use Rattle.std.proofs.Common.{◌∷◌, [], ◌∙◌, List, ℕ, ap, sym, refl}
use Rattle.std.specs.Borrow.{Bor}
use Rattle.lk_model.specs.Texts.Lines.{Word}
use Rattle.line_text.specs.Fields.{fields, rest_fields}
use Rattle.cert_text.specs.Entries.{own_within}
use Rattle.line_text.proofs.Words.{many}
use Rattle.cert_text.proofs.entries.own_in.Goals as goal

pub returns-then-is_some : goal.returns-then-is_some
returns-then-is_some c =
    let x = c.first_field.result.0.now in
    let y = c.first_field-2.result.0.now in
    let words =
    c.first_field.ensures.words ∙ ap (λ o. x ∷ rest_fields o) c.in_default-Some.is-1
    ∙ ap (λ (ws : List Word). x ∷ ws) (sym (ap (λ (r : Bor (List ℕ)). fields r.now) c.in_default-Some.rest-is) ∙ c.first_field-2.ensures.words) in
    many (own_within c.args.last c.args.n c.args.m) (x ∷ y ∷ []) _ c.first_field-2.result.1 words (sym c.is_some.ensures ∙ c.if-is_some.true) (λ word more. refl)
