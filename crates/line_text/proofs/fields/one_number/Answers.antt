use Rattle.std.proofs.Common.{◌∷◌, [], ◌∙◌, sym, refl}
use Rattle.line_text.specs.Fields.{one_within}
use Rattle.line_text.proofs.Words.{many}
use Rattle.line_text.proofs.fields.one_number.Goals as goal

pub returns-then-is_some : goal.returns-then-is_some
returns-then-is_some c =
    many (one_within c.args.high) (c.first_field.result.0.now ∷ []) _ c.first_field.result.1 c.first_field.ensures.words (sym c.is_some.ensures ∙ c.if-is_some.true) (λ word more. refl)
