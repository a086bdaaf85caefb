-- Answers as they are printed.
use Rattle.std.proofs.Common.{◌≡◌, ◌∙◌, ℕ, List, [], ◌∷◌, ◌++◌, ap, map, refl, sym, ℤ, append_assoc}
use Rattle.std.specs.Prelude.{codes}
use Rattle.std.specs.List.{flat_map}
use Rattle.std.specs.Fmt.{signed_decimal}
use Rattle.std.proofs.lemmas.List.{append-nil}
use Rattle.lk_model.specs.Texts.PlainText.{line, ended, literal_words}
use Rattle.lk_model.specs.Texts.Lines.{Word}
use Rattle.lk_model.specs.Documents.Answers.{answer_lines, value_line}
use Rattle.lk_model.specs.declared.answer.Answer.TheVariants.{Model}

-- `v` in front of words that are closed by 0
value_words : (words : List Word) → line (codes "v" ∷ ended words) ≡ codes "v " ++ line (ended words)
value_words [] = refl
value_words (word ∷ words) = refl

-- the line of a model, written in three pieces
pub model_behind : (before with_state with_key : List ℕ) (lits : List ℤ) → with_state ≡ before ++ codes "s SATISFIABLE\n" → with_key ≡ with_state ++ codes "v "
    → with_key ++ line (literal_words lits) ≡ before ++ flat_map line (answer_lines (Model lits))
model_behind before with_state with_key lits first second =
    ap (λ (s : List ℕ). s ++ line (literal_words lits)) (second ∙ ap (λ (s : List ℕ). s ++ codes "v ") first)
    ∙ append_assoc (before ++ codes "s SATISFIABLE\n") (codes "v ") (line (literal_words lits))
    ∙ ap (λ (s : List ℕ). (before ++ codes "s SATISFIABLE\n") ++ s) (sym (value_words (map signed_decimal lits)) ∙ sym (append-nil (line (value_line lits))))
    ∙ append_assoc before (codes "s SATISFIABLE\n") (flat_map line (value_line lits ∷ []))
