-- Steps as they are printed.
use Rattle.std.proofs.Common.{◌≡◌, ℕ, List, [], ◌∷◌, ◌++◌, ap, ◌∙◌, append_assoc}
use Rattle.std.specs.Prelude.{codes}
use Rattle.std.specs.Fmt.{decimal}
use Rattle.lk_model.specs.Texts.Lines.{Word}
use Rattle.lk_model.specs.Texts.PlainText.{line, ended, literal_words}
use Rattle.lk_model.specs.Documents.Text.{comment, step_line}
use Rattle.lk_model.specs.declared.document.Step.{Step}
use Rattle.line_text.specs.Spaced.{spaced}
use Rattle.round_text.specs.StepWords.{step_words, turn_words}
use Rattle.line_text.proofs.PrintedLines.{ended_behind}

-- the words of a step, of which the last list is closed by 0
step_ended : (s : Step) → comment (codes "step") (ended (step_words s)) ≡ step_line s
step_ended s =
    ap (λ (ws : List Word). comment (codes "step") (decimal s.number ∷ ws)) (append_assoc (literal_words s.clause) (decimal s.first ∷ turn_words s.turns) (codes "0" ∷ []))

-- the keyword of a step, the words after it and the closing 0, written one after the other
pub step_behind : (before with_keyword with_words : List ℕ) (s : Step) → with_keyword ≡ before ++ spaced (codes "c" ∷ codes "step" ∷ []) → with_words ≡ with_keyword ++ spaced (step_words s) → with_words ++ codes "0\n" ≡ before ++ line (step_line s)
step_behind before with_keyword with_words s first second =
    ended_behind before with_keyword with_words (codes "step") (step_words s) first second ∙ ap (λ (ws : List Word). before ++ line ws) (step_ended s)
