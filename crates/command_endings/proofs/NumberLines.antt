-- Lines of numbers, as they are printed.
use Rattle.std.proofs.Common.{◌≡◌, ℕ, List, [], ◌∷◌, ◌++◌, append_assoc, ap, sym, ◌∙◌}
use Rattle.std.specs.Prelude.{codes}
use Rattle.lk_model.specs.Texts.Lines.{Word}
use Rattle.lk_model.specs.Texts.PlainText.{line, ended}
use Rattle.line_text.specs.Spaced.{spaced}
use Rattle.line_text.proofs.PrintedLines.{ended_line}

-- the first word, the words after it and the closing 0, written one after the other
pub closed_behind : (before with_first with_words first : List ℕ) (words : List Word) → with_first ≡ before ++ (first ++ 32 ∷ []) → with_words ≡ with_first ++ spaced words → with_words ++ codes "0\n" ≡ before ++ line (first ∷ ended words)
closed_behind before with_first with_words first words p q =
    rw (q, append_assoc with_first (spaced words) (codes "0\n"), p, append_assoc before (first ++ 32 ∷ []) (spaced words ++ codes "0\n"))
    (ap (λ (s : List ℕ). before ++ s) (sym (ended_line (first ∷ words) ∙ append_assoc (first ++ 32 ∷ []) (spaced words) (codes "0\n"))))
