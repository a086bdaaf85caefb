-- Lines as they are printed.
use Rattle.std.proofs.Common.{◌≡◌, ℕ, List, [], ◌∷◌, ◌++◌, ap, refl, ◌∙◌, append_assoc, map}
use Rattle.std.specs.List.{join_with_byte, flat_map}
use Rattle.std.specs.Prelude.{codes}
use Rattle.lk_model.specs.Texts.Lines.{Word}
use Rattle.lk_model.specs.Texts.PlainText.{line, ended}
use Rattle.lk_model.specs.Documents.Text.{comment}
use Rattle.line_text.specs.Spaced.{spaced}

-- words with a space after each, and then the last word
joined_last : (words : List Word) (last : Word) → join_with_byte 32 (words ++ last ∷ []) ≡ spaced words ++ last
joined_last [] last = refl
joined_last (word ∷ []) last = simp append_assoc
joined_last (word ∷ next ∷ words) last = ap (λ (s : List ℕ). word ++ (32 ∷ s)) (joined_last (next ∷ words) last) ∙ simp append_assoc

-- a line that is closed by 0
pub ended_line : (words : List Word) → line (ended words) ≡ spaced words ++ codes "0\n"
ended_line words = ap (λ (s : List ℕ). s ++ 10 ∷ []) (joined_last words (codes "0")) ∙ simp append_assoc

-- such a line after a keyword
pub ended_comment : (keyword : Word) (words : List Word) → line (comment keyword (ended words)) ≡ spaced (codes "c" ∷ keyword ∷ []) ++ line (ended words)
ended_comment keyword [] = simp append_assoc
ended_comment keyword (word ∷ words) = simp append_assoc

-- the keyword, the words after it and the closing 0, written one after the other
pub ended_behind : (before with_keyword with_words : List ℕ) (keyword : Word) (words : List Word) → with_keyword ≡ before ++ spaced (codes "c" ∷ keyword ∷ []) → with_words ≡ with_keyword ++ spaced words → with_words ++ codes "0\n" ≡ before ++ line (comment keyword (ended words))
ended_behind before with_keyword with_words keyword words first second =
    rw (second, append_assoc with_keyword (spaced words) (codes "0\n"), ← ended_line words, first, append_assoc before _ _, ← ended_comment keyword words) refl

-- one more line after those that are written
pub next_line : {X : Type 0} (line_of : X → List Word) (x : X) (xs rest : List X) (written next whole : List ℕ) → rest ≡ x ∷ xs → written ++ flat_map line (map line_of rest) ≡ whole → next ≡ written ++ line (line_of x) → next ++ flat_map line (map line_of xs) ≡ whole
next_line line_of x xs rest written next whole first before more = rw (more, append_assoc) (rw first at before)
