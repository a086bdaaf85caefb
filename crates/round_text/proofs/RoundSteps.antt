-- The words of steps, read and spelled.
use Rattle.std.proofs.Common.{◌≡◌, ℕ, ◌<◌, ◌∙◌, Bool, true, false, cond, ◌&&◌, List, [], ◌∷◌, ◌++◌, map, refl, sym, ap, arith, ℤ, Option, Some, None}
use Rattle.std.specs.Prelude.{option_and_then, codes}
use Rattle.std.specs.List.{join_with_byte}
use Rattle.std.specs.Str.{bytes_eq}
use Rattle.std.proofs.lemmas.Bool.{lt-ltb}
use Rattle.std.proofs.lemmas.List.Splits.{join_with_byte-slice_split}
use Rattle.std.proofs.lemmas.Slice.Eq.{bytes_eq-Decides}
use Rattle.lk_model.specs.Formulas.Literal.{rank_of}
use Rattle.lk_model.specs.Texts.Lines.{Word}
use Rattle.lk_model.specs.Texts.NumberWords.{plain_number}
use Rattle.line_text.specs.Fields.{fields, literal_within}
use Rattle.line_text.specs.LastVars.{last_or}
use Rattle.round_text.specs.RoundLines.{ranked_then, if_above, is_round}
use Rattle.line_text.proofs.ListSteps.{has_word}

-- ONE LITERAL MORE

ranked_more : (n : ℕ) (ls : List ℤ) (word : Word) (behind : List ℕ)
    → ranked_then n ls (word ∷ fields behind)
    ≡ cond (bytes_eq word (codes "0")) (Some (ls, fields behind)) (option_and_then (λ l. ranked_then n (ls ++ l ∷ []) (fields behind)) (if_above ls (literal_within n (plain_number word))))
ranked_more n ls word behind =
    let h = has_word behind in
    ap (λ (ws : List Word). ranked_then n ls (word ∷ ws)) h.2
    ∙ sym (ap (λ (ws : List Word). cond (bytes_eq word (codes "0")) (Some (ls, ws)) (option_and_then (λ l. ranked_then n (ls ++ l ∷ []) ws) (if_above ls (literal_within n (plain_number word))))) h.2)

pub ranked_end : (n : ℕ) (whole : Option (List ℤ × List Word)) (ls : List ℤ) (words : List Word) (word : Word) (behind : List ℕ)
    → whole ≡ ranked_then n ls words → words ≡ word ∷ fields behind → bytes_eq word (codes "0") ≡ true → Some (ls, fields behind) ≡ whole
ranked_end n whole ls words word behind told e closes =
    sym (told ∙ ap (ranked_then n ls) e ∙ ranked_more n ls word behind
    ∙ ap (λ (b : Bool). cond b (Some (ls, fields behind)) (option_and_then (λ l. ranked_then n (ls ++ l ∷ []) (fields behind)) (if_above ls (literal_within n (plain_number word))))) closes)

pub ranked_step : (n : ℕ) (whole : Option (List ℤ × List Word)) (ls : List ℤ) (l : ℤ) (last : ℕ) (words : List Word) (word : Word) (behind : List ℕ)
    → whole ≡ ranked_then n ls words → words ≡ word ∷ fields behind → bytes_eq word (codes "0") ≡ false → Some l ≡ literal_within n (plain_number word)
    → last ≡ last_or 1 (map rank_of ls) → last < rank_of l → whole ≡ ranked_then n (ls ++ l ∷ []) (fields behind)
ranked_step n whole ls l last words word behind told e closes is at above =
    let ahead = λ (o : Option ℤ). option_and_then (λ (k : ℤ). ranked_then n (ls ++ k ∷ []) (fields behind)) o in
    told ∙ ap (ranked_then n ls) e ∙ ranked_more n ls word behind
    ∙ ap (λ (b : Bool). cond b (Some (ls, fields behind)) (ahead (if_above ls (literal_within n (plain_number word))))) closes
    ∙ ap (λ (o : Option ℤ). ahead (if_above ls o)) (sym is)
    ∙ ap (λ (b : Bool). ahead (cond b (Some l) None)) (lt-ltb (last_or 1 (map rank_of ls)) (rank_of l) (omega (arith, at, above)))

-- THE LINE OF A ROUND

-- such words are those of that line
pub round_form : (words : List Word) → is_round words ≡ true → words ≡ codes "c" ∷ codes "round" ∷ []
round_form [] e = absurd (let f : ⊥ = cc in f)
round_form (a ∷ []) e = absurd (let f : ⊥ = cc in f)
round_form (a ∷ b ∷ c ∷ words) e = absurd (let f : ⊥ = cc in f)
round_form (a ∷ b ∷ []) e = by_tests (bytes_eq a (codes "c")) (bytes_eq b (codes "round")) refl refl e
  where
    by_tests : (t u : Bool) → bytes_eq a (codes "c") ≡ t → bytes_eq b (codes "round") ≡ u → (t && u) ≡ true → a ∷ b ∷ [] ≡ codes "c" ∷ codes "round" ∷ []
    by_tests false u h g f = absurd (let n : ⊥ = cc in n)
    by_tests true false h g f = absurd (let n : ⊥ = cc in n)
    by_tests true true h g f =
        let one = (bytes_eq-Decides a (codes "c")).0 h in
        let other = (bytes_eq-Decides b (codes "round")).0 g in
        cc

pub no_round : (line : List ℕ) → (line ≡ codes "c round" → ⊥) → is_round (fields line) ≡ false
no_round line other = by_test (is_round (fields line)) refl
  where
    by_test : (b : Bool) → is_round (fields line) ≡ b → b ≡ false
    by_test false e = refl
    by_test true e = absurd (other (sym (join_with_byte-slice_split 32 line) ∙ ap (join_with_byte 32) (round_form (fields line) e)))
