-- A text cut after each byte 10.
use Rattle.std.proofs.Common.{◌≡◌, ℕ, suc, ◌<◌, ◌≤◌, ◌+◌, ◌∙◌, Bool, true, false, cond, ◌==◌, List, [], ◌∷◌, ◌++◌, length, drop, refl, sym, ap, arith, inl, inr}
use Rattle.std.specs.Prelude.{slice_range}
use Rattle.std.specs.List.{concat}
use Rattle.std.proofs.lemmas.Bool.{cases_Bool, not-true}
use Rattle.std.proofs.lemmas.List.{append-nil, length-drop}
use Rattle.std.proofs.lemmas.List.Folds.{drop_split}
use Rattle.std.proofs.Math.Nat.{eq-or-lt_of_le}
use Rattle.std.proofs.Math.Seq.{drop-cons, drop-length}
use Rattle.lk_model.specs.Documents.Reading.{cut_lines, onto_first}
use Rattle.lk_model.proofs.Booleans.{and_true}
use Rattle.lk_text.specs.Cutting.{is_one_line, IsNextLine}
use Rattle.lk_text.specs.declared.cuts.Cut.{Cut}

-- one byte that is no byte 10
pub cut_byte : (b : ℕ) (bs : List ℕ) → (b == 10) ≡ false → cut_lines (b ∷ bs) ≡ onto_first b (cut_lines bs)
unfolding cut_lines
cut_byte b bs e = ap (λ (t : Bool). cond t ((b ∷ []) ∷ cut_lines bs) (onto_first b (cut_lines bs))) e

-- the end of a text
pub cut_nothing : cut_lines [] ≡ []
unfolding cut_lines
cut_nothing = refl

-- a line with its byte 10
pub cut_line : (content rest : List ℕ) → is_one_line content ≡ true → cut_lines (content ++ 10 ∷ rest) ≡ (content ++ 10 ∷ []) ∷ cut_lines rest
unfolding cut_lines
cut_line [] rest h = refl
cut_line (b ∷ bs) rest h =
    let p = and_true _ _ h in
    cut_byte b (bs ++ 10 ∷ rest) (not-true (b == 10) p.0) ∙ ap (onto_first b) (cut_line bs rest p.1)

-- a last line without it
pub cut_open : (b : ℕ) (bs : List ℕ) → is_one_line (b ∷ bs) ≡ true → cut_lines (b ∷ bs) ≡ (b ∷ bs) ∷ []
cut_open b [] h = cut_byte b [] (not-true (b == 10) (and_true _ _ h).0) ∙ ap (onto_first b) cut_nothing
cut_open b (c ∷ bs) h =
    let p = and_true _ _ h in
    cut_byte b (c ∷ bs) (not-true (b == 10) p.0) ∙ ap (onto_first b) (cut_open c bs p.1)

-- the lines in a row are the text
pub lines_in_row : (bytes : List ℕ) → concat (cut_lines bytes) ≡ bytes
unfolding cut_lines
lines_in_row [] = refl
lines_in_row (b ∷ bs) = elim (cases_Bool (b == 10)) [
  | inl e ↦
      ap (λ (t : Bool). concat (cond t ((b ∷ []) ∷ cut_lines bs) (onto_first b (cut_lines bs)))) e
      ∙ ap (λ (xs : List ℕ). b ∷ xs) (lines_in_row bs)
  | inr e ↦ ap concat (cut_byte b bs e) ∙ onto (cut_lines bs) ∙ ap (λ (xs : List ℕ). b ∷ xs) (lines_in_row bs)
]
  where
    onto : (lines : List (List ℕ)) → concat (onto_first b lines) ≡ b ∷ concat lines
    onto [] = refl
    onto (line ∷ lines) = refl

-- THE NEXT LINE

-- a place that is not the end
pub before_end : (at n : ℕ) → at ≤ n → (at ≡ n → true ≡ false) → at < n
before_end at n h never = elim (eq-or-lt_of_le h) [ inl e ↦ absurd (let f : true ≡ false = never e in cc) | inr lt ↦ lt ]

-- a line that does not end the text has its byte 10
pub line_next : (bytes : List ℕ) (from : ℕ) (cut : Cut) → IsNextLine bytes from cut → cut.end < length bytes → cut.next ≡ cut.end + 1
line_next bytes from cut h lt = elim h.ends [ inl x ↦ x.2 | inr x ↦ absurd (omega (arith, x.0, lt)) ]

-- what lies from the place on
next_parts : (bytes : List ℕ) (at : ℕ) (cut : Cut) → IsNextLine bytes at cut → drop at bytes ≡ slice_range bytes cut.begin cut.end ++ drop cut.end bytes
next_parts bytes at cut c = ap (λ (n : ℕ). drop n bytes) (sym c.begins) ∙ drop_split bytes cut.begin cut.end c.order

-- the next line, if it has its byte 10
pub cut_next : (bytes : List ℕ) (at : ℕ) (cut : Cut) → IsNextLine bytes at cut → cut.end < length bytes
    → cut_lines (drop at bytes) ≡ (slice_range bytes cut.begin cut.end ++ 10 ∷ []) ∷ cut_lines (drop cut.next bytes)
cut_next bytes at cut c w = elim c.ends [
  | inl e ↦
      let line = slice_range bytes cut.begin cut.end in
      let place : suc cut.end ≡ cut.next = omega (arith, e.2) in
      let tail : drop cut.end bytes ≡ 10 ∷ drop cut.next bytes =
      drop-cons bytes cut.end 0 e.0 ∙ ap (λ (b : ℕ). b ∷ drop (suc cut.end) bytes) e.1 ∙ ap (λ (n : ℕ). 10 ∷ drop n bytes) place in
      ap cut_lines (next_parts bytes at cut c ∙ ap (λ (bs : List ℕ). line ++ bs) tail) ∙ cut_line line (drop cut.next bytes) c.one_line
  | inr e ↦ absurd (omega (arith, e.0, w))
]

-- the last line, if it lacks it
pub cut_last : (bytes : List ℕ) (at : ℕ) (cut : Cut) → at < length bytes → IsNextLine bytes at cut → cut.end ≡ length bytes
    → cut_lines (drop at bytes) ≡ slice_range bytes cut.begin cut.end ∷ []
cut_last bytes at cut i c e = ap cut_lines rest ∙ by_line (slice_range bytes cut.begin cut.end) c.one_line (omega (arith, length-drop at bytes, ap length rest, i))
  where
    rest : drop at bytes ≡ slice_range bytes cut.begin cut.end
    rest =
        next_parts bytes at cut c
        ∙ ap (λ (n : ℕ). slice_range bytes cut.begin cut.end ++ drop n bytes) e
        ∙ ap (λ (bs : List ℕ). slice_range bytes cut.begin cut.end ++ bs) (drop-length bytes)
        ∙ append-nil (slice_range bytes cut.begin cut.end)

    by_line : (line : List ℕ) → is_one_line line ≡ true → 0 < length line → cut_lines line ≡ line ∷ []
    by_line [] h some = absurd (omega (arith, some))
    by_line (b ∷ bs) h some = cut_open b bs h
