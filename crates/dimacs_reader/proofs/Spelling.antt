-- Texts and what they spell, by the bytes of their lines.
use Rattle.std.proofs.Common.{◌≡◌, ℕ, suc, ◌+◌, ◌≤◌, ◌∙◌, Bool, true, false, not, cond, ◌||◌, ◌==◌, List, [], ◌∷◌, ◌++◌, length, take, map, refl, sym, ap, arith, inl, inr, Some}
use Rattle.std.specs.Prelude.{filter, flat_map, take_while}
use Rattle.std.specs.List.{slice_split, prefix_len}
use Rattle.std.proofs.lemmas.Bool.{cases_Bool}
use Rattle.std.proofs.lemmas.List.{map-append}
use Rattle.lk_model.specs.Lists.{is_empty}
use Rattle.lk_model.specs.Limits.{max_vars, max_bytes}
use Rattle.lk_model.specs.Formulas.Formula.{Cnf}
use Rattle.lk_model.specs.Texts.Lines.{Piece, Word, is_newline, lines_of, words_of, texts}
use Rattle.lk_model.specs.Texts.NumberWords.{number}
use Rattle.lk_model.specs.Texts.Dimacs.{Spells, first_byte, is_blank_line, is_comment, is_end_mark, content_lines, stated_by}
use Rattle.dimacs_reader.specs.Contents.{words_in, first_of, is_end, is_content, content_of, IsWritten}
use Rattle.dimacs_reader.proofs.OutcomeLaws.{content_line, with_line}
use Rattle.lk_model.proofs.Pieces.{texts_placed, words_by}

-- PIECES BY THEIR BYTES

first_by : (words : List Piece) → first_byte words ≡ first_of (texts words)
first_by [] = refl
first_by (word ∷ words) = refl

empty_by : (words : List Piece) → is_empty words ≡ is_empty (texts words)
empty_by [] = refl
empty_by (word ∷ words) = refl

starts_by : (line : Piece) → first_byte (words_of line) ≡ first_of (words_in line.bytes)
starts_by line = first_by (words_of line) ∙ ap first_of (words_by line)

end_by : (line : Piece) → is_end_mark line ≡ is_end line.bytes
end_by line = ap (λ (b : ℕ). b == 37) (starts_by line)

counts_by : (line : Piece) → not (is_blank_line line || is_comment line) ≡ is_content line.bytes
counts_by line =
    ap (λ (b : Bool). not (b || is_comment line)) (empty_by (words_of line) ∙ ap (λ (ws : List Word). is_empty ws) (words_by line))
    ∙ ap (λ (b : ℕ). not (is_empty (words_in line.bytes) || b == 99)) (starts_by line)

abbrev pieces_of : List Piece → List Piece
pieces_of lines = filter (λ line. not (is_blank_line line || is_comment line)) (take_while (λ line. not (is_end_mark line)) lines)

pieces_line : (line : Piece) (lines : List Piece) → pieces_of (line ∷ lines) ≡ cond (is_end_mark line) [] (cond (not (is_blank_line line || is_comment line)) (line ∷ pieces_of lines) (pieces_of lines))
pieces_line line lines =
    let k = prefix_len (λ x. not (is_end_mark x)) lines in
    let more : 1 + k ≡ suc k = omega arith in
    elim (cases_Bool (is_end_mark line)) [
      | inl e ↦
          ap (λ (b : Bool). filter (λ x. not (is_blank_line x || is_comment x)) (take (cond (not b) (1 + k) 0) (line ∷ lines))) e
          ∙ sym (ap (λ (b : Bool). cond b [] (cond (not (is_blank_line line || is_comment line)) (line ∷ pieces_of lines) (pieces_of lines))) e)
      | inr e ↦
          ap (λ (b : Bool). filter (λ x. not (is_blank_line x || is_comment x)) (take (cond (not b) (1 + k) 0) (line ∷ lines))) e
          ∙ ap (λ (n : ℕ). filter (λ x. not (is_blank_line x || is_comment x)) (take n (line ∷ lines))) more
          ∙ sym (ap (λ (b : Bool). cond b [] (cond (not (is_blank_line line || is_comment line)) (line ∷ pieces_of lines) (pieces_of lines))) e)
    ]

texts_cond : (end kept : Bool) (line : Piece) (rest : List Piece) → texts (cond end [] (cond kept (line ∷ rest) rest)) ≡ cond end [] (cond kept (line.bytes ∷ texts rest) (texts rest))
texts_cond true kept line rest = refl
texts_cond false true line rest = refl
texts_cond false false line rest = refl

content_by_bytes : (lines : List Piece) → texts (pieces_of lines) ≡ content_of (texts lines)
content_by_bytes [] = refl
content_by_bytes (line ∷ lines) =
    ap texts (pieces_line line lines)
    ∙ texts_cond (is_end_mark line) (not (is_blank_line line || is_comment line)) line (pieces_of lines)
    ∙ ap (λ (b : Bool). cond b [] (cond (not (is_blank_line line || is_comment line)) (line.bytes ∷ texts (pieces_of lines)) (texts (pieces_of lines)))) (end_by line)
    ∙ ap (λ (b : Bool). cond (is_end line.bytes) [] (cond b (line.bytes ∷ texts (pieces_of lines)) (texts (pieces_of lines)))) (counts_by line)
    ∙ ap (with_line line.bytes) (content_by_bytes lines)
    ∙ sym (content_line line.bytes (texts lines))

-- the lines of a text that count
lines_by : (text : List ℕ) → texts (content_lines text) ≡ content_of (slice_split is_newline text)
lines_by text = content_by_bytes (lines_of text) ∙ ap content_of (texts_placed 0 (slice_split is_newline text))

all_words : (lines : List Piece) → texts (flat_map words_of lines) ≡ flat_map words_in (texts lines)
all_words [] = refl
all_words (line ∷ lines) = map-append (λ (p : Piece). p.bytes) (words_of line) (flat_map words_of lines) ∙ ap (λ (ws : List Word). ws ++ texts (flat_map words_of lines)) (words_by line) ∙ ap (λ (ws : List Word). words_in line.bytes ++ ws) (all_words lines)

-- WHAT A TEXT SPELLS

-- a problem line and what is written after it
pub record Spelled (bytes : List ℕ) (rest : List (List ℕ)) (F : Cnf) : Type 0 where
  pub stated : stated_by (words_in bytes) ≡ Some (F.vars, length F.clauses)
  pub written : IsWritten F.vars (flat_map words_in rest) F
  pub small : F.vars ≤ max_vars

-- the pieces after bytes
behind : (pieces : List Piece) (bytes : List ℕ) (rest : List (List ℕ)) → texts pieces ≡ bytes ∷ rest → (problem : Piece) × (others : List Piece) × (pieces ≡ problem ∷ others) × (problem.bytes ≡ bytes) × (texts others ≡ rest)
behind [] bytes rest e = absurd (let f : ⊥ = cc in f)
behind (problem ∷ others) bytes rest e = (problem, others, refl, (let h : problem.bytes ≡ bytes = cc in h), (let t : texts others ≡ rest = cc in t))

pub spells : (text bytes : List ℕ) (rest : List (List ℕ)) (F : Cnf) → content_of (slice_split is_newline text) ≡ bytes ∷ rest → Spelled bytes rest F → length text ≤ max_bytes → Spells text F
spells text bytes rest F first s short =
    let b = behind (content_lines text) bytes rest (lines_by text ∙ first) in
    record {
      problem = b.0;
      others = b.1;
      numbers = s.written.numbers;
      lines = b.2;
      stated = ap stated_by (words_by b.0) ∙ ap (λ (h : List ℕ). stated_by (words_in h)) b.3 ∙ s.stated;
      read = ap (map number) (all_words b.1 ∙ ap (flat_map words_in) b.4) ∙ s.written.read;
      clauses = s.written.clauses;
      variables = s.written.variables;
      vars_limit = s.small;
      clauses_limit = s.written.few_clauses;
      literals_limit = s.written.few_literals;
      bytes_limit = short;
    }
