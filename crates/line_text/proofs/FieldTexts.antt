-- Words of a line between its spaces.
use Rattle.std.proofs.Common.{◌≡◌, ℕ, suc, ◌+◌, ◌-◌, ◌<◌, ◌∙◌, true, ◌==◌, List, [], ◌∷◌, ◌++◌, length, take, drop, get_or, refl, sym, ap, arith}
use Rattle.std.proofs.lemmas.List.{take-append-drop, take_rest}
use Rattle.std.proofs.Math.Seq.{drop-cons, take-length}
use Rattle.std.proofs.lemmas.List.Splits.{slice_split_at, slice_split_none}
use Rattle.lk_model.proofs.ListTests.{none_pass}
use Rattle.line_text.specs.Fields.{fields}
use Rattle.line_text.specs.Fields.{has_no_space}

-- a line without a space is one word
pub one_field : (line : List ℕ) → has_no_space line ≡ true → fields line ≡ line ∷ []
one_field line h = slice_split_none (λ b. b == 32) line (none_pass (λ b. b == 32) line h)

-- a word, and what stands after its space
pub field_then : (word rest : List ℕ) → has_no_space word ≡ true → fields (word ++ 32 ∷ rest) ≡ word ∷ fields rest
field_then word rest h = slice_split_at (λ b. b == 32) word 32 rest (none_pass (λ b. b == 32) word h) refl

-- the line up to a space, and after it
pub field_at : (line : List ℕ) (end : ℕ) → end < length line → get_or line end 0 ≡ 32 → has_no_space (take (end - 0) line) ≡ true
    → fields line ≡ take end line ∷ fields (drop (end + 1) line)
field_at line end h space none =
    let size : end - 0 ≡ end = omega arith in
    let front : has_no_space (take end line) ≡ true = ap (λ (n : ℕ). has_no_space (take n line)) (sym size) ∙ none in
    let tail : drop end line ≡ 32 ∷ drop (suc end) line = drop-cons line end 0 h ∙ ap (λ (b : ℕ). b ∷ drop (suc end) line) space in
    let next : suc end ≡ end + 1 = omega arith in
    ap fields (sym (take-append-drop end line) ∙ ap (λ (bs : List ℕ). take end line ++ bs) tail)
    ∙ field_then (take end line) (drop (suc end) line) front
    ∙ ap (λ (n : ℕ). take end line ∷ fields (drop n line)) next

pub whole_field : (line : List ℕ) (end : ℕ) → end ≡ length line → has_no_space (take (end - 0) line) ≡ true → fields line ≡ line ∷ []
whole_field line end e none =
    let size : end - 0 ≡ length line = omega (arith, e) in
    one_field line (ap has_no_space (sym (take-length line)) ∙ ap (λ (n : ℕ). has_no_space (take n line)) (sym size) ∙ none)

pub field_before : (line : List ℕ) (end : ℕ) → end < length line → get_or line end 0 ≡ 32 → has_no_space (take (end - 0) line) ≡ true
    → fields line ≡ take end line ∷ fields (take (length line - (end + 1)) (drop (end + 1) line))
field_before line end h space none = field_at line end h space none ∙ ap (λ (bs : List ℕ). take end line ∷ fields bs) (sym (take_rest line (end + 1)))
