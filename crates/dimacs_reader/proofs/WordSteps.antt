-- Words of numbers, one byte after the other.
use Rattle.std.proofs.Common.{◌≡◌, ◌<◌, arith, ℕ, ◌∙◌, Bool, true, false, cond, List, [], ◌∷◌, ◌++◌, length, Option, None, refl, sym, ap, append_assoc, ◌==◌}
use Rattle.std.specs.Char.{is_ascii_digit}
use Rattle.std.proofs.lemmas.List.{append-nil}
use Rattle.lk_model.specs.Texts.NumberWords.{natural, number, negated, not_negated}
use Rattle.dimacs_reader.specs.Words.{IsWordSoFar}
use Rattle.dimacs_reader.specs.declared.word.WordSoFar.{WordSoFar}
use Rattle.dimacs_reader.specs.declared.word.WordSoFar.TheVariants.{Minus, Digits, Other}
use Rattle.dimacs_reader.proofs.Digits.{natural_wrong}

-- no number, whatever sign there may be
unsigned : (t : Bool) (a b : Option ℕ) → a ≡ None → b ≡ None → cond t (negated a) (not_negated b) ≡ None
unsigned true a b e f = ap negated e
unsigned false a b e f = ap not_negated f

-- digits, a byte that is none, and more
signed_wrong : (is_negative : Bool) (digits : List ℕ) (b : ℕ) (more : List ℕ) → is_ascii_digit b ≡ false → 0 < length digits → number (cond is_negative (45 ∷ digits) digits ++ b ∷ more) ≡ None
signed_wrong true digits b more e some = ap negated (natural_wrong digits b more e)
signed_wrong false [] b more e some = absurd (omega (arith, some))
signed_wrong false (d ∷ digits) b more e some = unsigned (d == 45) (natural (digits ++ b ∷ more)) (natural (d ∷ digits ++ b ∷ more)) (natural_wrong digits b more e) (natural_wrong (d ∷ digits) b more e)

pub no_digit : (word : WordSoFar) (b : ℕ) → is_ascii_digit b ≡ false → (bytes : List ℕ) → IsWordSoFar bytes word → (more : List ℕ) → number ((bytes ++ b ∷ []) ++ more) ≡ None
no_digit Minus b e bytes so more = ap (λ (bs : List ℕ). number ((bs ++ b ∷ []) ++ more)) so ∙ ap negated (natural_wrong [] b more e)
no_digit (Digits is_negative value) b e bytes so more =
    ap number (append_assoc bytes (b ∷ []) more) ∙ ap (λ (bs : List ℕ). number (bs ++ b ∷ more)) so.signed ∙ (let a = so.are in signed_wrong is_negative so.digits b more e a.some)
no_digit Other b e bytes so more = ap number (append_assoc bytes (b ∷ []) more) ∙ so (b ∷ more)

pub no_number : (word : WordSoFar) → ((n : Bool) (v : ℕ) → word ≡ Digits n v → ⊥) → (bytes : List ℕ) → IsWordSoFar bytes word → number bytes ≡ None
no_number Minus h bytes so = ap number so
no_number (Digits n v) h bytes so = absurd (h n v refl)
no_number Other h bytes so = ap number (sym (append-nil bytes)) ∙ so []
