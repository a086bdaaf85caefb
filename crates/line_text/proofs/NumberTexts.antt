-- Numbers and their shortest spellings.
use Rattle.std.proofs.Common.{◌≡◌, ℕ, suc, ◌<◌, ◌^◌, ◌∙◌, Bool, true, false, cond, refl, ap, arith, ℤ, pos, negsuc, Option, Some, None}
use Rattle.std.specs.Prelude.{option_and_then, unsigned_abs}
use Rattle.std.specs.Fmt.{decimal, signed_decimal}
use Rattle.std.specs.Str.{bytes_eq}
use Rattle.std.proofs.lemmas.Fmt.{decimal_by_steps_wide}
use Rattle.std.proofs.lemmas.Slice.Eq.{bytes_eq-Decides}
use Rattle.lk_model.proofs.Spellings.{IsSpelling, one_digit, more_digits, natural_by, number_by}
use Rattle.lk_model.specs.Texts.Lines.{Word}
use Rattle.lk_model.specs.Texts.NumberWords.{number, negated, plain_number}

pub spelling : (n : ℕ) → n < 10 ^ 64 → IsSpelling n (decimal n)
spelling n h = decimal_by_steps_wide IsSpelling one_digit more_digits n h

number_spelled : (x : ℤ) → unsigned_abs x < 10 ^ 64 → number (signed_decimal x) ≡ Some x
number_spelled (pos n) h = number_by n (decimal n) (spelling n (omega (arith, h)))
number_spelled (negsuc k) h = ap negated (natural_by (suc k) (decimal (suc k)) (spelling (suc k) (omega (arith, h))))

-- the shortest spelling of a number, read
pub plain_spelled : (x : ℤ) → unsigned_abs x < 10 ^ 64 → plain_number (signed_decimal x) ≡ Some x
plain_spelled x h =
    ap (option_and_then (λ (y : ℤ). cond (bytes_eq (signed_decimal x) (signed_decimal y)) (Some y) None)) (number_spelled x h)
    ∙ ap (λ (b : Bool). cond b (Some x) None) ((bytes_eq-Decides (signed_decimal x) (signed_decimal x)).1 refl)

-- and what is read is spelled so
pub spelled : (word : Word) (x : ℤ) → plain_number word ≡ Some x → word ≡ signed_decimal x
spelled word x e = by_number (number word) e
  where
    by_test : (y : ℤ) (b : Bool) → bytes_eq word (signed_decimal y) ≡ b → cond b (Some y) None ≡ Some x → word ≡ signed_decimal x
    by_test y true t h = let same : y ≡ x = cc in (bytes_eq-Decides word (signed_decimal y)).0 t ∙ ap signed_decimal same
    by_test y false t h = absurd (let f : ⊥ = cc in f)

    by_number : (o : Option ℤ) → option_and_then (λ (y : ℤ). cond (bytes_eq word (signed_decimal y)) (Some y) None) o ≡ Some x → word ≡ signed_decimal x
    by_number None h = absurd (let f : ⊥ = cc in f)
    by_number (Some y) h = by_test y (bytes_eq word (signed_decimal y)) refl h
