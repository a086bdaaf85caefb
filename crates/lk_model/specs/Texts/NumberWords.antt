-- Number words.
use Rattle.std.specs.Prelude.{ℕ, zero, suc, ◌+◌, ◌*◌, ◌-◌, if◌then◌else◌, List, [], ◌∷◌, ℤ, pos, negsuc, Option, Some, None, ◌==◌, fold, option_and_then}
use Rattle.std.specs.List.{list_all}
use Rattle.std.specs.Fmt.{signed_decimal}
use Rattle.std.specs.Str.{bytes_eq}
use Rattle.std.specs.Char.{is_ascii_digit}
use Rattle.lk_model.specs.Texts.Lines.{Word}

-- the value of decimal digits; leading zeros are allowed
abbrev pub digits_value : List ℕ → ℕ
digits_value digits = fold (λ n d. 10 * n + (d - 48)) 0 digits

-- the number that one or more digits write
abbrev pub natural : Word → Option ℕ
natural [] = None
natural (d ∷ ds) = if list_all is_ascii_digit (d ∷ ds) then Some (digits_value (d ∷ ds)) else None

-- the number with a minus sign before it, which does not stand before 0
abbrev pub negated : Option ℕ → Option ℤ
negated None = None
negated (Some zero) = None
negated (Some (suc k)) = Some (negsuc k)

abbrev pub not_negated : Option ℕ → Option ℤ
not_negated None = None
not_negated (Some n) = Some (pos n)

-- what a number word writes: digits, or `-` and digits
abbrev pub number : Word → Option ℤ
number [] = None
number (b ∷ bs) = if b == 45 then negated (natural bs) else not_negated (natural (b ∷ bs))

-- the number whose shortest spelling the word is
abbrev pub plain_number : Word → Option ℤ
plain_number word = option_and_then (λ x. if bytes_eq word (signed_decimal x) then Some x else None) (number word)
