-- Words of numbers, as far as they were read.
use Rattle.std.specs.Prelude.{◌≡◌, ℕ, ◌-◌, ◌<◌, ◌^◌, min, Bool, List, [], ◌∷◌, ◌++◌, length, if◌then◌else◌, None, IsTrue}
use Rattle.std.specs.List.{list_all}
use Rattle.std.specs.Char.{is_ascii_digit}
use Rattle.lk_model.specs.Texts.NumberWords.{digits_value, number}
use Rattle.dimacs_reader.specs.declared.word.WordSoFar.{WordSoFar}
use Rattle.dimacs_reader.specs.declared.word.WordSoFar.TheVariants.{Minus, Digits, Other}

-- one or more digits, and their value, or 2^32 - 1 where that is more
pub record AreDigits (digits : List ℕ) (value : ℕ) : Type 0 where
  pub some : 0 < length digits
  pub all : IsTrue (list_all is_ascii_digit digits)
  pub value_is : value ≡ min (digits_value digits) (2 ^ 32 - 1)

-- digits, after a minus sign where the number is negative
pub record AreSigned (bytes : List ℕ) (is_negative : Bool) (value : ℕ) : Type 0 where
  pub digits : List ℕ
  pub are : AreDigits digits value
  pub signed : bytes ≡ (if is_negative then 45 ∷ digits else digits)

-- the bytes of a word so far
abbrev pub IsWordSoFar : List ℕ → WordSoFar → Type 0
IsWordSoFar bytes Minus = bytes ≡ 45 ∷ []
IsWordSoFar bytes (Digits is_negative value) = AreSigned bytes is_negative value
IsWordSoFar bytes Other = (more : List ℕ) → number (bytes ++ more) ≡ None
