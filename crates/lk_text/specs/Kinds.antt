-- Which numbers words write.
use Rattle.std.specs.Prelude.{if◌then◌else◌, ℕ, ℤ, Bool, ◌&&◌, ◌==◌, nat_lt, List, length, slice_index, Option, Some, None}
use Rattle.lk_model.specs.Limits.{is_in_range}
use Rattle.lk_text.specs.declared.numbers.NumberWord.{NumberWord}
use Rattle.lk_text.specs.declared.numbers.NumberWord.TheVariants.{Not, Past, Is}

-- the kind of a word by the number that it writes: none, one outside ±(2^127 - 1), or one within
abbrev pub kind_of : Option ℤ → NumberWord
kind_of None = Not
kind_of (Some x) = if is_in_range x then Is x else Past

-- the number, if it lies within ±(2^127 - 1)
abbrev pub if_in_range : Option ℤ → Option ℤ
if_in_range None = None
if_in_range (Some x) = if is_in_range x then Some x else None

-- a zero stands before another digit
abbrev pub begins_with_zero : List ℕ → Bool
begins_with_zero digits = nat_lt 1 (length digits) && slice_index digits 0 == 48
