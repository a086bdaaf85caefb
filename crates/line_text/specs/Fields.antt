-- The words of a line between its spaces, and what a few of them say.
use Rattle.std.specs.Prelude.{ℕ, List, [], ◌∷◌, ℤ, pos, negsuc, if◌then◌else◌, Bool, not, ◌&&◌, ◌==◌}
use Rattle.std.specs.List.{list_all, slice_split}
use Rattle.std.specs.Str.{bytes_eq}
use Rattle.std.specs.Option.{option_zip}
use Rattle.std.specs.declared.option.Option.{Option}
use Rattle.std.specs.declared.option.Option.TheVariants.{Some, None}
use Rattle.std.specs.Borrow.{Bor}
use Rattle.lk_model.specs.Lists.{is_between}
use Rattle.lk_model.specs.Formulas.Literal.{is_literal}
use Rattle.lk_model.specs.Texts.Lines.{Word}
use Rattle.lk_model.specs.Texts.NumberWords.{plain_number}

-- the words of a line between its spaces; where two spaces meet there is a word without a byte
abbrev pub fields : List ℕ → List Word
fields bytes = slice_split (λ b. b == 32) bytes

abbrev pub has_no_space : List ℕ → Bool
has_no_space bytes = list_all (λ b. not (b == 32)) bytes

-- the words after a space, where there was one
abbrev pub rest_fields : Option (Bor (List ℕ)) → List Word
rest_fields None = []
rest_fields (Some rest) = fields rest.now

-- the words after these two, where at least one is
abbrev pub after : Word → Word → List Word → Option (List Word)
after first second (a ∷ b ∷ word ∷ words) = if bytes_eq a first && bytes_eq b second then Some (word ∷ words) else None
after first second _ = None

-- the number, if it is one from the first to the second
abbrev pub number_within : ℕ → ℕ → Option ℤ → Option ℕ
number_within low high None = None
number_within low high (Some (pos n)) = if is_between low high n then Some n else None
number_within low high (Some (negsuc k)) = None

-- the number, if it is a literal over the variables from 1 to n
abbrev pub literal_within : ℕ → Option ℤ → Option ℤ
literal_within n None = None
literal_within n (Some x) = if is_literal n x then Some x else None

-- a word for a number up to this one
abbrev pub one_within : ℕ → List Word → Option ℕ
one_within high (x ∷ []) = number_within 0 high (plain_number x)
one_within high _ = None

-- two words for numbers up to these
abbrev pub two_within : ℕ → ℕ → List Word → Option (ℕ × ℕ)
two_within first second (x ∷ y ∷ []) = option_zip (number_within 0 first (plain_number x)) (number_within 0 second (plain_number y))
two_within first second _ = None
