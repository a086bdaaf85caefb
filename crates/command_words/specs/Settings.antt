-- The options of the command line, and the number of a command.
use Rattle.std.specs.Prelude.{ℕ, ◌-◌, ◌^◌, Bool, true, false, if◌then◌else◌, not, ◌&&◌, ◌==◌, List, [], ◌∷◌, Option, Some, None, codes, nat_le, option_map, unwrap_or, option_and_then}
use Rattle.std.specs.List.{list_any, list_all, filter_map, slice_split}
use Rattle.std.specs.Option.{option_map_or}
use Rattle.std.specs.Str.{bytes_eq}
use Rattle.lk_model.specs.Limits.{max_vars}
use Rattle.lk_model.specs.Texts.Lines.{Word}
use Rattle.lk_model.specs.Texts.NumberWords.{natural}
use Rattle.command_words.specs.declared.range.Range.{Range}

-- An option's word, whether its value is a list of numbers or one, and the numbers that it takes.
pub record Key : Type 0 where
  pub word : Word
  pub is_list : Bool
  pub numbers : Range

-- THE OPTIONS

abbrev pub numbers_from : ℕ → ℕ → Range
numbers_from least greatest = record { least = least; greatest = greatest }

abbrev pub conflicts : Key
conflicts = record { word = codes "--conflicts"; is_list = false; numbers = numbers_from 1 (2 ^ 63 - 1) }

abbrev pub pivots : Key
pivots = record { word = codes "--pivots"; is_list = false; numbers = numbers_from 0 (2 ^ 63 - 1) }

abbrev pub workers : Key
workers = record { word = codes "--workers"; is_list = false; numbers = numbers_from 1 64 }

abbrev pub protect : Key
protect = record { word = codes "--protect"; is_list = true; numbers = numbers_from 1 max_vars }

-- each of them, in any order
abbrev pub every_option : List Key
every_option = conflicts ∷ pivots ∷ workers ∷ protect ∷ []

-- what the words give beside the names of inputs: the number of the command, 0 where it takes none, and what the options
-- give; of the protected variables the numbers as they are listed
pub record Options : Type 0 where
  pub number : ℕ
  pub conflicts : ℕ
  pub pivots : ℕ
  pub workers : ℕ
  pub protect : Option (List ℕ)

-- WHICH WORDS ARE OPTIONS

-- an option's word, and the word after it
abbrev pub Setting : Type 0
Setting = Word × Word

-- the words are pairs of such words
abbrev pub settings_of : List Word → Option (List Setting)
settings_of [] = Some []
settings_of (word ∷ []) = None
settings_of (word ∷ value ∷ words) = option_map (λ (ss : List Setting). (word, value) ∷ ss) (settings_of words)

abbrev pub is_in_range : Range → ℕ → Bool
is_in_range range n = nat_le range.least n && nat_le n range.greatest

-- the word is one of the numbers that the option takes
abbrev pub is_number_of : Key → Word → Bool
is_number_of key word = option_map_or (is_in_range key.numbers) (natural word) false

-- what stands between the commas
abbrev pub parts_of : Word → List Word
parts_of value = slice_split (λ b. b == 44) value

-- the word is a value of the option: such a number, or a list of them with a comma between two
abbrev pub is_value_of : Key → Word → Bool
is_value_of key value = if key.is_list then list_all (is_number_of key) (parts_of value) else is_number_of key value

abbrev pub sets : Key → Setting → Bool
sets key s = bytes_eq key.word s.0

-- the setting is of one of the keys
abbrev pub is_allowed : List Key → Setting → Bool
is_allowed keys s = list_any (λ (key : Key). sets key s && is_value_of key s.1) keys

-- no option stands twice
abbrev pub is_once : List Setting → Bool
is_once [] = true
is_once (s ∷ ss) = not (list_any (λ (t : Setting). bytes_eq s.0 t.0) ss) && is_once ss

-- options in any order, each of these keys at most once
abbrev pub are_options : List Key → List Word → Bool
are_options keys words = option_map_or (λ ss. list_all (is_allowed keys) ss && is_once ss) (settings_of words) false

-- the number, if it is there and within the range
abbrev pub number_within : Range → Option ℕ → Option ℕ
number_within range None = None
number_within range (Some n) = if nat_le range.least n && nat_le n range.greatest then Some n else None

-- WHAT THEY GIVE

-- the word after an option's word
abbrev pub value_behind : Word → List Word → Option Word
value_behind option [] = None
value_behind option (word ∷ []) = None
value_behind option (word ∷ value ∷ words) = if bytes_eq word option then Some value else value_behind option words

-- the number after it, or the usual one where the option is not given
abbrev pub option_number : Key → ℕ → List Word → ℕ
option_number key usual words = unwrap_or (option_and_then natural (value_behind key.word words)) usual

-- the numbers of a list
abbrev pub listed : Word → List ℕ
listed value = filter_map natural (parts_of value)

-- of options alone; the number stands before them
abbrev pub options_by : List Word → Options
options_by words = record {
  number = 0;
  conflicts = option_number conflicts 100000 words;
  pivots = option_number pivots 100000 words;
  workers = option_number workers 1 words;
  protect = option_map listed (value_behind protect.word words);
}

abbrev pub options_of : List Key → List Word → Option Options
options_of keys words = if are_options keys words then Some (options_by words) else None
