-- Which word among the options cannot stand where it does.
use Rattle.std.specs.Prelude.{ℕ, ◌+◌, Bool, false, if◌then◌else◌, not, ◌&&◌, List, [], ◌∷◌, take, drop, Option, Some, None, option_map, is_some}
use Rattle.std.specs.List.{list_any}
use Rattle.std.specs.Str.{bytes_eq}
use Rattle.lk_model.specs.Texts.Lines.{Word}
use Rattle.command_words.specs.Settings.{Key, is_allowed, value_behind}

abbrev pub has : List Word → Word → Bool
has before word = list_any (λ (b : Word). bytes_eq b word) before

-- the word of one of these options
abbrev pub is_word_of : List Key → Word → Bool
is_word_of keys word = list_any (λ (key : Key). bytes_eq key.word word) keys

-- an option's word that does not stand among the earlier ones
abbrev pub is_new : List Key → List Word → Word → Bool
is_new keys before word = is_word_of keys word && not (has before word)

-- the second word may stand after the first, as its value
abbrev pub is_value : List Key → Word → Word → Bool
is_value keys word value = is_allowed keys (word, value)

-- The place, counted from 0, of the first word that cannot stand where it does after these options' words, or of the
-- value that is missing.
abbrev pub refused_place : List Key → List Word → List Word → Option ℕ
refused_place keys before [] = None
refused_place keys before (word ∷ []) = if is_new keys before word then Some 1 else Some 0
refused_place keys before (word ∷ value ∷ words) = if is_new keys before word
    then (if is_value keys word value then option_map (λ i. i + 2) (refused_place keys (word ∷ before) words) else Some 1)
    else Some 0

-- AS THE CODE TESTS IT

-- the word is an option's, and no value is given for it among the earlier words
abbrev pub is_new_behind : List Key → List Word → Word → Bool
is_new_behind keys earlier word = is_word_of keys word && not (is_some (value_behind word earlier))

-- the first of the others is an option's, and no value is given for it among the earlier words
abbrev pub is_new_first : List Key → List Word → List Word → Bool
is_new_first keys earlier [] = false
is_new_first keys earlier (word ∷ others) = is_new_behind keys earlier word

-- the word at a place is an option's, and no value is given for it among the words before it
abbrev pub is_new_at : List Key → List Word → ℕ → Bool
is_new_at keys words place = is_new_first keys (take place words) (drop place words)

-- the first of these words is a value of the option
abbrev pub is_value_first : List Key → Word → List Word → Bool
is_value_first keys word [] = false
is_value_first keys word (value ∷ words) = is_value keys word value
