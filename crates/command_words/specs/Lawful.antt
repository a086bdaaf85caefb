-- The lawful words of the command line.
use Rattle.std.specs.Prelude.{◌≡◌, ℕ, ◌+◌, ◌<◌, ◌≤◌, if◌then◌else◌, List, [], ◌∷◌, ◌++◌, length, take, drop, Option, Some, None, nat_le, option_map, option_and_then}
use Rattle.std.specs.Str.{bytes_eq}
use Rattle.lk_model.specs.Texts.Lines.{Word}
use Rattle.lk_model.specs.Texts.NumberWords.{natural}
use Rattle.command_words.specs.Shapes.{commands, words_of, number_of, inputs_of, keys_of}
use Rattle.command_words.specs.Settings.{Options, options_of, number_within}
use Rattle.command_words.specs.declared.command.Command.{Command}
use Rattle.command_words.specs.declared.range.Range.{Range}

-- What lawful words ask for: a command, over the inputs under these names in their order, with these options.
pub record Request : Type 0 where
  pub command : Command
  pub names : List Word
  pub options : Options

-- the words after those at the front, where these stand there
abbrev pub behind : List Word → List Word → Option (List Word)
behind [] words = Some words
behind (word ∷ front) [] = None
behind (word ∷ front) (first ∷ words) = if bytes_eq first word then behind front words else None

-- the command with this number, names for its inputs, and options after them
abbrev pub with_names : Command → ℕ → List Word → Option Request
with_names command number words =
    let count = length (inputs_of command) in
    if nat_le count (length words)
    then option_map (λ (o : Options). record { command = command; names = take count words; options = record o { number = number } }) (options_of (keys_of command) (drop count words))
    else None

-- how many words the number takes: one, where there is one
abbrev pub number_words : Option Range → ℕ
number_words None = 0
number_words (Some range) = 1

-- the number that the first word writes, within the range; 0 where no number is taken
abbrev pub number_first : Option Range → List Word → Option ℕ
number_first None words = Some 0
number_first (Some range) [] = None
number_first (Some range) (word ∷ words) = number_within range (natural word)

-- the command with its number, where it takes one, and what stands after that
abbrev pub with_number : Command → List Word → Option Request
with_number command words =
    option_and_then (λ (n : ℕ). with_names command n (drop (number_words (number_of command)) words)) (number_first (number_of command) words)

abbrev pub request_among : List Command → List Word → Option Request
request_among [] words = None
request_among (command ∷ others) words = elim (behind (words_of command) words) [
  | Some rest ↦ with_number command rest
  | None ↦ request_among others words
]

-- what lawful words ask for: a command's words, its number, a name for each of its inputs, and options
abbrev pub request_of : List Word → Option Request
request_of words = request_among commands words

-- some lawful list begins with these words
pub record Begins (words : List Word) : Type 0 where
  pub more : List Word
  pub request : Request
  pub lawful : request_of (words ++ more) ≡ Some request

-- The words are not lawful, and number i is the first that cannot stand where it does: no lawful list begins with
-- the first i words. Where some lawful list begins with all of them, i is the number after the last.
pub record IsRefusedAt (words : List Word) (i : ℕ) : Type 0 where
  pub unlawful : request_of words ≡ None
  pub first : 1 ≤ i
  pub last : i ≤ length words + 1
  pub before : (k : ℕ) → k < i → Begins (take k words)
  pub refused : i ≤ length words → Begins (take i words) → ⊥
