-- How the words of a request are told apart.
use Rattle.std.specs.Prelude.{◌≡◌, ℕ, suc, ◌+◌, ◌<◌, if◌then◌else◌, List, ◌∷◌, map, length}
use Rattle.std.specs.Str.{bytes_eq}
use Rattle.lk_model.specs.Texts.Lines.{Word}
use Rattle.command_words.specs.Shapes.{words_of}
use Rattle.command_words.specs.Lawful as lawful
use Rattle.command_words.specs.OptionRows.{values_of}
use Rattle.command_words.specs.declared.command.Command.{Command}
use Rattle.command_words.specs.declared.options.Options.{Options}
use Rattle.command_words.specs.declared.words.Request.{Request}

-- the command over the inputs under these names, with these options
abbrev pub request_for : Command → List Word → Options → lawful.Request
request_for command names options = record { command = command; names = names; options = values_of options }

-- what the request asks for
abbrev pub asked : Request → lawful.Request
asked r = request_for r.command (map (λ w. w.now) r.names.now) r.options

-- how many words stand at the front of both lists
abbrev pub common : List Word → List Word → ℕ
common (word ∷ words) (known ∷ front) = if bytes_eq word known then suc (common words front) else 0
common _ _ = 0

-- the command's words stand at the front
abbrev pub IsCommandOf : List Word → Command → Type 0
IsCommandOf words command = common words (words_of command) ≡ length (words_of command)

-- no command's words stand at the front: of each, fewer than i, and of one, all before number i
pub record IsUnknownAt (words : List Word) (i : ℕ) : Type 0 where
  pub none : (command : Command) → common words (words_of command) < length (words_of command)
  pub fewer : (command : Command) → common words (words_of command) < i
  pub known : (command : Command) × (i ≡ common words (words_of command) + 1)
