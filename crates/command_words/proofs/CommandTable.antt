-- What is computed of the words of each command.
use Rattle.std.proofs.Common.{◌≡◌, ℕ, ◌<◌, suc, ◌==◌, List, [], ◌∷◌, ◌++◌, length, get_or, true, refl, arith}
use Rattle.std.specs.Fmt.{digits}
use Rattle.std.specs.Prelude.{codes, if◌then◌else◌}
use Rattle.std.proofs.lemmas.Bool.{leb-true}
use Rattle.std.specs.List.{list_all}
use Rattle.lk_model.specs.Texts.Lines.{Word}
use Rattle.command_words.specs.Settings.{every_option}
use Rattle.command_words.specs.Shapes.{commands, words_of, keys_of}
use Rattle.command_words.specs.Lawful.{request_of, with_names, with_number}
use Rattle.command_words.specs.Requests.{common}
use Rattle.command_words.specs.declared.command.Command.{Command}
use Rattle.command_words.specs.declared.command.Command.TheVariants.{ReducePure, Demo}
use Rattle.command_words.proofs.LawfulOptions.{have_samples}
use Rattle.command_words.proofs.OptionWords.{agrees}

-- Each lemma computes for every command: the last clause is that of the commands without one of their own.

-- words that begin with those of a command are of no other
pub is_of : (command : Command) (rest : List Word) → request_of (words_of command ++ rest) ≡ with_number command rest
is_of ReducePure rest = refl
is_of command rest = refl

-- a number that it takes, as words
pub one_number : (command : Command) → (number : List Word) × ((rest : List Word) → with_number command (number ++ rest) ≡ with_names command 0 rest)
one_number Demo = (codes "0" ∷ [], λ rest. refl)
one_number command = ([], λ rest. refl)

-- each of its options takes some word
pub samples : (command : Command) → have_samples (keys_of command) ≡ true
unfolding digits
samples ReducePure = refl
samples command = refl

-- none of them has the word of another option
pub apart : (command : Command) → list_all (agrees (keys_of command)) every_option ≡ true
apart ReducePure = refl
apart command = refl

-- the place of the command whose words these are
place_among : List Command → List Word → ℕ
place_among [] words = 0
place_among (command ∷ others) words = if common words (words_of command) == length (words_of command) then 0 else suc (place_among others words)

-- the place of each in the list of commands
pub stands : (command : Command) → (place : ℕ) × (place < length commands) × (get_or commands place ReducePure ≡ command)
unfolding place_among
stands ReducePure = (0, omega arith, refl)
stands command = (place_among commands (words_of command), leb-true (suc (place_among commands (words_of command))) (length commands) refl, refl)
