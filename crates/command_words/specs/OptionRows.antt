-- The options as the code has them, and what it makes of their words.
use Rattle.std.specs.Prelude.{ℕ, List, Option, unwrap_or, option_map, option_and_then}
use Rattle.std.specs.Borrow.{Bor}
use Rattle.lk_model.specs.Texts.Lines.{Word}
use Rattle.lk_model.specs.Texts.NumberWords.{natural}
use Rattle.command_words.specs.Settings as settings
use Rattle.command_words.specs.Settings.{conflicts, pivots, workers, protect, number_within, value_behind, listed}
use Rattle.command_words.specs.declared.key.Key.{Key}
use Rattle.command_words.specs.declared.options.Options.{Options}

-- the option of this row
abbrev pub known : Key → settings.Key
known key = record { word = key.word.now; is_list = key.is_list; numbers = key.numbers }

-- the number of a value, if it is one that the option takes, or else the usual one
abbrev pub number_or : settings.Key → ℕ → Option Word → ℕ
number_or key usual value = unwrap_or (option_and_then (λ (w : Word). number_within key.numbers (natural w)) value) usual

abbrev pub number_given : settings.Key → ℕ → List Word → ℕ
number_given key usual words = number_or key usual (value_behind key.word words)

-- with the usual number where one is not given
abbrev pub given_by : List Word → settings.Options
given_by words = record {
  number = 0;
  conflicts = number_given conflicts 100000 words;
  pivots = number_given pivots 100000 words;
  workers = number_given workers 1 words;
  protect = option_map listed (value_behind protect.word words);
}

abbrev pub text_of : Option (Bor Word) → Option Word
text_of value = option_map (λ (w : Bor Word). w.now) value

-- what the options give
abbrev pub values_of : Options → settings.Options
values_of o = record {
  number = o.number;
  conflicts = o.conflicts;
  pivots = o.pivots;
  workers = o.workers;
  protect = option_map listed (text_of o.protect);
}
