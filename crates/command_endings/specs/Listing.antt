-- Which variables a list of numbers names.
use Rattle.std.specs.Prelude.{ℕ, if◌then◌else◌, List, Option, Some, None}
use Rattle.std.specs.List.{filter_map}
use Rattle.lk_model.specs.Lists.{is_between}
use Rattle.lk_model.specs.Texts.Lines.{Word}
use Rattle.lk_model.specs.Texts.NumberWords.{natural}
use Rattle.command_words.specs.Settings.{parts_of}

-- the number, if it is a variable from 1 to n
abbrev pub variable_named : ℕ → Option ℕ → Option ℕ
variable_named n None = None
variable_named n (Some v) = if is_between 1 n v then Some v else None

-- such variables among the numbers of a list, in its order
abbrev pub variables_named : ℕ → Word → List ℕ
variables_named n list = filter_map (λ part. variable_named n (natural part)) (parts_of list)
