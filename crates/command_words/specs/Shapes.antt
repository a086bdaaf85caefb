-- The commands, and what the words of each are made of.
use Rattle.std.specs.Prelude.{◌-◌, ◌^◌, List, [], ◌∷◌, Option, Some, None, codes}
use Rattle.lk_model.specs.Texts.Lines.{Word}
use Rattle.lk_model.specs.Documents.Text.{class_word}
use Rattle.lk_model.specs.declared.class.Class.{Class}
use Rattle.lk_model.specs.declared.class.Class.TheVariants.{Pure, Matching, Linear, General}
use Rattle.command_words.specs.Settings.{Key, numbers_from, conflicts, pivots, workers, protect}
use Rattle.command_words.specs.declared.command.Command.{Command}
use Rattle.command_words.specs.declared.command.Command.TheVariants.{ReducePure, ReduceMatching, ReduceLinear, ReduceGeneral, Check, Extend, Report, Demo, Solve, Verify, Deficiency, Edits, Mus}
use Rattle.command_words.specs.declared.range.Range.{Range}
use Rattle.command_words.specs.declared.shape.Grammar.{Grammar}
use Rattle.command_words.specs.declared.shape.Grammar.TheVariants.{Formula, Document, Model, Answer}
use Rattle.command_words.specs.declared.shape.Grammar.TheVariants as grammar

abbrev pub commands : List Command
commands = ReducePure ∷ ReduceMatching ∷ ReduceLinear ∷ ReduceGeneral ∷ Check ∷ Extend ∷ Report ∷ Demo ∷ Solve ∷ Verify ∷ Deficiency ∷ Edits ∷ Mus ∷ []

-- The words at a command's front, the number that stands after them for the commands that take one, its inputs in the
-- order of the words, and the options that it takes.
pub record Shape : Type 0 where
  pub words : List Word
  pub number : Option Range
  pub inputs : List Grammar
  pub keys : List Key

-- without a number
abbrev pub shape : List Word → List Grammar → List Key → Shape
shape words inputs keys = record { words = words; number = None; inputs = inputs; keys = keys }

abbrev pub reducing_inputs : List Grammar
reducing_inputs = Formula ∷ []

abbrev pub reducing_keys : List Key
reducing_keys = conflicts ∷ pivots ∷ workers ∷ protect ∷ []

abbrev pub reducing : Class → Shape
reducing class = shape (codes "reduce" ∷ class_word class ∷ []) reducing_inputs reducing_keys

-- of `demo`, which takes any number of 64 bits
abbrev pub demonstrating : Shape
demonstrating = record { words = codes "demo" ∷ []; number = Some (numbers_from 0 (2 ^ 64 - 1)); inputs = []; keys = [] }

-- THE TABLE

abbrev pub shape_of : Command → Shape
shape_of ReducePure = reducing Pure
shape_of ReduceMatching = reducing Matching
shape_of ReduceLinear = reducing Linear
shape_of ReduceGeneral = reducing General
shape_of Check = shape (codes "check" ∷ []) (Formula ∷ Document ∷ []) (workers ∷ [])
shape_of Extend = shape (codes "extend" ∷ []) (Formula ∷ Document ∷ Model ∷ []) []
shape_of Report = shape (codes "report" ∷ []) (Formula ∷ []) []
shape_of Demo = demonstrating
shape_of Solve = shape (codes "solve" ∷ []) (Formula ∷ []) (conflicts ∷ workers ∷ [])
shape_of Verify = shape (codes "verify" ∷ []) (Formula ∷ Answer ∷ []) []
shape_of Deficiency = shape (codes "deficiency" ∷ []) (Formula ∷ []) []
shape_of Edits = shape (codes "edits" ∷ []) (Formula ∷ grammar.Edits ∷ []) []
shape_of Mus = shape (codes "mus" ∷ []) (Formula ∷ []) (conflicts ∷ [])

abbrev pub words_of : Command → List Word
words_of command = (shape_of command).words

abbrev pub number_of : Command → Option Range
number_of command = (shape_of command).number

abbrev pub inputs_of : Command → List Grammar
inputs_of command = (shape_of command).inputs

abbrev pub keys_of : Command → List Key
keys_of command = (shape_of command).keys
