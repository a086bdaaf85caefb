-- Words as they are printed before the last one of a line.
use Rattle.std.specs.Prelude.{ℕ, List, [], ◌∷◌, ◌++◌}
use Rattle.std.specs.List.{flat_map}
use Rattle.lk_model.specs.Texts.Lines.{Word}

-- the words in a row, each with a space after it
abbrev pub spaced : List Word → List ℕ
spaced words = flat_map (λ word. word ++ 32 ∷ []) words
