-- Words of a clause.
use Rattle.std.specs.Prelude.{ℕ, if◌then◌else◌, List, [], ◌∷◌, ◌++◌, ℤ, Option, None, Some, nat_le}
use Rattle.lk_model.specs.Lists.{is_zero}
use Rattle.lk_model.specs.Formulas.Literal.{variable, contains}
use Rattle.edit_text.specs.declared.lines.Entry.{Entry}
use Rattle.edit_text.specs.declared.lines.Entry.TheVariants.{Literal, Zero, Other}

-- a word by the number that it writes: a literal of a variable up to n, 0, or nothing of a clause
abbrev pub entry_of : ℕ → Option ℤ → Entry
entry_of n None = Other
entry_of n (Some x) = if nat_le (variable x) n then (if is_zero x then Zero else Literal x) else Other

-- the clause with a literal, if it does not contain it yet
abbrev pub with_once : List ℤ → ℤ → List ℤ
with_once c l = if contains c l then c else c ++ l ∷ []
