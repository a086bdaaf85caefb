-- What a word is after the problem line.
use Rattle.std.specs.Prelude.{◌≡◌, ℕ, ℤ, pos, false, nat_le, Option, Some, IsTrue, IsSomeAnd}
use Rattle.lk_model.specs.Formulas.Literal.{is_literal, variable}
use Rattle.dimacs_reader.specs.declared.word.Number.{Number}
use Rattle.dimacs_reader.specs.declared.word.Number.TheVariants.{Zero, Literal, Past}

-- the word writes the 0, a literal over the variables from 1 to n, or a number with another variable
abbrev pub IsNumber : ℕ → Option ℤ → Number → Type 0
IsNumber n written Zero = written ≡ Some (pos 0)
IsNumber n written (Literal l) = (written ≡ Some l) × IsTrue (is_literal n l)
IsNumber n written Past = IsSomeAnd written (λ x. nat_le (variable x) n ≡ false)

-- a literal is one over the variables from 1 to n
abbrev pub IsOver : ℕ → Number → Type 0
IsOver n Zero = Unit {0}
IsOver n (Literal l) = IsTrue (is_literal n l)
IsOver n Past = Unit {0}
