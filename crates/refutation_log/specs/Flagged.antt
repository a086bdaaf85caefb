-- Clauses by flags of literals.
use Rattle.std.specs.Prelude.{Bool, false, List, filter, ℤ, slice_index_or, IsTrue}
use Rattle.lk_model.specs.Formulas.Literal.{contains, rank_of}

-- the flag of the literal is set
abbrev pub is_flagged : List Bool → ℤ → Bool
is_flagged flags l = slice_index_or flags (rank_of l) false

-- the literals whose flags are set
abbrev pub flagged : List Bool → List ℤ → List ℤ
flagged flags came = filter (is_flagged flags) came

-- each literal whose flag is set has come
abbrev pub HaveCome : List Bool → List ℤ → Type 0
HaveCome flags came = (l : ℤ) → IsTrue (is_flagged flags l) → IsTrue (contains came l)
