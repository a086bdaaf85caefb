-- What a table over literals ends as, where a `&mut` to an entry is returned.
use Rattle.std.specs.Prelude.{List, ℤ, slice_set}
use Rattle.std.specs.Borrow.{Lends, Fml, RattleType, MutBor}
use Rattle.lk_model.specs.Formulas.Literal.{rank_of}
use Rattle.lk_model.specs.contracts.lit_table.LitTable.{the_row}

-- the entry of the literal l is the last value written through r
abbrev pub LendsEntry : (T : RattleType) → MutBor (List T.Denot) → ℤ → MutBor T.Denot → Fml
LendsEntry T s l r = Lends (the_row T) T s r (slice_set s.now (rank_of l))
