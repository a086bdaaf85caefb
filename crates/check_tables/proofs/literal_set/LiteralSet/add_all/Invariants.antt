use Rattle.std.proofs.Common.{◌≡◌, ◌++◌, ℕ, ℤ, List, true, take, length}
use Rattle.std.specs.List.{list_all}
use Rattle.lk_model.specs.Formulas.Literal.{is_literal}
use Rattle.check_tables.specs.LiteralSets.{IsSetOf}
use Rattle.check_tables.proofs.literal_set.LiteralSet.add_all.Given as goal

-- the literals so far are put in
abbrev pub invariant-loop-l : goal.invariant-loop-l
invariant-loop-l l = record {
  size : length l.self ≡ length l.fn.self;
  added : (n : ℕ) (c : List ℤ) → list_all (is_literal n) l.literals ≡ true → IsSetOf n c l.fn.self → IsSetOf n (c ++ take l.l-index l.literals) l.self;
}
