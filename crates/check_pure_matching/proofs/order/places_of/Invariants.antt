use Rattle.std.proofs.Common.{◌≡◌, ◌+◌, ◌*◌, ℤ, drop, length, true, get_or}
use Rattle.lk_model.specs.Formulas.Literal.{is_literal, rank_of}
use Rattle.check_pure_matching.specs.Order.{place_in}
use Rattle.check_pure_matching.proofs.order.places_of.Given as goal

-- the places among the literals so far, which stand last
abbrev pub invariant-loop-i : goal.invariant-loop-i
invariant-loop-i l = record {
  size : length l.places ≡ 2 * l.n + 2;
  told : (k : ℤ) → is_literal l.n k ≡ true → get_or l.places (rank_of k) 0 ≡ l.i + place_in (drop l.i l.order) k;
}
