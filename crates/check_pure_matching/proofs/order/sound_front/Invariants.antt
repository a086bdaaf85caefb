use Rattle.std.proofs.Common.{◌≡◌, ℕ, ℤ, List, ◌<◌, take, get_or, false, pos}
use Rattle.check_tables.specs.LiteralSets.{IsSetOf}
use Rattle.check_pure_matching.specs.Order.{is_unsound}
use Rattle.check_pure_matching.proofs.order.sound_front.Given as goal

-- each literal so far is new and in the set, and is among the earlier ones now
abbrev pub invariant-loop-i : goal.invariant-loop-i
invariant-loop-i l = record {
  earlier : IsSetOf l.n (take l.i l.order) l.earlier;
  sound : (literals : List ℤ) → IsSetOf l.n literals l.set → (k : ℕ) → k < l.i → is_unsound literals (take k l.order) (get_or l.order k (pos 0)) ≡ false;
}
