use Rattle.std.proofs.Common.{◌≡◌, ◌++◌, ℤ, List, not, ◌&&◌, filter, take, length}
use Rattle.std.specs.Ordering.{int_eq}
use Rattle.lk_model.specs.Formulas.Literal.{variable}
use Rattle.check_rounds.specs.Blocking.{is_before}
use Rattle.check_rounds.specs.Chains.{IsWork}
use Rattle.check_rounds.proofs.work.Work.add_others.Given as goal

-- the literals so far are put in, but the one
abbrev pub invariant-loop-l : goal.invariant-loop-l
invariant-loop-l l = record {
  size : length l.self.flags ≡ length l.fn.self.flags;
  added : (c : List ℤ) → IsWork l.n c l.fn.self → IsWork l.n (c ++ filter (λ k. not (int_eq k l.but) && not (is_before l.k l.blocks (variable k))) (take l.l-index l.clause)) l.self;
}
