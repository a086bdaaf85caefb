use Rattle.std.proofs.Common.{◌≡◌, ◌++◌, ℤ, List, take, length}
use Rattle.lk_model.specs.Formulas.Crossed.{crossed_out}
use Rattle.check_rounds.specs.Blocking.{is_before}
use Rattle.check_rounds.specs.Chains.{IsWork}
use Rattle.check_rounds.proofs.work.Work.add_all.Given as goal

-- the literals so far are put in
abbrev pub invariant-loop-l : goal.invariant-loop-l
invariant-loop-l l = record {
  size : length l.self.flags ≡ length l.fn.self.flags;
  added : (c : List ℤ) → IsWork l.n c l.fn.self → IsWork l.n (c ++ crossed_out (is_before l.k l.blocks) (take l.l-index l.clause)) l.self;
}
