use Rattle.std.proofs.Common.{subst, List, ℤ}
use Rattle.check_tables.specs.LiteralSets.{IsSetOf, less}
use Rattle.check_rounds.proofs.WorkSets.{work_cleared}
use Rattle.check_rounds.proofs.work.Work.clear.Goals as goal

pub returns : goal.returns
returns c n clause h =
    work_cleared n clause c.args.self.now _ h
    (subst (λ (ls : List ℤ). IsSetOf n (less clause ls) c.remove_all.new.self) c.deref.ensures.value
    (c.remove_all.ensures.removed n clause (rw (c.deref.ensures.value) h.literals) h.set)) c.clear.ensures.items
