use Rattle.occurrence_lists.proofs.Parts.{AreBegun}
use Rattle.occurrence_lists.proofs.filling.Filling.new.Given as goal

-- where the lists so far end and begin
abbrev pub invariant-loop-size : goal.invariant-loop-size
invariant-loop-size l = AreBegun l.sizes l.size-index l.ends.items l.next.items l.stop
