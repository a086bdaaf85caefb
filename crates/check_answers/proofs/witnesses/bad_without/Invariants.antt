use Rattle.std.proofs.Common.{◌≡◌, take, [], None}
use Rattle.std.specs.Prelude.{find}
use Rattle.check_tables.specs.LiteralSets.{IsSetOf}
use Rattle.check_answers.proofs.CoreWitnesses.{is_bad}
use Rattle.check_answers.proofs.witnesses.bad_without.Given as goal

-- none of the positions so far fails, and the set is empty
abbrev pub invariant-loop-k : goal.invariant-loop-k
invariant-loop-k l = record {
  none : find (is_bad l.f l.core l.withouts) (take l.k l.core) ≡ None;
  set : IsSetOf l.f.vars [] l.set;
}
