use Rattle.std.proofs.Common.{◌≡◌, [], List}
use Rattle.exact_rows.specs.declared.sparse.Entry.{Entry}
use Rattle.exact_pivot.proofs.Pushes.{all_pushed, count_pushed}
use Rattle.exact_pivot.proofs.incidences.empty.Goals as goal

pub loop-preserved : goal.loop-preserved
loop-preserved c = record {
  size = count_pushed c.loop.rows.items c.push.new.self.items c.new.result c.loop.counter c.in_ok-push.ensures.items c.loop.invariant.size;
  none = all_pushed (λ (es : List Entry). es ≡ []) c.loop.rows.items c.push.new.self.items c.new.result c.in_ok-push.ensures.items c.loop.invariant.none c.new.ensures;
}
