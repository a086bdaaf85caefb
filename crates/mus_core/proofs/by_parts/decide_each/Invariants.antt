use Rattle.std.proofs.Common.{◌≡◌, None, take}
use Rattle.std.specs.Prelude.{IfSome}
use Rattle.mus_core.specs.ByParts.{AreModels, IsFirstStop}
use Rattle.mus_core.proofs.by_parts.decide_each.Given as goal

-- models of the parts so far, where no search stopped; else the first search that did
abbrev pub invariant-loop-part : goal.invariant-loop-part
invariant-loop-part l = record {
  models : l.stopped ≡ None → AreModels l.f (take l.part-index l.list) l.models;
  stopped : IfSome l.stopped (IsFirstStop l.f l.conflicts (take l.part-index l.list));
}
