use Rattle.std.proofs.Common.{◌≡◌, ◌==◌, not, filter, take}
use Rattle.mus_core.proofs.shrinking.others.Given as goal

abbrev pub invariant-loop-q : goal.invariant-loop-q
invariant-loop-q l = l.others ≡ filter (λ q. not (q == l.p)) (take l.q-index l.places)
