use Rattle.std.proofs.Common.{◌<◌, ◌∙◌, Option, length, length-set, subst, arith}
use Rattle.cdcl_core.specs.declared.decided.End.{End}
use Rattle.cdcl_core.specs.Players.{WentOn}
use Rattle.cdcl_core.proofs.Playing.{next_paused, next_within}
use Rattle.cdcl_core.proofs.players.go_on_each.Goals as goal

pub loop-place-preserved : goal.loop-place-preserved
loop-place-preserved c =
    let over = c.args.over.now in
    let next = c.args.bounds.next in
    let players = c.loop-place.players.items in
    let i = c.loop-place.place in
    let p = c.go_on.new.self in
    let same = c.loop-place.invariant.length in
    let all = c.len-place-end.ensures in
    let before = c.loop-place-test.true in
    let in' : i < length players = omega (arith, same, all, before) in
    let paused = subst (λ (o : Option End). WentOn over next c.args.pause c.args.bounds.budget p.search o) c.in_default.is c.in_ok-end.ensures in
    record {
      length = length-set players i p ∙ same;
      within = next_within over next c.args.pause c.args.bounds.budget i players p in' c.loop-place.invariant.within paused;
      paused = next_paused over next c.args.pause c.args.bounds.budget i players p in' c.loop-place.invariant.paused paused;
    }
