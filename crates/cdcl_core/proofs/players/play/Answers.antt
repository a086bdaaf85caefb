use Rattle.std.proofs.Common.{List, Option, sym, ap, subst}
use Rattle.cdcl_core.specs.declared.players.Player.{Player}
use Rattle.cdcl_core.specs.declared.players.Won.{Won}
use Rattle.cdcl_core.specs.Players.{AreWithin, WentOnEach}
use Rattle.cdcl_core.proofs.Playing.{none_within, all_within}
use Rattle.cdcl_core.proofs.players.play.Goals as goal
use Rattle.cdcl_core.proofs.players.play.Goals.{then-first-bounds+in_ok-begin_others, else-first-bounds}

pub go_on_each-requires-clause-players : goal.go_on_each-requires-clause-players
go_on_each-requires-clause-players c =
    c.in_ok-begin.ensures.within c.args.bounds.budget
    (none_within c.args.over.now c.args.bounds.next c.args.bounds.budget c.args.players.now.items c.requires.none)

pub alternate-requires-clause-players : goal.alternate-requires-clause-players
alternate-requires-clause-players c =
    let over = c.args.over.now in
    let first = c.min-first.result in
    let budget = c.args.bounds.budget in
    let paused = all_within over c.args.bounds.next first budget c.go_on_each.new.players.items
    (subst (λ (o : Option Won). WentOnEach over c.args.bounds.next first c.args.bounds.budget c.go_on_each.new.players.items o) c.in_default.is c.in_ok-won.ensures.went) in
    elim c.if-first-bounds.branch [
      | then-first-bounds+in_ok-begin_others w ↦
          subst (λ (ps : List Player). AreWithin over c.args.bounds.next budget ps) (sym (ap (λ ps. ps.items) w.players-is))
          (w.in_ok-begin_others.ensures.within budget paused)
      | else-first-bounds w ↦ subst (λ (ps : List Player). AreWithin over c.args.bounds.next budget ps) (sym (ap (λ ps. ps.items) w.players-is)) paused
    ]
