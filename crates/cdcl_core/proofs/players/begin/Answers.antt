use Rattle.std.proofs.Common.{List, sym, subst}
use Rattle.cdcl_core.specs.declared.players.Player.{Player}
use Rattle.cdcl_core.specs.Players.{AreWithin}
use Rattle.cdcl_core.proofs.Playing.{begun_within, more_within}
use Rattle.cdcl_core.proofs.players.begin.Goals as goal

pub returns-clause-within : goal.returns-clause-within
returns-clause-within c = λ pause before.
    subst (λ (ps : List Player). AreWithin c.args.over.now c.args.next pause ps) (sym c.in_ok-push.ensures.items)
    (more_within c.args.over.now c.args.next pause c.args.players.now.items c.in_ok-new.field-0 before
    (begun_within c.args.over.now c.args.next pause c.in_ok-new.field-0.search c.in_ok-new.ensures))
