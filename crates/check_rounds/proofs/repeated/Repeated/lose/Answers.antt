use Rattle.std.proofs.Common.{refl, sym}
use Rattle.check_rounds.proofs.Repeating.{lost_more, lost_none}
use Rattle.check_rounds.proofs.repeated.Repeated.lose.Goals as goal

pub returns-in_ok-push-clause-repeated : goal.returns-in_ok-push-clause-repeated
returns-in_ok-push-clause-repeated c n w v kit keeps h =
    lost_more n c.args.t w v c.args.self.now _ kit refl refl c.in_ok-push.ensures.items (sym c.if-has.ensures) keeps h

pub returns-else-has-clause-repeated : goal.returns-else-has-clause-repeated
returns-else-has-clause-repeated c n w v kit keeps h = lost_none n c.args.t w v c.args.self.now kit (sym c.if-has.ensures) keeps h
