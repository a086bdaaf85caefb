use Rattle.std.proofs.Common.{◌++◌, ◌∙◌, sym, subst}
use Rattle.dimacs_reader.specs.Taken.{HasTaken, HasBeenFed}
use Rattle.dimacs_reader.specs.declared.reading.Held.{Held}
use Rattle.dimacs_reader.proofs.Refusals.{none_due}
use Rattle.dimacs_reader.proofs.reader.Reader.feed.Goals as goal

pub returns-in_default-clause-told : goal.returns-in_default-clause-told
returns-in_default-clause-told c fed h =
    let before : HasTaken fed c.in-Going.reading = subst (λ (held : Held). HasBeenFed fed held) (sym c.self.view_is ∙ c.in-Going.is) h in
    let after = c.in_default.ensures.ok fed before in
    rw c.in_default.is (none_due (fed ++ c.args.piece.now) c.take_all-taken.new.reading.stage after.few after.stands)
