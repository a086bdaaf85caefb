use Rattle.std.proofs.Common.{◌≡◌, true, sym, subst, List, ℕ}
use Rattle.lk_model.specs.Limits.{max_vars}
use Rattle.lk_model.specs.Lists.{rises_within}
use Rattle.part_copy.proofs.Told.{names_fit, open_answered}
use Rattle.part_copy.proofs.copies.PartCopy.open.Goals as goal

pub only-requires : goal.only-requires
only-requires c =
    subst (λ (ns : List ℕ). rises_within 0 max_vars ns ≡ true) (sym c.renaming.ensures.renaming.names) (names_fit c.args.self.now c.renaming.ensures.copy)

pub returns : goal.returns
returns c conflicts open_round =
    open_answered c.args.self.now c.renaming.result c.args.round c.only.result conflicts c.renaming.ensures.copy c.renaming.ensures.renaming open_round
    c.only.ensures.round c.only.ensures.numbers
