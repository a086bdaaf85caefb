use Rattle.std.proofs.Common.{◌∙◌, sym}
use Rattle.mus_core.proofs.Rotated.{witness_held}
use Rattle.mus_core.proofs.rotation.visit.Goals as goal

pub flip_each-requires-clause-values : goal.flip_each-requires-clause-values
flip_each-requires-clause-values c =
    witness_held c.args.core.now c.args.witnesses.now c.args.p c.in-Some.values c.requires.held c.requires.inside
    (sym c.in_ok-values.ensures ∙ c.in-Some.is)
