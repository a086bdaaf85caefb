use Rattle.std.proofs.Common.{◌∙◌, sym, ap}
use Rattle.unit_refutations.specs.Trails.{is_true_in}
use Rattle.unit_refutations.proofs.Demands.{opens}
use Rattle.unit_refutations.proofs.looking.look_further.Goals as goal

pub returns-in_default-so_far : goal.returns-in_default-so_far
returns-in_default-so_far c = λ lits so_far. opens c.args.trail.now lits c.args.l c.args.so_far c.in_default-so_far.not-Truth
    (sym c.is_true.ensures ∙ c.if-is_true.false)
    (ap (is_true_in c.args.trail.now) (sym c.negated.ensures) ∙ sym c.is_true-2.ensures ∙ c.if-is_true-2.false) so_far
