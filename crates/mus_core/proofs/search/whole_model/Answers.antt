use Rattle.std.proofs.Common.{◌∙◌}
use Rattle.mus_core.proofs.Answered.{whole_result}
use Rattle.mus_core.proofs.search.whole_model.Goals as goal

pub returns : goal.returns
returns c =
    whole_result c.args.f.now c.args.set.now c.in_ok-values.values c.in_ok-none.none c.extend_total.result c.vars.ensures.formula c.requires
    (c.in_ok-values.ensures.vars ∙ c.vars.ensures.value) c.in_ok-values.ensures.values c.extend_total.ensures.literals c.extend_total.ensures.values
