use Rattle.std.proofs.Common.{rules, tests, ◌∙◌, ◌==◌}
use Rattle.std.proofs.lemmas.Iterator.{YieldsList-from_slice}
use Rattle.std.proofs.lemmas.Iterator.Search.{find_from_yields_List}
use Rattle.lk_model.specs.Formulas.Literal.{variable}
use Rattle.matching_kernel.proofs.set_line.literal_on.Goals as goal

pub returns : goal.returns
returns c =
    c.copied.ensures
    ∙ find_from_yields_List (λ l. variable l == c.args.v) _ _ c.find.result c.find.ensures.ran (YieldsList-from_slice c.args.clause.now cc) (λ x b q k. search (rules, tests))
