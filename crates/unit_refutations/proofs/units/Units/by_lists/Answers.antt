use Rattle.unit_refutations.proofs.Beginnings.{begun}
use Rattle.unit_refutations.proofs.units.Units.by_lists.Goals as goal

pub returns-clause-kept : goal.returns-clause-kept
returns-clause-kept c = begun c.args.f.now _ c.args.lists c.in_ok-new.field-0.inside c.in_ok-new-2.field-0 c.vars.result c.requires.lists c.in_ok-new.ensures.size
    c.vars.ensures.value c.in_ok-new-2.ensures.lits c.in_ok-new-2.ensures.reasons c.in_ok-new-2.ensures.places
