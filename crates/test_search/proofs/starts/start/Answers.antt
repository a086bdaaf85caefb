use Rattle.std.proofs.Common.{List, length, not, ap, subst, sym, IsTrue}
use Rattle.lk_model.specs.Held.VariableSets.{is_in}
use Rattle.watch_prop.specs.declared.entry.NumberedClause.{NumberedClause}
use Rattle.lk_model.specs.Lists.{among}
use Rattle.watch_prop.specs.Propagation.{numbers_of}
use Rattle.watch_prop.proofs.Beginnings.{numbers_below}
use Rattle.test_search.proofs.starts.start.Goals as goal

pub returns-clause-free : goal.returns-clause-free
returns-clause-free c m above =
    let F = c.args.f.now in
    subst (λ (cs : List NumberedClause). IsTrue (not (among (numbers_of cs) m))) (sym c.in_ok-new.ensures.clauses)
    (ap not (numbers_below F (is_in c.args.blocked.now) 0 (length F.clauses) c.args.part.now m c.requires.part above))
