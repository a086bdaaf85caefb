use Rattle.std.proofs.Common.{◌≡◌, true, length, sym, ◌∙◌}
use Rattle.lk_model.specs.Lists.{among}
use Rattle.lk_model.proofs.Rising.{bounded}
use Rattle.test_search.proofs.clauses.named.Goals as goal

pub clause-requires-clause-first : goal.clause-requires-clause-first
clause-requires-clause-first c =
    let over = c.args.over.now in
    let there : among over.part.now c.args.k ≡ true = sym c.contains.ensures.value ∙ c.if-not-contains.false in
    (bounded 0 (length over.formula.now.clauses) over.part.now c.args.k c.requires.part there).0
