use Rattle.std.proofs.Common.{◌∙◌, List, Option, Bool, None, length, replicate, ap}
use Rattle.lk_model.specs.Formulas.Formula.{Cnf}
use Rattle.std.proofs.lemmas.List.{length-replicate}
use Rattle.mus_core.proofs.ShrunkCores.{begins}
use Rattle.mus_core.proofs.shrinking.shrink.Goals as goal

pub shrink_by-requires-clause-shrunk : goal.shrink_by-requires-clause-shrunk
shrink_by-requires-clause-shrunk c =
    let G = c.args.core.now.clauses in
    let none : Option (List (Option Bool)) = None in
    let is = c.in_ok-tables.ensures.witnesses ∙ ap (λ (H : Cnf). replicate (length H.clauses) none) c.clauses.ensures.clauses in
    begins c.args.core.now c.args.conflicts c.args.refutation c.in_ok-tables.tables.witnesses c.requires.refuted is
    (ap (λ (ws : List (Option (List (Option Bool)))). length ws) is ∙ length-replicate (length G.clauses) None)
