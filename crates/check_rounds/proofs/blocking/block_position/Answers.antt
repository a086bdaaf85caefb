use Rattle.std.proofs.Common.{ℕ, ℤ, List, subst, arith}
use Rattle.lk_model.specs.Formulas.Formula.{clause_at}
use Rattle.check_rounds.specs.Blocking.{BlocksClause}
use Rattle.check_rounds.proofs.BlockTables.{seen_more}
use Rattle.check_rounds.proofs.blocking.block_position.Goals as goal

pub bounds-seen-i : goal.bounds-seen-i
bounds-seen-i c = omega (arith, c.requires.first, c.requires.last, c.requires.seen.size)

pub returns-then-seen-i-clause-blocked : goal.returns-then-seen-i-clause-blocked
returns-then-seen-i-clause-blocked c =
    let F = c.args.f.now in
    subst (λ (n : ℕ). BlocksClause n c.args.k (clause_at F c.args.p) c.args.table.now c.block_clause.new.table) c.vars.ensures.value
    (subst (λ (ls : List ℤ). BlocksClause c.vars.result c.args.k ls c.args.table.now c.block_clause.new.table) c.clause.ensures.value c.block_clause.ensures)

pub returns-then-seen-i-clause-seen : goal.returns-then-seen-i-clause-seen
returns-then-seen-i-clause-seen c =
    let F = c.args.f.now in
    let after = c.block_clause.new.table in
    let blocked : BlocksClause F.vars c.args.k (clause_at F c.args.p) c.args.table.now after = subst (λ (n : ℕ). BlocksClause n c.args.k (clause_at F c.args.p) c.args.table.now after) c.vars.ensures.value
    (subst (λ (ls : List ℤ). BlocksClause c.vars.result c.args.k ls c.args.table.now after) c.clause.ensures.value c.block_clause.ensures) in
    seen_more F c.args.k c.args.p c.args.seen.now c.args.table.now after c.requires.first c.requires.last blocked c.requires.seen
