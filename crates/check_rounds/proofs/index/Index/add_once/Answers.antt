use Rattle.std.proofs.Common.{◌<◌, ◌%◌, ℕ, length, subst, arith}
use Rattle.std.proofs.Math.Nat.{mod-lt}
use Rattle.check_rounds.specs.Index.{IsListed}
use Rattle.check_rounds.proofs.IndexLemmas.{clauses_next, last_kept, last_more, listed_by, listed_itself}
use Rattle.check_rounds.proofs.index.Index.add_once.Goals as goal

pub returns-then-is_clause_at-clause-found : goal.returns-then-is_clause_at-clause-found
returns-then-is_clause_at-clause-found c =
    let blocks = c.args.blocks.now in
    let lists = c.args.self.now in
    let F = c.args.f.now in
    let table = c.args.last.now.items in
    let some : 0 < c.len.result = omega (arith, c.len.ensures, c.requires.places) in
    let within : c.mix.result % c.len.result < c.len.result = mod-lt c.mix.result some in
    let inside : c.mix.result % c.len.result < length table = omega (arith, within, c.len.ensures) in
    clauses_next blocks lists lists F c.args.p (λ _ _ h. h) c.requires.found
    (listed_by blocks lists F table (c.mix.result % c.len.result) c.index.result.now c.args.p c.clause-clause.result.now c.is_clause_at.result c.requires.last inside c.index.ensures c.clause-clause.ensures.value
    c.is_clause_at.ensures c.if-is_clause_at.true)

pub returns-clause-last : goal.returns-clause-last
returns-clause-last c =
    let blocks = c.args.blocks.now in
    let F = c.args.f.now in
    let clause = c.clause-clause.result.now in
    let here : IsListed blocks c.add.new.self clause c.args.p = subst (λ (q : ℕ). IsListed blocks c.add.new.self clause q) c.from.ensures c.in_ok-add.ensures.found in
    last_more blocks c.add.new.self F c.args.last.now.items (c.mix.result % c.len.result) c.args.p clause
    (last_kept blocks c.args.self.now c.add.new.self F c.args.last.now.items c.in_ok-add.ensures.kept c.requires.last) c.clause-clause.ensures.value here

pub returns-clause-found : goal.returns-clause-found
returns-clause-found c =
    let blocks = c.args.blocks.now in
    let F = c.args.f.now in
    let clause = c.clause-clause.result.now in
    let here : IsListed blocks c.add.new.self clause c.args.p = subst (λ (q : ℕ). IsListed blocks c.add.new.self clause q) c.from.ensures c.in_ok-add.ensures.found in
    clauses_next blocks c.args.self.now c.add.new.self F c.args.p c.in_ok-add.ensures.kept c.requires.found
    (listed_itself blocks c.add.new.self F c.args.p clause c.requires.least c.requires.most c.clause-clause.ensures.value here)
