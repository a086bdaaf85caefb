use Rattle.std.proofs.Common.{◌≡◌, ◌<◌, ◌∙◌, ℕ, ◌+◌, ◌*◌, ℤ, List, length, take, ap, subst, arith}
use Rattle.std.specs.Prelude.{sum_by}
use Rattle.std.proofs.lemmas.List.{take_all}
use Rattle.lk_model.proofs.Booleans.{and_true}
use Rattle.occurrence_lists.specs.Noting.{AreCounts, CountsClause}
use Rattle.occurrence_lists.proofs.Ranks.{beyond}
use Rattle.occurrence_lists.proofs.Noted.{counts_few, AreCounts-none, AreCounts-more}
use Rattle.occurrence_lists.proofs.counting.count_literals.Goals as goal

pub loop-i-init : goal.loop-i-init
loop-i-init c = AreCounts-none c.args.f.now _ _ c.in_ok-counts.ensures (ap (λ (n : ℕ). 2 * n + 2) c.vars.ensures.value)

pub count_clause-requires-clause-within : goal.count_clause-requires-clause-within
count_clause-requires-clause-within c = λ k held.
    omega (arith, beyond c.args.f.now.vars c.clause.result.now k (and_true _ _ c.clause.ensures.clause).0 held, c.loop-i.invariant.size)

pub count_clause-requires-clause-few : goal.count_clause-requires-clause-few
count_clause-requires-clause-few c = λ k. omega (arith, counts_few c.args.f.now c.loop-i.i c.loop-i.counts c.loop-i.invariant k, c.loop-i-test.true, c.len-i-end.ensures.few)

pub loop-i-preserved : goal.loop-i-preserved
loop-i-preserved c =
    let lt : c.loop-i.i < length c.args.f.now.clauses = omega (arith, c.loop-i-test.true, c.len-i-end.ensures.value) in
    AreCounts-more c.args.f.now c.loop-i.i c.loop-i.counts c.count_clause.new.counts lt c.loop-i.invariant
    (subst (λ (ls : List ℤ). CountsClause ls c.loop-i.counts c.count_clause.new.counts) c.clause.ensures.value c.count_clause.ensures)

pub returns-clause-counts : goal.returns-clause-counts
returns-clause-counts c =
    let all : c.loop-i.i ≡ length c.args.f.now.clauses = omega (arith, c.loop-i-test.false, c.loop-i.auto.i-end, c.len-i-end.ensures.value) in
    subst (λ (i : ℕ). AreCounts c.args.f.now i c.loop-i.counts) all c.loop-i.invariant

pub returns-clause-few : goal.returns-clause-few
returns-clause-few c =
    let all : c.loop-i.i ≡ length c.args.f.now.clauses = omega (arith, c.loop-i-test.false, c.loop-i.auto.i-end, c.len-i-end.ensures.value) in
    let whole : take c.loop-i.i c.args.f.now.clauses ≡ c.args.f.now.clauses = take_all _ _ (omega (arith, all)) in
    let total = c.loop-i.invariant.total ∙ ap (λ (ls : List (List ℤ)). sum_by length ls) whole in
    omega (arith, total, c.len-i-end.ensures.limits.literals)
