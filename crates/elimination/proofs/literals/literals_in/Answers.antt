use Rattle.std.proofs.Common.{◌≡◌, ◌<◌, ◌+◌, ◌∙◌, suc, [], length, get_or, ap, arith}
use Rattle.std.proofs.lemmas.List.Sums.{sum_by_more}
use Rattle.lk_model.specs.Formulas.Formula.{clause_at}
use Rattle.elimination.proofs.literals.literals_in.Goals as goal

pub loop-k-preserved : goal.loop-k-preserved
loop-k-preserved c =
    let f = c.args.f.now in
    let k = c.loop-k.k in
    let lt : k < length f.clauses = omega (arith, c.loop-k-test.true, c.len-k-end.ensures.value) in
    let place : k + 1 ≡ suc k = omega arith in
    let same : c.clause.result.now ≡ get_or f.clauses k [] = c.clause.ensures.value ∙ ap (clause_at f) place in
    let more = sum_by_more length f.clauses k [] lt in
    let before = c.loop-k.invariant in
    omega (arith, before, more, ap length same)
