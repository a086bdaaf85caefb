use Rattle.std.proofs.Common.{◌≡◌, ◌∙◌, ℕ, ◌+◌, ◌<◌, ℤ, List, ◌∷◌, drop, length, sym, ap, arith}
use Rattle.std.proofs.lemmas.List.{drop_more}
use Rattle.lk_model.specs.Formulas.Literal.{variable}
use Rattle.par_parts.specs.Numbering.{Found, found_of, variable_passed, clause_passed}
use Rattle.par_parts.proofs.Passing.{variable_lengths}
use Rattle.par_parts.proofs.search.Search.pass_clause.Goals as goal

pub loop-l-preserved : goal.loop-l-preserved
loop-l-preserved c =
    let lits = c.args.lits.now in
    let lists = c.args.lists.now in
    let part = c.args.part in
    let i = c.loop-l.l-index in
    let l = c.l-item.result in
    let s = found_of c.loop-l.self in
    let lt : i < length lits = (let t = c.loop-l-test.true in omega (arith, t)) in
    let split : drop i lits ≡ l ∷ drop (i + 1) lits = drop_more lits i l lt ∙ ap (λ (k : ℤ). k ∷ drop (i + 1) lits) (sym c.l-item.is) in
    let is = c.in_ok-pass_variable.ensures ∙ ap (λ (v : ℕ). variable_passed part lists v s) c.var.ensures.value in
    let long = variable_lengths part lists (variable l) s in
    record {
      rest = ap (λ (x : Found). clause_passed part lists (drop (i + 1) lits) x) is ∙ (ap (λ (ls : List ℤ). clause_passed part lists ls s) (sym split) ∙ c.loop-l.invariant.rest);
      labels = ap (λ (x : Found). length x.labels) is ∙ (long.0 ∙ c.loop-l.invariant.labels);
      owners = ap (λ (x : Found). length x.owners) is ∙ (long.1 ∙ c.loop-l.invariant.owners);
    }
