use Rattle.std.proofs.Common.{rules, subst, List, ℕ}
use borrow.Author.Tests.{tests}
use Rattle.check_tables.specs.Occurring.{AreOccurring}
use Rattle.check_linear.specs.Linear.{is_unbalanced}
use Rattle.check_linear.proofs.Numbers.{balance_found}
use Rattle.check_tables.proofs.Spans.{place_told}
use Rattle.check_linear.proofs.linear.bad_balance.Goals as goal

-- what is found is the first variable out of balance by the numbers
pub returns : goal.returns
returns g c =
    let F = c.args.f.now in
    let d = c.args.d.now in
    let occurring = c.in_ok-occurring.occurring in
    let table = c.in_ok-numbers.numbers.items in
    let occurring_so = subst (λ (ps : List ℕ). AreOccurring F ps occurring) c.as_slice.ensures c.in_ok-occurring.ensures in
    place_told (is_unbalanced occurring table) c.vars-n.result F.vars c.least_place.result _ c.vars-n.ensures.value
    (balance_found F d c.args.dual.now occurring table c.vars-n.ensures.formula occurring_so c.in_ok-numbers.ensures)
    (c.least_place.ensures (is_unbalanced occurring table) (λ p b low high told. search (rules, tests)))
