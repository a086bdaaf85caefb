use Rattle.std.proofs.Common.{◌∙◌, ℕ, length, ap, sym, rules}
use borrow.Author.Tests.{tests}
use Rattle.std.specs.Prelude.{find, nat_le}
use Rattle.lk_model.specs.Lists.{up_to}
use Rattle.lk_model.specs.Formulas.Formula.{clause_at}
use Rattle.check_pure_matching.specs.Order.{broken_place}
use Rattle.check_pure_matching.proofs.OrderPlaces.{none_broken}
use Rattle.check_pure_matching.proofs.order.broken_by_any.Goals as goal

pub returns : goal.returns
returns g c =
    let F = c.args.f.now in
    let order = c.args.order.now in
    let found = c.in_ok-least_place.ensures (λ p. nat_le (broken_place order (clause_at F p)) (length order)) (λ p b low high told. search (rules, tests)) in
    sym (none_broken F order (ap (λ (m : ℕ). find (λ p. nat_le (broken_place order (clause_at F p)) (length order)) (up_to m)) (sym c.len.ensures.value) ∙ sym found ∙ c.in-None.is))
