use Rattle.std.proofs.Common.{◌+◌, ◌∙◌, refl, sym, rules, arith, length}
use borrow.Author.Tests.{tests}
use Rattle.std.proofs.lemmas.Iterator.{YieldsList-from_range}
use Rattle.std.proofs.lemmas.Iterator.Adapters.{option_map_id}
use Rattle.std.proofs.lemmas.Iterator.Search.{find_from_yields_List}
use Rattle.lk_model.specs.Held.PartialValues.{assignment_by}
use Rattle.lk_model.proofs.NoneLeft.{is_unsatisfied, autarky_where_none}
use Rattle.partial_assign.proofs.assignment.Partial.first_unsatisfied_touched.Goals as goal

-- what is found is the first position whose clause is touched and not satisfied
pub returns-clause-autarky : goal.returns-clause-autarky
returns-clause-autarky c =
    let φ = assignment_by c.args.self.now in
    let F = c.args.f.now in
    let r = c.find.result in
    let places = YieldsList-from_range {s = record { start = 1; end = c.len.result + 1 }} 1 _ (length F.clauses) refl (omega arith) in
    let first = find_from_yields_List (is_unsatisfied φ F) _ _ r c.find.ensures.ran places (λ x b q k. search (rules, tests)) in
    rw (sym (option_map_id r) ∙ first) (autarky_where_none φ F)
