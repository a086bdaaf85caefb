use Rattle.std.proofs.Common.{◌+◌, ◌∙◌, refl, sym, rules, arith, length}
use borrow.Author.Tests.{tests}
use Rattle.std.proofs.lemmas.Iterator.{YieldsList-from_range}
use Rattle.std.proofs.lemmas.Iterator.Adapters.{option_map_id}
use Rattle.std.proofs.lemmas.Iterator.Search.{find_from_yields_List}
use Rattle.lk_model.specs.Formulas.Formula.{clause_at}
use Rattle.lk_model.specs.Held.PartialValues.{assignment_by}
use Rattle.check_tables.specs.Flags.{is_flagged}
use Rattle.check_places.specs.Places.{is_misplaced}
use Rattle.lean_checker.proofs.Removals.{misplaced_found}
use Rattle.lean_checker.proofs.common.not_exactly_removed.Goals as goal

-- what is found is the first position that is misplaced by the flags
pub returns : goal.returns
returns c =
    let φ = assignment_by c.args.values.now in
    let F = c.args.f.now in
    let flags = c.args.flags.now in
    let places = YieldsList-from_range {s = record { start = 1; end = c.len.result + 1 }} 1 _ (length F.clauses) refl (omega arith) in
    let first = find_from_yields_List (λ p. is_misplaced φ (is_flagged flags p) (clause_at F p)) _ _ c.find.result c.find.ensures.ran places (λ x b q k. search (rules, tests)) in
    sym (option_map_id c.find.result) ∙ first ∙ misplaced_found F c.args.d.now φ flags c.requires.values c.requires.flags
