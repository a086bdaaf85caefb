use Rattle.std.proofs.Common.{◌≡◌, ◌∙◌, List, ℕ, ap, subst, arith}
use Rattle.std.proofs.lemmas.List.{take_all}
use Rattle.lk_model.proofs.Rising.{rising_bounds}
use Rattle.dense_copy.specs.Names.{AreInOrder, variables_of}
use Rattle.dense_copy.proofs.Naming.{names_from}
use Rattle.dense_copy.proofs.names.names_of.Goals as goal

pub clause-requires-clause-first : goal.clause-requires-clause-first
clause-requires-clause-first c = (rising_bounds 0 _ _ c.loop-position.position-index c.requires.part c.loop-position-test.true).0

pub clause-requires-clause-last : goal.clause-requires-clause-last
clause-requires-clause-last c = (rising_bounds 0 _ _ c.loop-position.position-index c.requires.part c.loop-position-test.true).1

pub returns : goal.returns
returns c =
    let F = c.args.f.now in
    let part = c.args.part.now in
    let done = c.loop-position-test.false in
    let all : c.loop-position.names.items ≡ variables_of F part =
    c.loop-position.invariant ∙ ap (variables_of F) (take_all c.loop-position.position-index part (omega (arith, done))) in
    names_from F part c.in_order.result.items c.requires.formula (subst (λ (vs : List ℕ). AreInOrder vs c.in_order.result.items) all c.in_order.ensures)
