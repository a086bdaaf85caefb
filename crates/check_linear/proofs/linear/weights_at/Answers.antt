use Rattle.std.proofs.Common.{◌∙◌, ◌+◌, ◌++◌, ◌∷◌, [], drop, sym, ap, append_assoc, append-nil, List, ℤ}
use Rattle.std.proofs.lemmas.List.{drop_all}
use Rattle.check_tables.proofs.LiteralSetLemmas.{item_literal}
use Rattle.check_linear.specs.Linear.{weights_at}
use Rattle.check_linear.proofs.StageBalances.{weights_next}
use Rattle.check_linear.proofs.linear.weights_at.Goals as goal

pub loop-l-preserved : goal.loop-l-preserved
loop-l-preserved c =
    let k = c.args.stage in
    let places = c.args.firsts.now.places.items in
    let weights = c.args.firsts.now.weights.items in
    let clause = c.args.clause.now in
    let i = c.loop-l.l-index in
    let l = c.l-item.result in
    let before = c.loop-l.numbers.items in
    let left = weights_at k places weights (drop (i + 1) clause) in
    ap (λ (xs : List ℤ). xs ++ left) c.in_ok-push_weight.ensures
    ∙ append_assoc before (weights_at k places weights (l ∷ [])) left
    ∙ ap (λ (xs : List ℤ). before ++ xs) (sym (weights_next k places weights clause i l c.loop-l-test.true c.l-item.is))
    ∙ c.loop-l.invariant

pub push_weight-requires-clause-literal : goal.push_weight-requires-clause-literal
push_weight-requires-clause-literal c = item_literal c.args.n c.args.clause.now c.loop-l.l-index c.l-item.result c.requires.clause c.loop-l-test.true c.l-item.is

pub loop-l-init : goal.loop-l-init
loop-l-init c = ap (λ (xs : List ℤ). xs ++ weights_at c.args.stage c.args.firsts.now.places.items c.args.firsts.now.weights.items c.args.clause.now) c.new-numbers.ensures.items

pub returns : goal.returns
returns c =
    let numbers = c.loop-l.numbers.items in
    let left = weights_at c.args.stage c.args.firsts.now.places.items c.args.firsts.now.weights.items in
    sym (append-nil numbers) ∙ ap (λ (ls : List ℤ). numbers ++ left ls) (sym (drop_all c.loop-l.l-index c.args.clause.now c.loop-l-test.false)) ∙ c.loop-l.invariant
