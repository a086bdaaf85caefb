use Rattle.std.proofs.Common.{◌-◌, ◌<◌, get_or, arith, sym, ◌∙◌, ap, subst}
use Rattle.bipartite_match.specs.Pairing.{Pairing, pairing_of, with_pair}
use Rattle.matching_layers.specs.Found.{found_of}
use Rattle.bipartite_match.proofs.Numbers.{read_at, within}
use Rattle.bipartite_match.proofs.AugmentedWalks.{WalkState, walk_starts, walk_goes, walk_falls, walk_ready, layer_left}
use Rattle.bipartite_match.proofs.mates.Mates.augment_walk.Goals as goal

pub back-init : goal.back-init
back-init c = λ F part w. walk_starts F part (pairing_of c.args.self.now) (found_of c.args.search.now) w

pub index-requires : goal.index-requires
index-requires c =
    let state = c.back.invariant c.requires.0 c.requires.1 c.requires.2 in
    let lt = within c.args.search.now.escape.items (c.back.v - 1) (state.going c.back-test.true).reached in
    omega (arith, lt, c.args.search.now.escape.ok)

pub overflow_sub-index : goal.overflow_sub-index
overflow_sub-index c =
    let state = c.back.invariant c.requires.0 c.requires.1 c.requires.2 in
    let some = (state.going c.back-test.true).reached in
    let e = read_at c.args.search.now.escape.items (c.back.v - 1) c.index.result.now (within c.args.search.now.escape.items (c.back.v - 1) some) c.index.ensures in
    omega (arith, some, e)

pub take-v-requires-clause-index : goal.take-v-requires-clause-index
take-v-requires-clause-index c =
    let state = c.back.invariant c.requires.0 c.requires.1 c.requires.2 in
    let e = read_at c.args.search.now.escape.items (c.back.v - 1) c.index.result.now
    (within c.args.search.now.escape.items (c.back.v - 1) (state.going c.back-test.true).reached) c.index.ensures in
    let r = (walk_ready c.requires.0 c.requires.1 (pairing_of c.args.self.now) (found_of c.args.search.now) (pairing_of c.back.self) c.back.v c.requires.2 c.back-test.true state).index in
    omega (arith, r, e)

pub take-v-requires-clause-few : goal.take-v-requires-clause-few
take-v-requires-clause-few c =
    let state = c.back.invariant c.requires.0 c.requires.1 c.requires.2 in
    let e = read_at c.args.search.now.escape.items (c.back.v - 1) c.index.result.now
    (within c.args.search.now.escape.items (c.back.v - 1) (state.going c.back-test.true).reached) c.index.ensures in
    let r = (walk_ready c.requires.0 c.requires.1 (pairing_of c.args.self.now) (found_of c.args.search.now) (pairing_of c.back.self) c.back.v c.requires.2 c.back-test.true state).few in
    omega (arith, r, e)

pub take-v-requires-clause-variable : goal.take-v-requires-clause-variable
take-v-requires-clause-variable c =
    (walk_ready c.requires.0 c.requires.1 (pairing_of c.args.self.now) (found_of c.args.search.now) (pairing_of c.back.self) c.back.v c.requires.2 c.back-test.true
    (c.back.invariant c.requires.0 c.requires.1 c.requires.2)).variable

pub take-v-requires-clause-old : goal.take-v-requires-clause-old
take-v-requires-clause-old c =
    let state = c.back.invariant c.requires.0 c.requires.1 c.requires.2 in
    let e = read_at c.args.search.now.escape.items (c.back.v - 1) c.index.result.now
    (within c.args.search.now.escape.items (c.back.v - 1) (state.going c.back-test.true).reached) c.index.ensures in
    let r = (walk_ready c.requires.0 c.requires.1 (pairing_of c.args.self.now) (found_of c.args.search.now) (pairing_of c.back.self) c.back.v c.requires.2 c.back-test.true state).old in
    omega (arith, r, ap (λ k. get_or c.back.self.of_clause.items (k - 1) 0) e)

pub back-smaller : goal.back-smaller
back-smaller c =
    let s = found_of c.args.search.now in
    let now = pairing_of c.back.self in
    let state = c.back.invariant c.requires.0 c.requires.1 c.requires.2 in
    let e = read_at c.args.search.now.escape.items (c.back.v - 1) c.index.result.now
    (within c.args.search.now.escape.items (c.back.v - 1) (state.going c.back-test.true).reached) c.index.ensures in
    subst (λ x. layer_left s x < layer_left s c.back.v) (sym (c.take-v.ensures.value ∙ ap (λ k. get_or c.back.self.of_clause.items (k - 1) 0) e))
    (walk_falls c.requires.0 c.requires.1 (pairing_of c.args.self.now) s now c.back.v c.requires.2 c.back-test.true state)

pub back-preserved : goal.back-preserved
back-preserved c = λ F part w.
    let s = found_of c.args.search.now in
    let now = pairing_of c.back.self in
    let first = c.back.invariant c.requires.0 c.requires.1 c.requires.2 in
    let e = read_at c.args.search.now.escape.items (c.back.v - 1) c.index.result.now
    (within c.args.search.now.escape.items (c.back.v - 1) (first.going c.back-test.true).reached) c.index.ensures in
    let v = c.take-v.ensures.value ∙ ap (λ k. get_or c.back.self.of_clause.items (k - 1) 0) e in
    let m = c.take-v.ensures.pairs ∙ ap (λ k. with_pair now (k - 1) c.back.v) e in
    subst (λ x. WalkState F part (pairing_of c.args.self.now) s (pairing_of c.take-v.new.self) x) (sym v)
    (subst (λ (x : Pairing). WalkState F part (pairing_of c.args.self.now) s x (get_or now.of_clause (get_or s.escape (c.back.v - 1) 0 - 1) 0)) (sym m)
    (walk_goes F part (pairing_of c.args.self.now) s now c.back.v w c.back-test.true (c.back.invariant F part w)))

pub returns : goal.returns
returns c = λ F part w. (c.back.invariant F part w).done c.back-test.false
