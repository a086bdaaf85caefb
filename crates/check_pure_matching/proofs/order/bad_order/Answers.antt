use Rattle.std.proofs.Common.{◌≡◌, ◌∙◌, ◌<◌, ℤ, List, length, take, ap, sym, subst, Bool, true, false, not, arith}
use Rattle.std.proofs.lemmas.Bool.{lt-ltb}
use Rattle.std.specs.List.{list_all}
use Rattle.lk_model.specs.Formulas.Literal.{is_literal, contains}
use Rattle.check_pure_matching.specs.Order.{IsSoundCount, first_broken}
use Rattle.check_tables.proofs.LiteralSetLemmas.{all_front}
use Rattle.check_pure_matching.proofs.OrderChecks.{broken_found, unsound_found, missing_found, none_bad}
use Rattle.check_pure_matching.proofs.order.bad_order.Goals as goal
use Rattle.check_pure_matching.proofs.order.bad_order.Goals.{then-sound-order, else-sound-order+in_ok-has_all}

-- what the flag of a missing literal says of a test
is_missing : (v b a : Bool) → v ≡ not b → v ≡ true → b ≡ a → a ≡ false
is_missing v true a e h same = absurd (let f : ⊥ = cc in f)
is_missing v false a e h same = sym same

is_there : (v b a : Bool) → v ≡ not b → v ≡ false → b ≡ a → a ≡ true
is_there v true a e h same = sym same
is_there v false a e h same = absurd (let f : ⊥ = cc in f)

pub broken_by_any-requires-clause-order : goal.broken_by_any-requires-clause-order
broken_by_any-requires-clause-order g c κs within = all_front (is_literal c.args.f.now.vars) c.in_ok-sound.sound c.args.order.now c.requires.order

pub returns-then-broken-sound : goal.returns-then-broken-sound
returns-then-broken-sound g c =
    let sound = subst (λ (set : List ℤ). IsSoundCount set c.args.order.now c.in_ok-sound.sound) c.as_slice-set.ensures c.in_ok-sound.ensures in
    broken_found c.args.f.now c.args.d.now c.args.order.now c.in_ok-sound.sound c.in_ok-broken.broken sound c.in_ok-broken.ensures c.if-broken-sound.true

pub returns-then-not-branch : goal.returns-then-not-branch
returns-then-not-branch g c =
    let F = c.args.f.now in
    let d = c.args.d.now in
    let order = c.args.order.now in
    let k = c.in_ok-sound.sound in
    let sound = subst (λ (set : List ℤ). IsSoundCount set order k) c.as_slice-set.ensures c.in_ok-sound.ensures in
    let less : k < first_broken (take k order) F.clauses = omega (arith, c.if-broken-sound.false, c.in_ok-broken.ensures) in
    elim c.if-sound-order.branch [
      | then-sound-order w ↦ unsound_found F d order k sound less w.if-sound-order.true
      | else-sound-order+in_ok-has_all w ↦ missing_found F d order k sound less w.if-sound-order.false
          (is_missing _ _ _ w.value-is c.if-not-branch.true (w.in_ok-has_all.ensures ∙ ap (λ (set : List ℤ). list_all (contains order) set) c.as_slice-set.ensures))
    ]

pub returns-else-not-branch : goal.returns-else-not-branch
returns-else-not-branch g c =
    let F = c.args.f.now in
    let d = c.args.d.now in
    let order = c.args.order.now in
    let k = c.in_ok-sound.sound in
    let sound = subst (λ (set : List ℤ). IsSoundCount set order k) c.as_slice-set.ensures c.in_ok-sound.ensures in
    let less : k < first_broken (take k order) F.clauses = omega (arith, c.if-broken-sound.false, c.in_ok-broken.ensures) in
    elim c.if-sound-order.branch [
      | then-sound-order w ↦ absurd (let less_is = lt-ltb k (length order) w.if-sound-order.true in let f : ⊥ = cc (w.value-is, c.if-not-branch.false, less_is) in f)
      | else-sound-order+in_ok-has_all w ↦ none_bad F d order k sound less w.if-sound-order.false
          (is_there _ _ _ w.value-is c.if-not-branch.false (w.in_ok-has_all.ensures ∙ ap (λ (set : List ℤ). list_all (contains order) set) c.as_slice-set.ensures))
    ]
