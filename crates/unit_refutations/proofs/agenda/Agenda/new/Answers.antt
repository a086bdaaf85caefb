use Rattle.std.proofs.Common.{rules, ◌≡◌, ◌∙◌, ◌+◌, ◌||◌, ℕ, replicate, Bool, false, List, [], length, sym, ap, arith, take}
use Rattle.std.proofs.lemmas.List.{length-replicate, length-set, take_all}
use Rattle.lk_model.specs.Lists.{among}
use Rattle.lk_model.specs.Held.VariableSets.{is_in}
use Rattle.lk_model.proofs.Rising.{rising_bounds}
use Rattle.lk_model.proofs.VariableLists.{none_in, in_more}
use Rattle.unit_refutations.proofs.agenda.Agenda.new.Goals as goal

pub loop-position-init : goal.loop-position-init
loop-position-init c =
    let e : c.in_ok-vec.field-0.items ≡ replicate c.len-clauses.result false = search rules in
    record {
      size = ap (λ (x : List Bool). length x) e ∙ length-replicate _ false ∙ c.len-clauses.ensures.value;
      inside = λ p. ap (λ (x : List Bool). is_in x p) e ∙ none_in _ p;
    }

pub clause-requires-clause-first : goal.clause-requires-clause-first
clause-requires-clause-first c = (rising_bounds 0 _ _ c.loop-position.position-index c.requires c.loop-position-test.true).0

pub clause-requires-clause-last : goal.clause-requires-clause-last
clause-requires-clause-last c = (rising_bounds 0 _ _ c.loop-position.position-index c.requires c.loop-position-test.true).1

pub add-requires-clause-first : goal.add-requires-clause-first
add-requires-clause-first c = (rising_bounds 0 _ _ c.loop-position.position-index c.requires c.loop-position-test.true).0

pub add-requires-clause-last : goal.add-requires-clause-last
add-requires-clause-last c =
    let most = (rising_bounds 0 _ _ c.loop-position.position-index c.requires c.loop-position-test.true).1 in
    let size = c.loop-position.invariant.size in
    omega (arith, most, size)

pub loop-position-preserved : goal.loop-position-preserved
loop-position-preserved c =
    let bounds = rising_bounds 0 _ _ c.loop-position.position-index c.requires c.loop-position-test.true in
    let most = bounds.1 in
    let size = c.loop-position.invariant.size in
    let part = c.args.part.now in
    let i = c.loop-position.position-index in
    record {
      size = ap (λ (x : List Bool). length x) c.in_ok-add.ensures ∙ length-set c.loop-position.agenda.inside _ _ ∙ size;
      inside = λ p. ap (λ (x : List Bool). is_in x p) c.in_ok-add.ensures
          ∙ in_more [] c.loop-position.agenda.inside part i p c.loop-position-test.true bounds.0 (omega (arith, most, size))
          (c.loop-position.invariant.inside p ∙ sym (ap (λ (b : Bool). b || among (take i part) p) (none_in 0 p)))
          ∙ ap (λ (b : Bool). b || among (take (i + 1) part) p) (none_in 0 p);
    }

pub returns-clause-inside : goal.returns-clause-inside
returns-clause-inside c = λ p. c.loop-position.invariant.inside p ∙ ap (λ (ps : List ℕ). among ps p) (take_all c.loop-position.position-index c.args.part.now c.loop-position-test.false)
