use Rattle.std.proofs.Common.{◌≡◌, ◌∙◌, ◌<◌, ℕ, Bool, sym, ap, length, take, arith, ◌||◌, ◌==◌}
use Rattle.std.specs.List.{list_all, list_any}
use Rattle.std.proofs.lemmas.List.{take_all}
use Rattle.lk_model.specs.Formulas.Formula.{clause_at}
use Rattle.lk_model.proofs.Rising.{rising_bounds}
use Rattle.check_tables.specs.LiteralSets.{has_literal}
use Rattle.check_answers.proofs.CoreWitnesses.{all_next, one_fails}
use Rattle.check_answers.proofs.witnesses.satisfies_each.Goals as goal

pub is_satisfied-requires-clause-first : goal.is_satisfied-requires-clause-first
is_satisfied-requires-clause-first c =
    let inside : c.loop-k.k < length c.args.core.now = omega (arith, c.loop-k-test.true) in
    (rising_bounds 0 (length c.args.f.now.clauses) c.args.core.now c.loop-k.k c.requires.positions inside).0

pub is_satisfied-requires-clause-last : goal.is_satisfied-requires-clause-last
is_satisfied-requires-clause-last c =
    let inside : c.loop-k.k < length c.args.core.now = omega (arith, c.loop-k-test.true) in
    (rising_bounds 0 (length c.args.f.now.clauses) c.args.core.now c.loop-k.k c.requires.positions inside).1

pub returns-then-not-is_satisfied : goal.returns-then-not-is_satisfied
returns-then-not-is_satisfied c =
    let inside : c.loop-k.k < length c.args.core.now = omega (arith, c.loop-k-test.true) in
    one_fails (λ q. q == c.args.own || list_any (has_literal c.args.set.now) (clause_at c.args.f.now q)) c.args.core.now c.loop-k.k inside (sym c.is_satisfied.ensures ∙ c.if-not-is_satisfied.true)

pub loop-k-preserved : goal.loop-k-preserved
loop-k-preserved c =
    let inside : c.loop-k.k < length c.args.core.now = omega (arith, c.loop-k-test.true) in
    all_next (λ q. q == c.args.own || list_any (has_literal c.args.set.now) (clause_at c.args.f.now q)) c.args.core.now c.loop-k.k inside c.loop-k.invariant
    (sym c.is_satisfied.ensures ∙ c.if-not-is_satisfied.false)

pub returns : goal.returns
returns c =
    let t : ℕ → Bool = λ q. q == c.args.own || list_any (has_literal c.args.set.now) (clause_at c.args.f.now q) in
    let all : take c.loop-k.k c.args.core.now ≡ c.args.core.now = take_all c.loop-k.k c.args.core.now (omega (arith, c.loop-k-test.false)) in
    sym (ap (list_all t) (sym all) ∙ c.loop-k.invariant)
