use Rattle.std.proofs.Common.{◌≡◌, ◌∙◌, ◌<◌, sym, ap, length, get_or, take, arith, not}
use Rattle.std.specs.Prelude.{find}
use Rattle.std.proofs.lemmas.List.{take_all}
use Rattle.lk_model.specs.Formulas.Formula.{clause_at}
use Rattle.lk_model.proofs.Rising.{rising_bounds}
use Rattle.lk_model.proofs.Founds.{find-here, find-none_more}
use Rattle.check_answers.proofs.CoreClauses.{is_changed, changed_at, core_clause_is}
use Rattle.check_answers.proofs.clauses.changed_clause.Goals as goal

pub clause-requires-in-loop-i-clause-first : goal.clause-requires-in-loop-i-clause-first
clause-requires-in-loop-i-clause-first c =
    let inside : c.loop-i.i < length c.args.a.now.core = omega (arith, c.loop-i-test.true, c.len-i-end.ensures.value, c.requires.lines) in
    rw c.as_slice-core.ensures (rising_bounds 0 (length c.args.f.now.clauses) c.args.a.now.core c.loop-i.i c.requires.positions inside).0

pub clause-requires-in-loop-i-clause-last : goal.clause-requires-in-loop-i-clause-last
clause-requires-in-loop-i-clause-last c =
    let inside : c.loop-i.i < length c.args.a.now.core = omega (arith, c.loop-i-test.true, c.len-i-end.ensures.value, c.requires.lines) in
    rw c.as_slice-core.ensures (rising_bounds 0 (length c.args.f.now.clauses) c.args.a.now.core c.loop-i.i c.requires.positions inside).1

pub returns-then-not-is_same_list : goal.returns-then-not-is_same_list
returns-then-not-is_same_list c =
    let F = c.args.f.now in
    let a = c.args.a.now in
    let i = c.loop-i.i in
    let inside : i < length a.core = omega (arith, c.loop-i-test.true, c.len-i-end.ensures.value, c.requires.lines) in
    let clause = c.clause-in-loop-i.ensures.value ∙ ap (λ (ps : _). clause_at F (get_or ps i 0)) c.as_slice-core.ensures in
    let changed = changed_at F a i _ _ _ c.requires.positions c.requires.lines inside c.clause.ensures.value clause c.is_same_list.ensures in
    rw c.as_slice-core.ensures (find-here (is_changed F a) a.core i 0 inside c.loop-i.invariant (changed ∙ ap not c.if-not-is_same_list.true) ∙ sym (core_clause_is F a))

pub loop-i-preserved : goal.loop-i-preserved
loop-i-preserved c =
    let F = c.args.f.now in
    let a = c.args.a.now in
    let i = c.loop-i.i in
    let inside : i < length a.core = omega (arith, c.loop-i-test.true, c.len-i-end.ensures.value, c.requires.lines) in
    let clause = c.clause-in-loop-i.ensures.value ∙ ap (λ (ps : _). clause_at F (get_or ps i 0)) c.as_slice-core.ensures in
    let changed = changed_at F a i _ _ _ c.requires.positions c.requires.lines inside c.clause.ensures.value clause c.is_same_list.ensures in
    find-none_more (is_changed F a) a.core i 0 inside c.loop-i.invariant (changed ∙ ap not c.if-not-is_same_list.false)

pub returns : goal.returns
returns c =
    let F = c.args.f.now in
    let a = c.args.a.now in
    let all : take c.loop-i.i a.core ≡ a.core = take_all c.loop-i.i a.core (omega (arith, c.loop-i-test.false, c.len-i-end.ensures.value, c.requires.lines)) in
    sym (core_clause_is F a ∙ ap (find (is_changed F a)) (sym all) ∙ c.loop-i.invariant)
