use Rattle.std.proofs.Common.{◌≡◌, ◌∙◌, ◌+◌, ◌≤◌, List, ℕ, ℤ, subst, sym, arith, length, map, get_or, true}
use Rattle.std.specs.List.{list_all}
use Rattle.lk_model.specs.Formulas.Literal.{is_literal}
use Rattle.renaming_laws.specs.Renaming.{named}
use Rattle.lk_model.specs.Limits.{max_vars}
use Rattle.lk_model.specs.Formulas.Formula.{Cnf, clause_at}
use Rattle.lk_model.proofs.Lists.{among_at}
use Rattle.lk_model.proofs.Rising.{rising_bounds, rising_count, rises_to}
use Rattle.general_laws.specs.Found.{has_only}
use Rattle.lk_model.specs.Lists.{among}
use Rattle.dense_copy.specs.Names.{AreNames}
use Rattle.dense_copy.proofs.Copying.{IsCopied, IsNext, next_clause, copied_more, few_copied, few_literals_copied, dense, named_variables}
use Rattle.dense_copy.proofs.dense.dense_formula.Goals as goal

-- there are no more names than variables
few_names : (F : Cnf) (part names : List ℕ) → AreNames F part names → length names ≤ F.vars
few_names F part names are = (let count = rising_count 0 F.vars names are.ascend (omega arith) in omega (arith, count))

pub overflow_cast-names : goal.overflow_cast-names
overflow_cast-names c = omega (arith, few_names c.args.f.now c.args.part.now c.args.names.now c.requires.names, c.requires.limits.vars)

pub over_variables-requires : goal.over_variables-requires
over_variables-requires c = omega (arith, few_names c.args.f.now c.args.part.now c.args.names.now c.requires.names, c.requires.limits.vars)

pub clause-requires-clause-first : goal.clause-requires-clause-first
clause-requires-clause-first c = (rising_bounds 0 _ _ c.loop-position.position-index c.requires.part c.loop-position-test.true).0

pub clause-requires-clause-last : goal.clause-requires-clause-last
clause-requires-clause-last c = (rising_bounds 0 _ _ c.loop-position.position-index c.requires.part c.loop-position-test.true).1

pub push_dense-requires-clause-ascend : goal.push_dense-requires-clause-ascend
push_dense-requires-clause-ascend c = rises_to 0 c.args.f.now.vars max_vars c.args.names.now c.requires.limits.vars c.requires.names.ascend

pub push_dense-requires-clause-names : goal.push_dense-requires-clause-names
push_dense-requires-clause-names c =
    let F = c.args.f.now in
    let part = c.args.part.now in
    let names = c.args.names.now in
    let i = c.loop-position.position-index in
    subst (λ (ls : List ℤ). has_only (among names) ls ≡ true) (sym c.clause.ensures.value)
    (named_variables F part names (get_or part i 0) c.requires.names (among_at part i c.loop-position-test.true))

-- the clause for the next position
next : (F : Cnf) (names : List ℕ) (p : ℕ) (clause items given : List ℤ) → clause ≡ clause_at F p → list_all (is_literal (length names)) items ≡ true
    → map (named names) items ≡ clause → given ≡ items → IsNext F names p given
next F names p clause items given here literals same is = subst (λ (ls : List ℤ). IsNext F names p ls) (sym is) (record { literals = literals; clause = same ∙ here })

pub push_within-requires-clause-clause : goal.push_within-requires-clause-clause
push_within-requires-clause-clause c =
    let F = c.args.f.now in
    let part = c.args.part.now in
    let names = c.args.names.now in
    let i = c.loop-position.position-index in
    let e = c.in_ok-push_dense.ensures in
    next_clause F part names i c.loop-position.dense (get_or part i 0) c.deref.result.now c.requires.formula c.loop-position.invariant
    (next F names (get_or part i 0) c.clause.result.now c.push_dense.new.dense.items c.deref.result.now c.clause.ensures.value e.literals e.clause c.deref.ensures.value)

pub push_within-requires-clause-clauses : goal.push_within-requires-clause-clauses
push_within-requires-clause-clauses c =
    let few = few_copied c.args.f.now c.args.part.now c.args.names.now c.loop-position.position-index c.loop-position.dense c.requires.part c.loop-position-test.true c.loop-position.invariant in
    omega (arith, few, c.requires.limits.clauses)

pub push_within-requires-clause-literals : goal.push_within-requires-clause-literals
push_within-requires-clause-literals c =
    let F = c.args.f.now in
    let part = c.args.part.now in
    let names = c.args.names.now in
    let i = c.loop-position.position-index in
    let e = c.in_ok-push_dense.ensures in
    let few = few_literals_copied F part names i c.loop-position.dense c.deref.result.now c.requires.part c.loop-position-test.true c.loop-position.invariant
    (next F names (get_or part i 0) c.clause.result.now c.push_dense.new.dense.items c.deref.result.now c.clause.ensures.value e.literals e.clause c.deref.ensures.value) in
    omega (arith, few, c.requires.limits.literals)

pub loop-position-preserved : goal.loop-position-preserved
loop-position-preserved c =
    let F = c.args.f.now in
    let part = c.args.part.now in
    let names = c.args.names.now in
    let i = c.loop-position.position-index in
    let e = c.in_ok-push_dense.ensures in
    subst (λ (G : Cnf). IsCopied F part names (i + 1) G) (sym c.in_ok-push_within.ensures.ok)
    (copied_more F part names i c.loop-position.dense c.deref.result.now c.requires.formula c.loop-position-test.true c.loop-position.invariant
    (next F names (get_or part i 0) c.clause.result.now c.push_dense.new.dense.items c.deref.result.now c.clause.ensures.value e.literals e.clause c.deref.ensures.value))

pub returns : goal.returns
returns c =
    dense c.args.f.now c.args.part.now c.args.names.now c.loop-position.position-index c.loop-position.dense c.loop-position-test.false c.requires.names c.loop-position.invariant
