use Rattle.std.proofs.Common.{◌≡◌, ◌∙◌, ℕ, ◌+◌, ◌-◌, ◌<◌, length, drop, get_or, ap, subst, arith, None}
use Rattle.lk_model.specs.Formulas.Formula.{clause_at}
use Rattle.lk_model.specs.declared.document.Own.{Own}
use Rattle.kernel_laws.specs.FirstTables.{IsFirstTable}
use Rattle.kernel_laws.proofs.FirstTables.{first_more}
use Rattle.matching_laws.specs.MatchingResults.{literal_on}
use Rattle.matching_kernel.proofs.OwnLiterals.{own_placed}
use Rattle.matching_kernel.proofs.set_line.own_literals.Goals as goal

-- what stands where there is no line
abbrev no_line : Own
no_line = record { pos = 0; var = 0 }

pub clause-requires-clause-first : goal.clause-requires-clause-first
clause-requires-clause-first c =
    let inside : c.loop-i.i - 1 < length c.args.own.now = omega arith in
    (own_placed c.args.f.now c.args.own.now (c.loop-i.i - 1) no_line c.vars.ensures.formula c.requires.own inside).pos_first

pub clause-requires-clause-last : goal.clause-requires-clause-last
clause-requires-clause-last c =
    let inside : c.loop-i.i - 1 < length c.args.own.now = omega arith in
    (own_placed c.args.f.now c.args.own.now (c.loop-i.i - 1) no_line c.vars.ensures.formula c.requires.own inside).pos_last

pub overflow_sub-line : goal.overflow_sub-line
overflow_sub-line c =
    let inside : c.loop-i.i - 1 < length c.args.own.now = omega arith in
    (own_placed c.args.f.now c.args.own.now (c.loop-i.i - 1) no_line c.vars.ensures.formula c.requires.own inside).var_first

pub index_mut-requires : goal.index_mut-requires
index_mut-requires c =
    let inside : c.loop-i.i - 1 < length c.args.own.now = omega arith in
    let line = own_placed c.args.f.now c.args.own.now (c.loop-i.i - 1) no_line c.vars.ensures.formula c.requires.own inside in
    omega (arith, line.var_first, line.var_last, c.loop-i.invariant.size_is, c.loop-i.table.ok.0)

pub loop-i-preserved : goal.loop-i-preserved
loop-i-preserved c =
    let own = c.args.own.now in
    let i = c.loop-i.i - 1 in
    let inside : i < length own = omega arith in
    let next : c.loop-i.i ≡ i + 1 = omega arith in
    let line = own_placed c.args.f.now own i no_line c.vars.ensures.formula c.requires.own inside in
    let literal = c.literal_on.ensures ∙ ap (λ ls. literal_on ls (get_or own i no_line).var) c.clause.ensures.value in
    rw literal (first_more c.args.f.now.vars (λ (o : Own). o.var) (λ (o : Own). literal_on (clause_at c.args.f.now o.pos) o.var) None None own i c.loop-i.i no_line c.loop-i.table.items next inside line.var_first line.var_last c.loop-i.invariant)

pub returns : goal.returns
returns c =
    let own = c.args.own.now in
    let none : c.loop-i.i ≡ 0 = omega arith in
    subst (λ (k : ℕ). IsFirstTable c.args.f.now.vars (λ (o : Own). o.var) (λ (o : Own). literal_on (clause_at c.args.f.now o.pos) o.var) None None (drop k own) c.loop-i.table.items) none c.loop-i.invariant
