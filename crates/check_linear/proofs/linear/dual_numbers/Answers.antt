use Rattle.std.proofs.Common.{◌≡◌, ℕ, ◌+◌, ◌++◌, List, ℤ, length, get_or, take, drop, subst, sym, arith, pos}
use mir.Syntax.{w128}
use mir.Val.{SFits}
use Rattle.std.proofs.lemmas.Int.{to_z-of_z}
use Rattle.exact_rows.proofs.Wides.{fits_in_range}
use Rattle.lk_model.specs.Documents.Documents.{duals_at}
use Rattle.check_linear.specs.Linear.{AreNumbers, AddsNumbers}
use Rattle.lk_model.specs.declared.document.Dual.{Dual}
use Rattle.check_linear.proofs.DualChecks.{dual_within}
use Rattle.kernel_laws.proofs.Overwritten.{whole}
use Rattle.check_linear.proofs.Numbers.{dual_added}
use Rattle.check_linear.proofs.linear.dual_numbers.Goals as goal

-- what stands where there is no dual
abbrev no_dual : Dual
no_dual = record { pos = 0; y = pos 0 }

pub clause-requires-clause-first : goal.clause-requires-clause-first
clause-requires-clause-first c = (dual_within (length c.args.f.now.clauses) c.args.dual.now c.loop-i.i no_dual c.requires c.loop-i-test.true).first

pub clause-requires-clause-last : goal.clause-requires-clause-last
clause-requires-clause-last c = (dual_within (length c.args.f.now.clauses) c.args.dual.now c.loop-i.i no_dual c.requires c.loop-i-test.true).last

pub loop-i-preserved : goal.loop-i-preserved
loop-i-preserved c =
    let F = c.args.f.now in
    let dual = c.args.dual.now in
    let i = c.loop-i.i in
    let line : Dual = get_or dual i no_dual in
    let before = c.loop-i.table.items in
    let after = c.add_numbers.new.table in
    let fits : SFits w128 line.y = fits_in_range line.y (dual_within (length F.clauses) dual i no_dual c.requires c.loop-i-test.true).range in
    let added : AddsNumbers F.vars line.y c.clause.result.now before after = subst (λ (n : ℕ). AddsNumbers n line.y c.clause.result.now before after) c.vars-in-loop-i.ensures.value
    (subst (λ (table : List (List ℤ)). AddsNumbers c.vars-in-loop-i.result line.y c.clause.result.now table after) c.deref_mut.ensures.value (simp to_z-of_z at c.in_ok-add_numbers.ensures)) in
    let all : take c.loop-i.table.len (after ++ drop (length after) before) ≡ after = whole c.loop-i.table.len after before (omega (arith, added.size, c.loop-i.table.ok.0)) (omega (arith, added.size)) in
    subst (λ (table : List (List ℤ)). AreNumbers F (duals_at (take (i + 1) dual)) table) (sym all)
    (dual_added F dual i no_dual before after c.clause.result.now c.loop-i-test.true c.clause.ensures.value added c.loop-i.invariant)
