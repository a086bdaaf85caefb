use Rattle.std.proofs.Common.{◌≡◌, ℕ, ◌+◌, ◌++◌, List, ℤ, length, get_or, take, drop, subst, sym, arith, pos}
use mir.Syntax.{w128}
use mir.Val.{SFits}
use Rattle.std.proofs.lemmas.Int.{to_z-of_z}
use Rattle.exact_rows.proofs.Wides.{fits_in_range}
use Rattle.lk_model.specs.declared.document.Share.{Share}
use Rattle.check_linear.specs.Linear.{AreNumbers, AddsNumbers, numbers_by}
use Rattle.kernel_laws.proofs.Overwritten.{whole}
use Rattle.check_linear.proofs.UnitChecks.{share_bounds, share_range, share_added}
use Rattle.check_linear.proofs.units.fill.Goals as goal

-- what stands where there is no share
abbrev no_share : Share
no_share = record { pos = 0; z = pos 0 }

pub clause-requires-clause-first : goal.clause-requires-clause-first
clause-requires-clause-first c = (share_bounds (length c.args.f.now.clauses) c.args.shares.now c.loop-i.i no_share c.requires.rising c.loop-i-test.true).0

pub clause-requires-clause-last : goal.clause-requires-clause-last
clause-requires-clause-last c = (share_bounds (length c.args.f.now.clauses) c.args.shares.now c.loop-i.i no_share c.requires.rising c.loop-i-test.true).1

pub loop-i-preserved : goal.loop-i-preserved
loop-i-preserved c =
    let F = c.args.f.now in
    let shares = c.args.shares.now in
    let i = c.loop-i.i in
    let share : Share = get_or shares i no_share in
    let before = c.loop-i.numbers.items in
    let after = c.add_numbers.new.table in
    let fits : SFits w128 share.z = fits_in_range share.z (share_range shares i no_share c.requires.weights c.loop-i-test.true) in
    let added : AddsNumbers F.vars share.z c.clause.result.now before after = subst (λ (n : ℕ). AddsNumbers n share.z c.clause.result.now before after) c.vars-n.ensures.value
    (subst (λ (table : List (List ℤ)). AddsNumbers c.vars-n.result share.z c.clause.result.now table after) c.deref_mut.ensures.value (simp to_z-of_z at c.in_ok-add_numbers.ensures)) in
    let all : take c.loop-i.numbers.len (after ++ drop (length after) before) ≡ after = whole c.loop-i.numbers.len after before (omega (arith, added.size, c.loop-i.numbers.ok.0)) (omega (arith, added.size)) in
    subst (λ (table : List (List ℤ)). AreNumbers F (numbers_by (take (i + 1) shares)) table) (sym all)
    (share_added F shares i no_share before after c.clause.result.now c.loop-i-test.true c.clause.ensures.value added c.loop-i.invariant)
