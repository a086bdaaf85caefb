use Rattle.std.proofs.Common.{◌≡◌, ◌∙◌, ◌<◌, ◌-◌, ◌∷◌, ◌++◌, ◌||◌, List, ℤ, [], neg_ℤ, length, sym, subst, arith, rules}
use Rattle.std.specs.Prelude.{slice_set}
use Rattle.std.proofs.lemmas.Int.{to_z-of_z}
use Rattle.std.proofs.lemmas.List.{get_or_read}
use mir.Syntax.{w128}
use mir.Val.{SFits}
use Rattle.exact_rows.proofs.Wides.{fits_in_range}
use Rattle.lk_model.specs.declared.document.Share.{Share}
use Rattle.check_linear.specs.Linear.{AreNone, AreNumbers, AreUnitNumbers, ClearsShares, numbers_of, numbers_by, is_unbalanced, is_unbalanced_share}
use Rattle.check_linear.proofs.UnitChecks.{unit_form, unit_told, balanced_is, line_told, none_again}
use Rattle.check_linear.proofs.units.is_bad_line.Goals as goal

pub opposite-requires : goal.opposite-requires
opposite-requires c =
    let u = c.args.unit.now in
    let form = unit_form (length c.args.f.now.clauses) u c.requires.unit in
    let fits : SFits w128 u.d = fits_in_range u.d form.range in
    simp to_z-of_z form.range

pub returns-clause-bad : goal.returns-clause-bad
returns-clause-bad c =
    let F = c.args.f.now in
    let u = c.args.unit.now in
    let occurring = c.args.occurring.now in
    let filled = c.fill.new.numbers.items in
    let numbers : AreNumbers F (numbers_by u.shares) filled = subst (λ (shares : List Share). AreNumbers F (numbers_by shares) filled) c.as_slice.ensures c.in_ok-fill.ensures.filled in
    let form = unit_form (length F.clauses) u c.requires.unit in
    let fits : SFits w128 u.d = fits_in_range u.d form.range in
    let sign : c.opposite.result ≡ neg_ℤ u.d = simp to_z-of_z at c.opposite.ensures in
    let inside : u.var - 1 < length filled = omega (arith, c.requires.first, c.requires.last, numbers.size) in
    let read : c.index_mut.result.now ≡ numbers_of filled u.var = get_or_read filled (u.var - 1) c.index_mut.result.now inside c.index_mut.ensures.value [] in
    let pushed : c.push.new.self ≡ numbers_of filled u.var ++ neg_ℤ u.d ∷ [] = (let fits_too : SFits w128 c.opposite.result = search rules in simp to_z-of_z at c.in_ok-push.ensures.ok) ∙ (λ j. read j ++ sign j ∷ []) in
    let told : AreUnitNumbers F u (slice_set filled (u.var - 1) c.push.new.self) = unit_told F u filled c.push.new.self numbers c.requires.first c.requires.last pushed in
    let table = slice_set filled (u.var - 1) c.push.new.self in
    let own : c.is_unbalanced-unbalanced.result ≡ is_unbalanced occurring table u.var =
    subst (λ (numbers : List (List ℤ)). c.is_unbalanced-unbalanced.result ≡ is_unbalanced occurring numbers u.var) c.deref.ensures.value c.is_unbalanced-unbalanced.ensures in
    let shared : c.clear_shares-unbalanced.result ≡ is_unbalanced_share F occurring table u.shares =
    subst (λ (shares : List Share). c.clear_shares-unbalanced.result ≡ is_unbalanced_share F occurring table shares) c.as_slice-2.ensures c.clear_shares-unbalanced.ensures.unbalanced in
    line_told F c.args.kept.now occurring u c.is_void.result (c.is_unbalanced-unbalanced.result || c.clear_shares-unbalanced.result) c.is_void.ensures c.if-is_void.false
    ((λ j. own j || shared j) ∙ balanced_is F occurring u table c.in_ok-fill.ensures.formula told c.requires.first c.requires.last)

pub returns-clause-none : goal.returns-clause-none
returns-clause-none c =
    let F = c.args.f.now in
    let u = c.args.unit.now in
    let filled = c.fill.new.numbers.items in
    let numbers : AreNumbers F (numbers_by u.shares) filled = subst (λ (shares : List Share). AreNumbers F (numbers_by shares) filled) c.as_slice.ensures c.in_ok-fill.ensures.filled in
    let form = unit_form (length F.clauses) u c.requires.unit in
    let fits : SFits w128 u.d = fits_in_range u.d form.range in
    let sign : c.opposite.result ≡ neg_ℤ u.d = simp to_z-of_z at c.opposite.ensures in
    let inside : u.var - 1 < length filled = omega (arith, c.requires.first, c.requires.last, numbers.size) in
    let read : c.index_mut.result.now ≡ numbers_of filled u.var = get_or_read filled (u.var - 1) c.index_mut.result.now inside c.index_mut.ensures.value [] in
    let pushed : c.push.new.self ≡ numbers_of filled u.var ++ neg_ℤ u.d ∷ [] = (let fits_too : SFits w128 c.opposite.result = search rules in simp to_z-of_z at c.in_ok-push.ensures.ok) ∙ (λ j. read j ++ sign j ∷ []) in
    let told : AreUnitNumbers F u (slice_set filled (u.var - 1) c.push.new.self) = unit_told F u filled c.push.new.self numbers c.requires.first c.requires.last pushed in
    let cleared : ClearsShares F u.shares (slice_set filled (u.var - 1) c.push.new.self) c.clear_shares-unbalanced.new.numbers.items =
    subst (λ (shares : List Share). ClearsShares F shares (slice_set filled (u.var - 1) c.push.new.self) c.clear_shares-unbalanced.new.numbers.items) c.as_slice-2.ensures c.clear_shares-unbalanced.ensures.cleared in
    subst (λ (xs : List ℤ). AreNone F.vars (slice_set c.clear_shares-unbalanced.new.numbers.items (u.var - 1) xs)) (sym c.clear.ensures)
    (none_again F u (slice_set filled (u.var - 1) c.push.new.self) c.clear_shares-unbalanced.new.numbers.items c.requires.first c.requires.last told cleared)
