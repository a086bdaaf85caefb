use Rattle.std.proofs.Common.{◌≡◌, ◌+◌, ◌-◌, ◌<◌, Bool, not, length, get_or, drop, subst, sym, arith, pos, Some, None}
use Rattle.std.specs.Prelude.{int_lt, slice_set}
use Rattle.std.proofs.lemmas.Int.{to_z-of_z}
use mir.Syntax.{w128}
use mir.Val.{SFits}
use Rattle.exact_rows.proofs.Wides.{fits_in_range}
use Rattle.lk_model.specs.declared.document.Dual.{Dual}
use Rattle.check_linear.specs.Linear.{AreDuals}
use Rattle.kernel_laws.proofs.FirstTables.{first_more}
use Rattle.check_linear.proofs.DualChecks.{dual_within}
use Rattle.check_linear.proofs.linear.duals_of.Goals as goal

-- what stands where there is no dual
abbrev no_dual : Dual
no_dual = record { pos = 0; y = pos 0 }

pub overflow_sub-line : goal.overflow_sub-line
overflow_sub-line c =
    let inside : c.loop-i.i - 1 < length c.args.dual.now = omega arith in
    (dual_within c.args.m c.args.dual.now (c.loop-i.i - 1) no_dual c.requires inside).first

pub index_mut-requires : goal.index_mut-requires
index_mut-requires c =
    let inside : c.loop-i.i - 1 < length c.args.dual.now = omega arith in
    let line = dual_within c.args.m c.args.dual.now (c.loop-i.i - 1) no_dual c.requires inside in
    omega (arith, line.first, line.last, c.loop-i.invariant.size_is, c.loop-i.table.ok.0)

pub loop-i-preserved : goal.loop-i-preserved
loop-i-preserved c =
    let dual = c.args.dual.now in
    let i = c.loop-i.i - 1 in
    let inside : i < length dual = omega arith in
    let next : c.loop-i.i ≡ i + 1 = omega arith in
    let y : Dual = get_or dual i no_dual in
    let line = dual_within c.args.m dual i no_dual c.requires inside in
    let fits : SFits w128 y.y = fits_in_range y.y line.range in
    let told : c.is_positive.result ≡ not (int_lt y.y (pos 1)) = simp to_z-of_z at c.is_positive.ensures in
    subst (λ (b : Bool). AreDuals c.args.m (drop i dual) (slice_set c.loop-i.table.items (y.pos - 1) (Some b))) (sym told)
    (first_more c.args.m (λ (z : Dual). z.pos) (λ (z : Dual). Some (not (int_lt z.y (pos 1)))) None None dual i c.loop-i.i no_dual c.loop-i.table.items next inside line.first line.last c.loop-i.invariant)
