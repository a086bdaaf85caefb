use Rattle.std.proofs.Common.{◌≡◌, length, sym, ◌∙◌, subst, arith}
use Rattle.std.proofs.lemmas.List.{take_at}
use Rattle.exact_rows.specs.Made.{AreInRange}
use Rattle.exact_pivot.specs.Small.{cost_of}
use Rattle.exact_pivot.proofs.Costs.{cost_in_range}
use Rattle.exact_pivot.proofs.start.start_cost.Goals as goal

pub of-requires : goal.of-requires
of-requires c =
    let m = c.args.m in
    let rows = c.args.rows.now in
    let size : length c.write_cost.new.cost ≡ c.in_ok-cost.cost.len = omega (arith, c.write_cost.auto.cost, c.deref_mut.ensures.len) in
    let is : c.deref.result.now ≡ cost_of m rows = c.deref.ensures.value ∙ take_at _ _ _ size ∙ c.write_cost.ensures in
    subst AreInRange (sym is) (cost_in_range m rows c.requires.small (omega (arith, c.requires.size)))

pub returns : goal.returns
returns c =
    let size : length c.write_cost.new.cost ≡ c.in_ok-cost.cost.len = omega (arith, c.write_cost.auto.cost, c.deref_mut.ensures.len) in
    c.of-2.ensures ∙ c.in_ok-of.ensures ∙ c.deref.ensures.value ∙ take_at _ _ _ size ∙ c.write_cost.ensures
