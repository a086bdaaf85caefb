use Rattle.std.proofs.Common.{ap, arith}
use Rattle.std.proofs.lemmas.Grind.{common_steps}
use Rattle.lk_model.proofs.Ranks.{literal_bounds}
use Rattle.watch_prop.specs.Trail.{Path}
use Rattle.watch_prop.proofs.trail.Trail.place.Goals as goal

pub overflow_cast-result : goal.overflow_cast-result
overflow_cast-result c =
    let bounds = literal_bounds c.args.self.now.vars c.args.l c.requires in
    let vars = ap (λ (p : Path). p.vars) c.self.view_is in
    grind (arith, common_steps, bounds, vars, c.self.invariant.vars)

pub overflow_add-result : goal.overflow_add-result
overflow_add-result c =
    let bounds = literal_bounds c.args.self.now.vars c.args.l c.requires in
    let vars = ap (λ (p : Path). p.vars) c.self.view_is in
    grind (arith, common_steps, bounds, vars, c.self.invariant.vars)

pub overflow_cast-result-2 : goal.overflow_cast-result-2
overflow_cast-result-2 c =
    let bounds = literal_bounds c.args.self.now.vars c.args.l c.requires in
    let vars = ap (λ (p : Path). p.vars) c.self.view_is in
    grind (arith, common_steps, bounds, vars, c.self.invariant.vars)

pub returns : goal.returns
returns c =
    let bounds = literal_bounds c.args.self.now.vars c.args.l c.requires in
    let vars = ap (λ (p : Path). p.vars) c.self.view_is in
    grind (arith, common_steps, bounds, vars, c.self.invariant.vars)
