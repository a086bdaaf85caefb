use Rattle.std.proofs.Common.{◌∙◌, ◌<◌, ◌≤◌, ap, sym, arith}
use Rattle.watch_prop.specs.Trail.{Path, up_to_level, present_level}
use Rattle.watch_prop.proofs.Paths.{back_step, back_there, same_path}
use Rattle.watch_prop.proofs.trail.Trail.retract.Goals as goal

pub entries-preserved : goal.entries-preserved
entries-preserved c =
    let inv = c.entries.invariant in
    let above : c.args.level < present_level c.entries.self.entries = omega (arith, c.level.ensures.value, c.entries-test.true) in
    record {
      vars = ap (λ (p : Path). p.vars) c.take_back.ensures ∙ inv.vars;
      entries = ap (λ (p : Path). up_to_level c.args.level p.entries) c.take_back.ensures ∙ back_step c.args.level c.entries.self.entries above ∙ inv.entries;
    }

pub returns : goal.returns
returns c =
    let inv = c.entries.invariant in
    let there : present_level c.entries.self.entries ≤ c.args.level = omega (arith, c.level.ensures.value, c.entries-test.false) in
    same_path c.entries.self (record { vars = c.args.self.now.vars; entries = up_to_level c.args.level c.args.self.now.entries }) inv.vars
    (sym (back_there c.entries.self.vars c.entries.self.entries c.args.level c.level.ensures.path there) ∙ inv.entries)
