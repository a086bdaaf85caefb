use Rattle.std.proofs.Common.{◌≡◌, ◌∙◌, ◌-◌, ◌<◌, length, get_or, ap, subst, sym, arith}
use Rattle.watch_prop.specs.declared.entry.Entry.{Entry}
use Rattle.watch_prop.specs.Trail.{Path, present_level}
use Rattle.watch_prop.proofs.Paths.{present_at, present_le}
use Rattle.watch_prop.proofs.trail.Trail.level.Goals as goal

pub returns-else-len-eq0-clause-value : goal.returns-else-len-eq0-clause-value
returns-else-len-eq0-clause-value c =
    let trail = c.self.inside.entries.items in
    let d = c.index.result.now in
    let long : c.len-len.result ≡ length trail = omega arith in
    let some : 0 < length trail = omega (arith, long, c.if-len-eq0.false) in
    let here : d ≡ get_or trail (length trail - 1) d = subst (λ n. d ≡ get_or trail (n - 1) d) long c.index.ensures in
    ap (λ (e : Entry). e.level) here ∙ sym (present_at trail d some) ∙ ap (λ (p : Path). present_level p.entries) c.self.view_is

pub returns-else-len-eq0-clause-bound : goal.returns-else-len-eq0-clause-bound
returns-else-len-eq0-clause-bound c =
    let trail = c.self.inside.entries.items in
    let d = c.index.result.now in
    let long : c.len-len.result ≡ length trail = omega arith in
    let some : 0 < length trail = omega (arith, long, c.if-len-eq0.false) in
    let here : d ≡ get_or trail (length trail - 1) d = subst (λ n. d ≡ get_or trail (n - 1) d) long c.index.ensures in
    let level : d.level ≡ present_level trail = ap (λ (e : Entry). e.level) here ∙ sym (present_at trail d some) in
    let bound = present_le (length c.self.inside.table.items) trail c.self.invariant.path in
    let vars : length c.self.inside.table.items ≡ c.args.self.now.vars = ap (λ (p : Path). p.vars) c.self.view_is in
    omega (arith, level, bound, c.self.invariant.unset, vars)
