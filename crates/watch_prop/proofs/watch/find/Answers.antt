use Rattle.std.proofs.Common.{◌≡◌, ℤ, pos, true, not, sym, subst}
use Rattle.std.proofs.lemmas.List.{get_or_read}
use Rattle.watch_prop.specs.Trail.{false_in}
use Rattle.watch_prop.proofs.Demands.{all_from, read_there, false_but}
use Rattle.watch_prop.proofs.watch.find.Goals as goal

pub returns-in_default : goal.returns-in_default
returns-in_default c = all_from (false_in c.args.trail.now.entries) c.args.lits.now (pos 0) c.in_default.ensures

pub returns-in-None : goal.returns-in-None
returns-in-None c =
    let trail = c.args.trail.now.entries in
    let lits = c.args.lits.now in
    let first = c.in-Some.ensures in
    let l = c.index-lits-one.result in
    let read = get_or_read lits c.in-Some.one l first.0 c.index-lits-one.is (pos 0) in (
      read_there lits c.in-Some.one l first.0 c.index-lits-one.is,
      subst (λ (k : ℤ). not (false_in trail k) ≡ true) (sym read) first.1,
      false_but trail lits c.in-Some.one l first.0 c.index-lits-one.is first.2 c.in-None.ensures,
    )
