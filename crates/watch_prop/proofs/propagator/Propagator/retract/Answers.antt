use Rattle.std.proofs.Common.{◌≡◌, ◌∙◌, ◌<◌, ◌≤◌, List, length, refl, sym, ap, arith, vec_len}
use Rattle.std.proofs.lemmas.List.{get_or_read}
use Rattle.watch_prop.specs.declared.entry.Entry.{Entry}
use Rattle.watch_prop.specs.HeldPropagator.{propagator_seen}
use Rattle.watch_prop.specs.Trail.{Path, present_level, up_to_level}
use Rattle.watch_prop.specs.Propagation.{Propagation, back_at}
use Rattle.watch_prop.proofs.Paths.{back_there}
use Rattle.watch_prop.proofs.Trails.{trail_path}
use Rattle.watch_prop.proofs.Retracting.{returned_state}
use Rattle.watch_prop.proofs.propagator.Propagator.retract.Goals as goal

pub invariant_of-self : goal.invariant_of-self
invariant_of-self c =
    let s = c.self.inside.state in
    let below : c.args.level < length s.marks.items = omega (arith, c.if-place-len.true, c.len.ensures) in
    let read = get_or_read s.marks.items c.args.level c.index.result.now below c.index.ensures 0 in
    returned_state c.self.inside.clauses c.self.inside.trail c.retract.new.self s _ c.args.level c.self.invariant
    (record {
      below = below;
      path_is = c.retract.ensures;
      watches = refl;
      lists = refl;
      waiting = refl;
      satisfied = read;
      head = c.len-self-inside.ensures.value ∙ ap (λ (p : Path). length p.entries) c.retract.ensures;
      marks = c.truncate.ensures.items;
      capacity = c.truncate.ensures.capacity;
    })

pub returns-else-place-len : goal.returns-else-place-len
returns-else-place-len c =
    let p = propagator_seen c.self.inside in
    let s = c.self.inside.state in
    let long : length s.marks.items ≡ vec_len s.marks = sym s.marks.ok.0 in
    let le : present_level p.trail ≤ c.args.level = omega (arith, c.if-place-len.false, c.len.ensures, long, c.self.invariant.known.marks) in
    let back : up_to_level c.args.level p.trail ≡ p.trail = back_there p.vars p.trail c.args.level (trail_path p.vars p.clauses p.trail c.self.invariant.propagation.trail) le in
    sym c.self.view_is ∙ ap (λ (t : List Entry). record p { trail = t }) (sym back) ∙ ap (λ (q : Propagation). back_at q c.args.level) c.self.view_is
