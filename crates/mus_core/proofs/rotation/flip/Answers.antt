use Rattle.std.proofs.Common.{◌∙◌, Bool, List, Option, ap, length}
use Rattle.mus_core.specs.Flags.{flag_at}
use Rattle.mus_core.proofs.Rotated.{put_held, flipped}
use Rattle.mus_core.proofs.rotation.flip.Goals as goal
use Rattle.lk_model.proofs.ListTests.{real_literal as nonzero}

pub returns-in_ok-flipped : goal.returns-in_ok-flipped
returns-in_ok-flipped c =
    let G = c.args.core.now.clauses.now in
    let S = flag_at c.args.core.now.inside.now in
    let e = c.put.ensures in
    let real = nonzero G.vars c.args.l c.requires.literal in
    record {
      rotated = put_held G S c.args.witnesses.now c.put.new.self c.in-Some.q c.make_true.new.self c.requires.held c.requires.core.first
          (flipped c.args.core.now c.args.p c.in-Some.q c.args.l c.args.values.now c.in_ok-flipped.flipped c.make_true.new.self c.requires.values real c.requires.there
          c.in-Some.ensures c.in_ok-flipped.ensures c.make_true.ensures.assignment)
          (c.make_true.ensures.vars ∙ ap (λ (vs : List (Option Bool)). length vs) c.in_ok-flipped.ensures ∙ c.requires.values.vars) (record { size = e.size; own = e.own; others = e.others });
      walk = c.come_to.ensures S c.in-Some.ensures.there c.requires.walk;
    }
