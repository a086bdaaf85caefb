use Rattle.std.proofs.Common.{length, arith}
use Rattle.lk_model.specs.Lists.{among}
use Rattle.lk_model.proofs.Rising.{bounded}
use Rattle.mus_core.proofs.Rotated.{put_held, given_ends}
use Rattle.mus_core.proofs.rotation.give.Goals as goal

pub put-requires-clause-first : goal.put-requires-clause-first
put-requires-clause-first c = (bounded 0 (length c.args.clauses.now.clauses) c.args.places.now c.args.p c.requires.places c.requires.there).0

pub put-requires-clause-last : goal.put-requires-clause-last
put-requires-clause-last c =
    let high = (bounded 0 (length c.args.clauses.now.clauses) c.args.places.now c.args.p c.requires.places c.requires.there).1 in
    let size = c.requires.held.size in
    omega (arith, high, size)

pub rotate-requires-clause-held : goal.rotate-requires-clause-held
rotate-requires-clause-held c =
    let F = c.args.clauses.now in
    let places = c.args.places.now in
    let e = c.put.ensures in
    (put_held F (among places) c.args.witnesses.now c.put.new.self c.args.p c.args.values c.requires.held
    (λ q m. (bounded 0 (length F.clauses) places q c.requires.places m).0) c.requires.satisfied c.requires.vars
    (record { size = e.size; own = e.own; others = e.others })).held

pub returns-clause-rotated : goal.returns-clause-rotated
returns-clause-rotated c =
    let F = c.args.clauses.now in
    let places = c.args.places.now in
    let e = c.put.ensures in
    let put = put_held F (among places) c.args.witnesses.now c.put.new.self c.args.p c.args.values c.requires.held
    (λ q m. (bounded 0 (length F.clauses) places q c.requires.places m).0) c.requires.satisfied c.requires.vars
    (record { size = e.size; own = e.own; others = e.others }) in
    (given_ends c.rotate.result F (among places) c.args.witnesses.now c.put.new.self c.rotate.new.witnesses c.args.p c.args.values put e.own c.rotate.ensures).0

pub returns-clause-given : goal.returns-clause-given
returns-clause-given c =
    let F = c.args.clauses.now in
    let places = c.args.places.now in
    let e = c.put.ensures in
    let put = put_held F (among places) c.args.witnesses.now c.put.new.self c.args.p c.args.values c.requires.held
    (λ q m. (bounded 0 (length F.clauses) places q c.requires.places m).0) c.requires.satisfied c.requires.vars
    (record { size = e.size; own = e.own; others = e.others }) in
    (given_ends c.rotate.result F (among places) c.args.witnesses.now c.put.new.self c.rotate.new.witnesses c.args.p c.args.values put e.own c.rotate.ensures).1
