use Rattle.std.proofs.Common.{◌≡◌, ◌-◌, ◌<◌, ◌∙◌, length, sym, arith, true, false}
use Rattle.std.proofs.lemmas.List.{get_or_read}
use Rattle.pure_strip.proofs.Steps.{Held-live, Counted-touch}
use Rattle.pure_strip.specs.Live.{is_live}
use Rattle.pure_strip.proofs.run.touch.Goals as goal

pub lower_all-requires-clause-held : goal.lower_all-requires-clause-held
lower_all-requires-clause-held c =
    let within : c.args.p - 1 < length c.args.live.now.items = omega (arith, c.requires.first, c.requires.last, c.requires.counted.size) in
    let up : is_live c.args.live.now.items c.args.p ≡ true = sym (get_or_read c.args.live.now.items (c.args.p - 1) c.index.result.now within c.index.ensures false) ∙ c.if-index.true in
    Held-live _ _ _ _ _ c.requires.counted c.requires.first c.requires.last up c.clause.ensures.value c.clause.ensures.clause

pub returns-in_ok-lower_all-clause-counted : goal.returns-in_ok-lower_all-clause-counted
returns-in_ok-lower_all-clause-counted c =
    let within : c.args.p - 1 < length c.args.live.now.items = omega (arith, c.requires.first, c.requires.last, c.requires.counted.size) in
    let up : is_live c.args.live.now.items c.args.p ≡ true = sym (get_or_read c.args.live.now.items (c.args.p - 1) c.index.result.now within c.index.ensures false) ∙ c.if-index.true in
    Counted-touch _ _ _ _ _ _ c.requires.counted c.requires.first c.requires.last up c.clause.ensures.value c.in_ok-lower_all.ensures
