use Rattle.std.proofs.Common.{◌∙◌}
use Rattle.pure_strip.proofs.Starts.{Counted-start, Untouched-start}
use Rattle.pure_strip.proofs.run.pure_order.Goals as goal

pub order_by-requires-clause-counted : goal.order_by-requires-clause-counted
order_by-requires-clause-counted c =
    let counts = c.new-counts.ensures ∙ (λ i. record { vars = c.vars.ensures.value i; counts = c.in_ok-lengths.ensures i }) in
    Counted-start c.args.f.now _ _ _ c.requires.live c.requires.holders counts

pub order_by-requires-clause-untouched : goal.order_by-requires-clause-untouched
order_by-requires-clause-untouched c = Untouched-start c.args.f.now _ c.requires.live
