use Rattle.std.proofs.Common.{ℕ, List, subst}
use Rattle.model_text.proofs.Standing.{Takes, last_read, last_stops}
use Rattle.model_text.proofs.progress.values_of.Goals as goal

pub returns-then-take_line-clause-model : goal.returns-then-take_line-clause-model
returns-then-take_line-clause-model c = λ n fed h.
    let p = c.args.progress in
    let call = c.take_line in
    let takes = subst (λ (line : List ℕ). Takes p.draft line call.result call.new.draft) c.as_slice.ensures.value call.ensures.taken in
    last_read n fed p.unended.items p.lines p.draft call.new.draft call.result h.stands c.requires.one_line h.vars call.ensures.vars takes c.if-take_line.true

pub returns-clause-stop : goal.returns-clause-stop
returns-clause-stop c = λ n fed h.
    let p = c.args.progress in
    let call = c.take_line in
    let takes = subst (λ (line : List ℕ). Takes p.draft line call.result call.new.draft) c.as_slice.ensures.value call.ensures.taken in
    last_stops n fed p.unended.items p.lines p.draft call.new.draft call.result h.stands c.requires.one_line h.vars takes c.if-take_line.false
