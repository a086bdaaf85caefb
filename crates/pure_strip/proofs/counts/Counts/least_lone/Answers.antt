use Rattle.std.proofs.Common.{sym, ◌∙◌, ap, arith}
use Rattle.pure_strip.specs.Counted.{least_lone}
use Rattle.pure_strip.proofs.LoneLemmas.{Lone-still, Lone-first, Lone-next}
use Rattle.pure_strip.proofs.counts.Counts.least_lone.Goals as goal

pub first_lone-requires : goal.first_lone-requires
first_lone-requires c = record {
  within = λ v m.
      let b = c.self.invariant.within v m in
      (b.0, omega (arith, b.1, c.self.invariant.last, c.self.invariant.small), omega (arith, b.1, c.self.invariant.last, c.self.invariant.size));
}

pub invariant_of-self : goal.invariant_of-self
invariant_of-self c = Lone-still _ _ _ _ _ c.self.invariant c.first_lone.ensures.still

pub returns-in-Some-clause-value : goal.returns-in-Some-clause-value
returns-in-Some-clause-value c =
    sym (Lone-first _ _ _ _ _ (Lone-still _ _ _ _ _ c.self.invariant c.first_lone.ensures.still) c.in-Some.ensures.found) ∙ ap least_lone c.self.view_is

pub returns-in-None-clause-value : goal.returns-in-None-clause-value
returns-in-None-clause-value c =
    let e = c.next_lone.ensures in
    Lone-next _ _ _ _ _ c.next_lone.result (Lone-still _ _ _ _ _ c.self.invariant c.first_lone.ensures.still) c.in-None.ensures.found e.onward e.passed e.some e.none ∙ ap least_lone c.self.view_is
