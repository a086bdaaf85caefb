use Rattle.std.proofs.Common.{◌-◌, List, ℕ, ap, sym, subst, ◌∙◌}
use Rattle.std.proofs.Math.ListN.{set}
use Rattle.bipartite_match.specs.declared.visits.Visit.{Visit}
use Rattle.bipartite_match.specs.Visiting.{visit_at}
use Rattle.bipartite_match.proofs.Passing.{PassState, pass_starts, pass_goes, pass_done, pass_within}
use Rattle.bipartite_match.proofs.exchange.exchange.Goals as goal

pub back-init : goal.back-init
back-init c = λ F part m from same form can ends.
    let s = c.args.visits.now in
    subst (λ (vs : List ℕ). PassState F part m from s.queue.items vs s.end s.place 0) same (pass_starts F part m from s.queue.items s.end s.place 0 can ends)

pub set-requires : goal.set-requires
set-requires c =
    let w = c.requires.found in
    pass_within w.0 w.1 w.2 w.3 c.args.visits.now.queue.items c.back.of_var c.back.v c.back.place c.back.root w.5 c.back-test.true (c.back.invariant w.0 w.1 w.2 w.3 w.4 w.5 w.6 w.7)

pub back-preserved : goal.back-preserved
back-preserved c = λ F part m from same form can ends.
    let q = c.args.visits.now.queue.items in
    let is = c.visit_at-visit.ensures ∙ ap (λ (xs : List Visit). visit_at xs c.back.place) c.deref.ensures.value in
    let written = c.set.ensures ∙ ap (λ (x : Visit). set c.back.of_var (c.back.v - 1) x.pos) is in
    subst (λ (x : Visit). PassState F part m from q c.set.new.self x.by x.from x.pos) (sym is)
    (subst (λ (vs : List ℕ). PassState F part m from q vs (visit_at q c.back.place).by (visit_at q c.back.place).from (visit_at q c.back.place).pos) (sym written)
    (pass_goes F part m from q c.back.of_var c.back.v c.back.place c.back.root form can ends.visits c.back-test.true (c.back.invariant F part m from same form can ends)))

pub returns : goal.returns
returns c = record {
  augmented = λ F part m from same form can ends.
      pass_done F part m from c.args.visits.now.queue.items c.back.of_var c.back.v c.back.place c.back.root c.back-test.false (c.back.invariant F part m from same form can ends);
}
