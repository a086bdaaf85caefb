use Rattle.std.proofs.Common.{◌≡◌, ◌≤◌, List, ℕ, get_or, length, ap, sym, subst, ◌∙◌, arith, true, inl, inr, IsTrue}
use Rattle.std.proofs.lemmas.Bool.{cases_eq}
use Rattle.lk_model.specs.Lists.{among}
use Rattle.lk_model.specs.Formulas.Formula.{Cnf, is_formula}
use Rattle.lk_model.proofs.Lists.{among_at}
use Rattle.lk_model.proofs.Variables.{variable_bound}
use Rattle.bipartite_match.specs.declared.matching.Matching.{Matching}
use Rattle.bipartite_match.specs.declared.visits.Visit.{Visit}
use Rattle.bipartite_match.specs.Matchings.{IsMatching}
use Rattle.bipartite_match.specs.Visiting.{visit_at, with_own}
use Rattle.bipartite_match.proofs.AugmentedPaths.{AugmentState, augment_goes}
use Rattle.bipartite_match.proofs.exchange.augment_found.Goals as goal

-- variables of clauses are variables of the formula
fits : (F : Cnf) (part : List ℕ) (m : Matching) (i : ℕ) → IsTrue (is_formula F) → IsMatching F part m → get_or m.of_clause i 0 ≤ length m.of_var
fits F part m i f h = elim (cases_eq (get_or m.of_clause i 0) 0) [
  | inl z ↦ omega (arith, z)
  | inr n ↦ (let b = (variable_bound F (get_or part i 0) (get_or m.of_clause i 0) f (h.joined i n)).1 in let e = h.vars in omega (arith, b, e))
]

pub index_of-requires-clause-there : goal.index_of-requires-clause-there
index_of-requires-clause-there c =
    let w = c.requires.found in
    let part = c.args.part.now in
    let is = c.visit_at-visit.ensures ∙ ap (λ (xs : List Visit). visit_at xs c.back.place) c.deref.ensures.value in
    let g = (c.back.invariant.exchange w.0 w.1 w.2 w.3 w.4).going c.back-test.true in
    let at = w.4.visits.some c.back.place g.inside in
    subst (λ (x : Visit). among part x.pos ≡ true) (sym is) (subst (λ p. among part p ≡ true) at.2 (among_at part at.0 at.1))

pub take-requires-clause-variable : goal.take-requires-clause-variable
take-requires-clause-variable c =
    let w = c.requires.found in
    let q = c.args.visits.now.queue.items in
    let g = (c.back.invariant.exchange w.0 w.1 w.2 w.3 w.4).going c.back-test.true in
    let b = (variable_bound w.0 (visit_at q c.back.place).pos c.back.v w.2 g.holds).1 in let e = g.matching.vars in omega (arith, b, e)

pub take-requires-clause-old : goal.take-requires-clause-old
take-requires-clause-old c =
    let w = c.requires.found in
    let g = (c.back.invariant.exchange w.0 w.1 w.2 w.3 w.4).going c.back-test.true in
    fits w.0 c.args.part.now c.back.m c.index_of.result w.2 g.matching

pub back-preserved : goal.back-preserved
back-preserved c =
    let part = c.args.part.now in
    let q = c.args.visits.now.queue.items in
    let m = c.args.m.now in
    let is = c.visit_at-visit.ensures ∙ ap (λ (xs : List Visit). visit_at xs c.back.place) c.deref.ensures.value in
    let at = ap (λ (x : Visit). x.pos) is in
    record {
      exchange = λ F from form s e.
          let g = (c.back.invariant.exchange F from form s e).going c.back-test.true in
          subst (λ (x : Visit). AugmentState F part m from q c.take.new.m x.by x.from x.pos) (sym is)
          (augment_goes F part m from q c.back.m c.take.new.m c.back.v c.back.place c.index_of.result form s e.visits g c.index_of.ensures.inside (c.index_of.ensures.is ∙ at)
          (c.take.ensures ∙ ap (λ p. with_own c.back.m c.index_of.result p c.back.v) at));
      unmatched = ap (λ (x : Matching). x.unmatched) c.take.ensures ∙ c.back.invariant.unmatched;
      seen = ap (λ (x : Matching). x.seen) c.take.ensures ∙ c.back.invariant.seen;
    }
