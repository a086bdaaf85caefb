use Rattle.std.proofs.Common.{◌≡◌, ◌<◌, List, ℕ, get_or, length, ap, sym, subst, ◌∙◌, refl, true, IsTrue}
use Rattle.lk_model.specs.Lists.{among}
use Rattle.lk_model.specs.Formulas.Lean.{are_positions}
use Rattle.bipartite_match.specs.Behind.{matching_of}
use Rattle.bipartite_match.proofs.Outcomes.{can_search, reads, outcome_none, outcome_found}
use Rattle.bipartite_match.proofs.pairs.Pairs.augment.Goals as goal

pub of-requires : goal.of-requires
of-requires g c =
    let w = c.requires.can in
    let m = matching_of w.1 c.args.self.now c.args.marks.now in
    record { can = (w.0, m, reads c.args.f.now w.0 m c.args.from c.as_slice.result.now c.as_slice-2.result.now w.2 c.as_slice.ensures c.as_slice-2.ensures) }

pub returns-then-visits-eq0-clause-outcome : goal.returns-then-visits-eq0-clause-outcome
returns-then-visits-eq0-clause-outcome g c = λ part own h.
    let f = c.args.f.now in let m = matching_of own c.args.self.now c.args.marks.now in let from = c.args.from in
    let searched = c.in_ok-visits.ensures.searched part m (reads f part m from c.as_slice.result.now c.as_slice-2.result.now h c.as_slice.ensures c.as_slice-2.ensures) in
    (own, outcome_none f part from c.in_ok-visits.visits.queue.items m c.of.new.seen h (searched.nothing c.if-visits-eq0.true) c.in_ok-visits.ensures.same)

pub exchange-root-requires : goal.exchange-root-requires
exchange-root-requires g c =
    let f = c.args.f.now in let w = c.requires.can in let m = matching_of w.1 c.args.self.now c.args.marks.now in let from = c.args.from in
    let searched = c.in_ok-visits.ensures.searched w.0 m (reads f w.0 m from c.as_slice.result.now c.as_slice-2.result.now w.2 c.as_slice.ensures c.as_slice-2.ensures) in
    record { found = (f, w.0, m, from, refl, searched.formula, can_search f w.0 m from w.2, searched.found c.if-visits-eq0.false) }

pub index_of-place-requires-clause-rises : goal.index_of-place-requires-clause-rises
index_of-place-requires-clause-rises g c = (_, subst (λ (ps : List ℕ). IsTrue (are_positions c.args.f.now ps)) (sym c.as_slice-3.ensures) c.requires.can.2.ready.ascending)

pub index_of-place-requires-clause-there : goal.index_of-place-requires-clause-there
index_of-place-requires-clause-there g c =
    let f = c.args.f.now in let w = c.requires.can in let m = matching_of w.1 c.args.self.now c.args.marks.now in let from = c.args.from in
    let searched = c.in_ok-visits.ensures.searched w.0 m (reads f w.0 m from c.as_slice.result.now c.as_slice-2.result.now w.2 c.as_slice.ensures c.as_slice-2.ensures) in
    let t = c.exchange-root.ensures.augmented f w.0 m from refl searched.formula (can_search f w.0 m from w.2) (searched.found c.if-visits-eq0.false) in
    subst (λ (ps : List ℕ). among ps c.exchange-root.result ≡ true) (sym c.as_slice-3.ensures) ((w.2.ready.unmatched c.exchange-root.result).1 t.1.began)

pub returns-clause-outcome : goal.returns-clause-outcome
returns-clause-outcome g c = λ part own h.
    let f = c.args.f.now in let m = matching_of own c.args.self.now c.args.marks.now in let from = c.args.from in let v = c.in_ok-visits.visits in
    let searched = c.in_ok-visits.ensures.searched part m (reads f part m from c.as_slice.result.now c.as_slice-2.result.now h c.as_slice.ensures c.as_slice-2.ensures) in
    let ends = searched.found c.if-visits-eq0.false in
    let t = c.exchange-root.ensures.augmented f part m from refl searched.formula (can_search f part m from h) ends in (
      t.0,
      outcome_found f part from v.queue.items v.place v.end m (record m { of_clause = t.0; of_var = c.exchange-root.new.of_var }) _ c.of.new.seen c.exchange-root.result c.index_of-place.result h ends t.1 refl
          c.in_ok-visits.ensures.same
          (subst (λ (ps : List ℕ). c.index_of-place.result < length ps) c.as_slice-3.ensures c.index_of-place.ensures.inside)
          (sym (ap (λ (ps : List ℕ). get_or ps c.index_of-place.result 0) c.as_slice-3.ensures) ∙ c.index_of-place.ensures.is)
          c.remove.ensures.items,
    )
