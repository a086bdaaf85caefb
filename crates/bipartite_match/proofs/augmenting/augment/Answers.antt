use Rattle.std.proofs.Common.{◌≡◌, ◌<◌, List, ℕ, Bool, get_or, length, ap, sym, subst, ◌∙◌, refl, IsTrue, true}
use Rattle.std.specs.List.{remove}
use Rattle.lk_model.specs.Lists.{among}
use Rattle.lk_model.specs.Formulas.Formula.{Cnf, is_formula}
use Rattle.lk_model.specs.Formulas.Lean.{are_positions}
use Rattle.bipartite_match.specs.declared.augmenting.Start.{Start}
use Rattle.bipartite_match.specs.declared.matching.Matching.{Matching}
use Rattle.bipartite_match.specs.declared.visits.Visit.{Visit}
use Rattle.bipartite_match.specs.Covers.{HasCover, IsAugmented}
use Rattle.bipartite_match.specs.Behind.{CanAugment}
use Rattle.bipartite_match.specs.Visiting.{CanSearch, EndsIn}
use Rattle.bipartite_match.proofs.Outcomes.{can_search, reads}
use Rattle.bipartite_match.proofs.Restoring.{covers_without}
use Rattle.bipartite_match.proofs.Rooted.{rooted_longer, rooted_cover, rooted_ready}
use Rattle.bipartite_match.proofs.Sought.{way_found, no_way}
use Rattle.bipartite_match.proofs.augmenting.augment.Goals as goal

-- the path is augmented in the matching that the search left as it was
augmented_from : (F : Cnf) (part : List ℕ) (from : Start) (q : List Visit) (place v : ℕ) (m now after : Matching) (root : ℕ) → now ≡ m → IsTrue (is_formula F) → CanSearch F part m from
    → EndsIn F part m from q place v
    → ((G : Cnf) (start : Start) → IsTrue (is_formula G) → CanSearch G part now start → EndsIn G part now start q place v → IsAugmented G part start now after root)
    → IsAugmented F part from m after root
augmented_from F part from q place v m now after root same form can ends turn =
    subst (λ (x : Matching). IsAugmented F part from x after root) same
    (turn F from form (subst (λ (x : Matching). CanSearch F part x from) (sym same) can) (subst (λ (x : Matching). EndsIn F part x from q place v) (sym same) ends))

pub of-requires : goal.of-requires
of-requires g c =
    let f = c.args.f.now in let part = c.args.part.now in let m = c.args.m.now in let from = c.args.from in
    let asks : CanAugment f part m from = record { positions = c.requires.part; ready = c.requires.ready; start = c.requires.start } in
    record { can = (part, m, reads f part m from c.as_slice.result.now c.as_slice-2.result.now asks c.as_slice.ensures c.as_slice-2.ensures) }

pub returns-then-visits-eq0-clause-way : goal.returns-then-visits-eq0-clause-way
returns-then-visits-eq0-clause-way g c =
    let f = c.args.f.now in let part = c.args.part.now in let m = c.args.m.now in let from = c.args.from in
    let v = c.in_ok-visits.visits in
    let asks : CanAugment f part m from = record { positions = c.requires.part; ready = c.requires.ready; start = c.requires.start } in
    let can = can_search f part m from asks in
    let searched = c.in_ok-visits.ensures.searched part m (reads f part m from c.as_slice.result.now c.as_slice-2.result.now asks c.as_slice.ensures c.as_slice-2.ensures) in (
      λ e. absurd (let x : ⊥ = cc in x),
      λ w. absurd (no_way f part m from v.queue.items can (searched.nothing c.if-visits-eq0.true) w),
    )

pub returns-then-visits-eq0-clause-restores : goal.returns-then-visits-eq0-clause-restores
returns-then-visits-eq0-clause-restores g c =
    let f = c.args.f.now in let part = c.args.part.now in let m = c.args.m.now in let from = c.args.from in
    let v = c.in_ok-visits.visits in
    let asks : CanAugment f part m from = record { positions = c.requires.part; ready = c.requires.ready; start = c.requires.start } in
    let can = can_search f part m from asks in
    let searched = c.in_ok-visits.ensures.searched part m (reads f part m from c.as_slice.result.now c.as_slice-2.result.now asks c.as_slice.ensures c.as_slice-2.ensures) in
    λ w. let r = covers_without f part m from v.queue.items can (searched.nothing c.if-visits-eq0.true) w in
    subst (λ (marks : List Bool). HasCover f part (record m { seen = marks })) (sym c.in_ok-visits.ensures.same) r

pub augment_found-root-requires-clause-found : goal.augment_found-root-requires-clause-found
augment_found-root-requires-clause-found g c =
    let f = c.args.f.now in let part = c.args.part.now in let m = c.args.m.now in let from = c.args.from in
    let v = c.in_ok-visits.visits in
    let asks : CanAugment f part m from = record { positions = c.requires.part; ready = c.requires.ready; start = c.requires.start } in
    let can = can_search f part m from asks in
    let searched = c.in_ok-visits.ensures.searched part m (reads f part m from c.as_slice.result.now c.as_slice-2.result.now asks c.as_slice.ensures c.as_slice-2.ensures) in (
      f,
      from,
      searched.formula,
      subst (λ (marks : List Bool). CanSearch f part (record m { seen = marks }) from) (sym c.in_ok-visits.ensures.same) can,
      subst (λ (marks : List Bool). EndsIn f part (record m { seen = marks }) from v.queue.items v.place v.end) (sym c.in_ok-visits.ensures.same) (searched.found c.if-visits-eq0.false),
    )

pub index_of-place-requires-clause-rises : goal.index_of-place-requires-clause-rises
index_of-place-requires-clause-rises g c = (_, subst (λ (ps : List ℕ). IsTrue (are_positions c.args.f.now ps)) (sym (c.as_slice-3.ensures ∙ c.augment_found-root.ensures.unmatched)) c.requires.ready.ascending)

pub index_of-place-requires-clause-there : goal.index_of-place-requires-clause-there
index_of-place-requires-clause-there g c =
    let f = c.args.f.now in let part = c.args.part.now in let m = c.args.m.now in let from = c.args.from in
    let v = c.in_ok-visits.visits in
    let asks : CanAugment f part m from = record { positions = c.requires.part; ready = c.requires.ready; start = c.requires.start } in
    let can = can_search f part m from asks in
    let searched = c.in_ok-visits.ensures.searched part m (reads f part m from c.as_slice.result.now c.as_slice-2.result.now asks c.as_slice.ensures c.as_slice-2.ensures) in
    let same : (record m { seen = c.of.new.seen }) ≡ m = ap (λ (marks : List Bool). let x : Matching = record m { seen = marks } in x) c.in_ok-visits.ensures.same in
    let t = augmented_from f part from v.queue.items v.place v.end m (record m { seen = c.of.new.seen }) c.augment_found-root.new.m c.augment_found-root.result same searched.formula can
    (searched.found c.if-visits-eq0.false) c.augment_found-root.ensures.augmented in
    subst (λ (ps : List ℕ). among ps c.augment_found-root.result ≡ true) (sym (c.as_slice-3.ensures ∙ c.augment_found-root.ensures.unmatched)) ((c.requires.ready.unmatched c.augment_found-root.result).1 t.began)

pub returns-clause-way : goal.returns-clause-way
returns-clause-way g c =
    let f = c.args.f.now in let part = c.args.part.now in let m = c.args.m.now in let from = c.args.from in
    let v = c.in_ok-visits.visits in
    let asks : CanAugment f part m from = record { positions = c.requires.part; ready = c.requires.ready; start = c.requires.start } in
    let can = can_search f part m from asks in
    let searched = c.in_ok-visits.ensures.searched part m (reads f part m from c.as_slice.result.now c.as_slice-2.result.now asks c.as_slice.ensures c.as_slice-2.ensures) in
    (λ e. way_found f part m from v.queue.items v.place v.end can (searched.found c.if-visits-eq0.false), λ w. refl)

pub returns-clause-longer : goal.returns-clause-longer
returns-clause-longer g c = λ _.
    let f = c.args.f.now in let part = c.args.part.now in let m = c.args.m.now in let from = c.args.from in
    let v = c.in_ok-visits.visits in
    let asks : CanAugment f part m from = record { positions = c.requires.part; ready = c.requires.ready; start = c.requires.start } in
    let can = can_search f part m from asks in
    let searched = c.in_ok-visits.ensures.searched part m (reads f part m from c.as_slice.result.now c.as_slice-2.result.now asks c.as_slice.ensures c.as_slice-2.ensures) in
    let same : (record m { seen = c.of.new.seen }) ≡ m = ap (λ (marks : List Bool). let x : Matching = record m { seen = marks } in x) c.in_ok-visits.ensures.same in
    let t = augmented_from f part from v.queue.items v.place v.end m (record m { seen = c.of.new.seen }) c.augment_found-root.new.m c.augment_found-root.result same searched.formula can
    (searched.found c.if-visits-eq0.false) c.augment_found-root.ensures.augmented in
    rooted_longer f part _ from m c.augment_found-root.new.m c.augment_found-root.result t

pub returns-clause-restores : goal.returns-clause-restores
returns-clause-restores g c = λ w.
    let f = c.args.f.now in let part = c.args.part.now in let m = c.args.m.now in let from = c.args.from in
    let v = c.in_ok-visits.visits in
    let asks : CanAugment f part m from = record { positions = c.requires.part; ready = c.requires.ready; start = c.requires.start } in
    let can = can_search f part m from asks in
    let searched = c.in_ok-visits.ensures.searched part m (reads f part m from c.as_slice.result.now c.as_slice-2.result.now asks c.as_slice.ensures c.as_slice-2.ensures) in
    let same : (record m { seen = c.of.new.seen }) ≡ m = ap (λ (marks : List Bool). let x : Matching = record m { seen = marks } in x) c.in_ok-visits.ensures.same in
    let t = augmented_from f part from v.queue.items v.place v.end m (record m { seen = c.of.new.seen }) c.augment_found-root.new.m c.augment_found-root.result same searched.formula can
    (searched.found c.if-visits-eq0.false) c.augment_found-root.ensures.augmented in
    rooted_cover f part _ from m c.augment_found-root.new.m c.augment_found-root.result t w

pub returns-clause-ready : goal.returns-clause-ready
returns-clause-ready g c =
    let f = c.args.f.now in let part = c.args.part.now in let m = c.args.m.now in let from = c.args.from in
    let v = c.in_ok-visits.visits in
    let asks : CanAugment f part m from = record { positions = c.requires.part; ready = c.requires.ready; start = c.requires.start } in
    let can = can_search f part m from asks in
    let searched = c.in_ok-visits.ensures.searched part m (reads f part m from c.as_slice.result.now c.as_slice-2.result.now asks c.as_slice.ensures c.as_slice-2.ensures) in
    let same : (record m { seen = c.of.new.seen }) ≡ m = ap (λ (marks : List Bool). let x : Matching = record m { seen = marks } in x) c.in_ok-visits.ensures.same in
    let t = augmented_from f part from v.queue.items v.place v.end m (record m { seen = c.of.new.seen }) c.augment_found-root.new.m c.augment_found-root.result same searched.formula can
    (searched.found c.if-visits-eq0.false) c.augment_found-root.ensures.augmented in
    let us : c.augment_found-root.new.m.unmatched ≡ m.unmatched = c.augment_found-root.ensures.unmatched in
    rooted_ready f part _ from m c.augment_found-root.new.m c.augment_found-root.result c.index_of-place.result c.requires.ready t (c.augment_found-root.ensures.seen ∙ c.in_ok-visits.ensures.same)
    (subst (λ (ps : List ℕ). c.index_of-place.result < length ps) (c.as_slice-3.ensures ∙ us) c.index_of-place.ensures.inside)
    (sym (ap (λ (ps : List ℕ). get_or ps c.index_of-place.result 0) (c.as_slice-3.ensures ∙ us)) ∙ c.index_of-place.ensures.is)
    (c.remove.ensures.items ∙ ap (λ (ps : List ℕ). remove ps c.index_of-place.result) us)
