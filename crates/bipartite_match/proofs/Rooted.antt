-- What is left when the root of an augmented path is taken from the unmatched clauses.
use Rattle.std.proofs.Common.{◌≡◌, ℕ, ◌<◌, true, List, length, get_or, sym, ◌∙◌, subst}
use Rattle.std.specs.List.{remove}
use Rattle.lk_model.specs.Lists.{among}
use Rattle.lk_model.specs.Formulas.Formula.{Cnf}
use Rattle.lk_model.specs.Formulas.Lean.{are_positions}
use Rattle.bipartite_match.specs.declared.augmenting.Start.{Start}
use Rattle.bipartite_match.specs.declared.matching.Matching.{Matching}
use Rattle.bipartite_match.specs.Matchings.{IsMatching, IsUnmatched, IsReady}
use Rattle.bipartite_match.specs.Ways.{IsLonger}
use Rattle.bipartite_match.specs.Covers.{HasCover, HasCoverBut, IsAugmented}
use Rattle.bipartite_match.proofs.Unmatched.{rises_remove, among_rest, from_rest}

-- What is said of the pairs alone stays.

abbrev with_unmatched : Matching → List ℕ → Matching
with_unmatched m us = record m { unmatched = us }

same_matching : (F : Cnf) (part us : List ℕ) (m : Matching) → IsMatching F part m → IsMatching F part (with_unmatched m us)
same_matching F part us m h = record { clauses = h.clauses; vars = h.vars; joined = h.joined; paired = h.paired; held = h.held }

same_bare : (part us : List ℕ) (m : Matching) (p : ℕ) → IsUnmatched part m p → IsUnmatched part (with_unmatched m us) p
same_bare part us m p u = record { index = u.index; inside = u.inside; is = u.is; none = u.none }

was_bare : (part us : List ℕ) (m : Matching) (p : ℕ) → IsUnmatched part (with_unmatched m us) p → IsUnmatched part m p
was_bare part us m p u = record { index = u.index; inside = u.inside; is = u.is; none = u.none }

pub rooted_longer : (F : Cnf) (part us : List ℕ) (from : Start) (m after : Matching) (root : ℕ) → IsAugmented F part from m after root → IsLonger F part m (record after { unmatched = us })
rooted_longer F part us from m after root t = record {
  matching = same_matching F part us after t.longer.matching;
  more = t.longer.more;
  clauses = t.longer.clauses;
  vars = t.longer.vars;
}

pub rooted_cover : (F : Cnf) (part us : List ℕ) (from : Start) (m after : Matching) (root : ℕ) → IsAugmented F part from m after root → HasCoverBut F part m from
    → HasCover F part (record after { unmatched = us })
rooted_cover F part us from m after root t c =
    let s = t.covered c.0 c.1 in (c.0, record { within = s.within; unmatched = λ p u. s.unmatched p (was_bare part us after p u); closed = s.closed })

pub rooted_ready : (F : Cnf) (part us : List ℕ) (from : Start) (m after : Matching) (root place : ℕ) → IsReady F part m → IsAugmented F part from m after root → after.seen ≡ m.seen
    → place < length m.unmatched → get_or m.unmatched place 0 ≡ root → us ≡ remove m.unmatched place → IsReady F part (record after { unmatched = us })
rooted_ready F part us from m after root place h t seen inside at is = record {
  matching = same_matching F part us after t.longer.matching;
  ascending = subst (λ ps. are_positions F ps ≡ true) (sym is) (rises_remove 0 (length F.clauses) m.unmatched place h.ascending inside);
  unmatched = λ p. (
    λ e.
        let w = from_rest 0 (length F.clauses) m.unmatched place p h.ascending inside (subst (λ ps. among ps p ≡ true) is e) in
        same_bare part us after p ((t.others p).1 ((h.unmatched p).0 w.0, λ s. w.1 (s ∙ sym at))),
    λ u.
        let w = (t.others p).0 (was_bare part us after p u) in
        subst (λ ps. among ps p ≡ true) (sym is) (among_rest m.unmatched place p inside ((h.unmatched p).1 w.0) (λ s. w.1 (s ∙ at))),
  );
  unmarked = seen ∙ h.unmarked;
}
