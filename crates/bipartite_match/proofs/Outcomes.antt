-- What a search reads, and what it leaves.
use Rattle.std.proofs.Common.{◌≡◌, ℕ, ◌<◌, true, false, List, Bool, length, get_or, refl, sym, subst}
use Rattle.std.specs.List.{remove}
use Rattle.lk_model.specs.Formulas.Formula.{Cnf}
use Rattle.bipartite_match.specs.declared.augmenting.Start.{Start}
use Rattle.bipartite_match.specs.declared.matching.Matching.{Matching}
use Rattle.bipartite_match.specs.declared.visits.Visit.{Visit}
use Rattle.bipartite_match.specs.declared.augmenting.Start.TheVariants.{Variable}
use Rattle.bipartite_match.specs.Behind.{CanAugment, CanReach, IsOutcome}
use Rattle.bipartite_match.specs.Covers.{IsAugmented}
use Rattle.bipartite_match.specs.Visiting.{CanSearch, CanRead, EndsIn, HasNoEnd}
use Rattle.bipartite_match.proofs.AugmentedPaths.{can_visit}
use Rattle.bipartite_match.proofs.Restoring.{covers_without}
use Rattle.bipartite_match.proofs.Rooted.{rooted_longer, rooted_cover, rooted_ready}
use Rattle.bipartite_match.proofs.Sought.{way_found, no_way}

pub can_search : (F : Cnf) (part : List ℕ) (m : Matching) (from : Start) → CanAugment F part m from → CanSearch F part m from
can_search F part m from h = record { part_rises = h.positions; matching = h.ready.matching; start = h.start }

-- a search for one more pair
pub reads : (F : Cnf) (part : List ℕ) (m : Matching) (from : Start) (vars bare : List ℕ) → CanAugment F part m from → vars ≡ m.of_var → bare ≡ m.unmatched → CanRead F vars bare m.seen from part m
reads F part m from vars bare h v u = record { can = can_visit F part m from (can_search F part m from h); ready = h.ready; vars = sym v; bare = sym u; marks_are = refl }

-- and one for all that walks reach
pub reads_all : (F : Cnf) (part : List ℕ) (m : Matching) (vars bare : List ℕ) → CanReach F part m → vars ≡ m.of_var → bare ≡ m.unmatched → CanRead F vars bare m.seen (Variable 0) part m
reads_all F part m vars bare h v u = record {
  can = record { part_rises = h.positions; matching = h.maximum.matching; bare = λ p x. x };
  ready = h.ready;
  vars = sym v;
  bare = sym u;
  marks_are = refl;
}

pub outcome_none : (F : Cnf) (part : List ℕ) (from : Start) (q : List Visit) (m : Matching) (marks : List Bool) → CanAugment F part m from → HasNoEnd F part m from q → marks ≡ m.seen
    → IsOutcome F part from m (record m { seen = marks }) false
outcome_none F part from q m marks h none same = subst (λ (ms : List Bool). IsOutcome F part from m (record m { seen = ms }) false) (sym same) (record {
  way = (λ e. absurd (let x : ⊥ = cc in x), λ w. absurd (no_way F part m from q (can_search F part m from h) none w));
  longer = λ e. absurd (let x : ⊥ = cc in x);
  restores = covers_without F part m from q (can_search F part m from h) none;
  ready = h.ready;
})

-- the path's pairs are exchanged, and its root is taken from the unmatched clauses
pub outcome_found : (F : Cnf) (part : List ℕ) (from : Start) (q : List Visit) (place v : ℕ) (m after : Matching) (us : List ℕ) (marks : List Bool) (root index : ℕ) → CanAugment F part m from
    → EndsIn F part m from q place v → IsAugmented F part from m after root → after.seen ≡ m.seen → marks ≡ after.seen → index < length m.unmatched → get_or m.unmatched index 0 ≡ root
    → us ≡ remove m.unmatched index → IsOutcome F part from m (record after { unmatched = us; seen = marks }) true
outcome_found F part from q place v m after us marks root index h ends t seen same inside at is = subst (λ (ms : List Bool). IsOutcome F part from m (record after { unmatched = us; seen = ms }) true) (sym same) (record {
  way = (λ e. way_found F part m from q place v (can_search F part m from h) ends, λ w. refl);
  longer = λ e. rooted_longer F part us from m after root t;
  restores = rooted_cover F part us from m after root t;
  ready = rooted_ready F part us from m after root index h.ready t seen inside at is;
})
