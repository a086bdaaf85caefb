-- A clause goes, and each one that stays has a variable: the matching is maximum without a search.
use Rattle.std.proofs.Common.{◌≡◌, ℕ, List, [], ◌∷◌, length, arith, IsTrue}
use Rattle.lk_model.specs.Lists.{among}
use Rattle.lk_model.specs.Formulas.Formula.{Cnf}
use Rattle.bipartite_match.specs.declared.augmenting.Start.{Start}
use Rattle.bipartite_match.specs.declared.matching.Matching.{Matching}
use Rattle.bipartite_match.specs.Covers.{HasCover}
use Rattle.match_edits.specs.Followed.{IsLive}
use Rattle.match_edits.specs.EditLaws.{RestoredBy}

-- no clause needs to be in the cover
pub bare_restored : (F : Cnf) (part : List ℕ) (m : Matching) (from : Start) → RestoredBy F part m from → length m.unmatched ≡ 0 → IsLive F part m
bare_restored F part m from r none = record {
  positions = r.positions;
  maximum = r.maximum m r.ready.matching (λ h. cover);
  ready = r.ready;
}
  where
    all_matched : (us : List ℕ) → length us ≡ 0 → (p : ℕ) → IsTrue (among us p) → ⊥
    all_matched [] e p a = let f : ⊥ = cc in f
    all_matched (u ∷ us) e p a = omega (arith, e)

    cover : HasCover F part m
    cover = (
      [],
      record {
        within = λ p e. absurd (let f : ⊥ = cc in f);
        unmatched = λ p u. absurd (all_matched m.unmatched none p ((r.ready.unmatched p).1 u));
        closed = λ p v e j. absurd (let f : ⊥ = cc in f);
      },
    )
