use Rattle.std.proofs.Common.{List, ℕ, ◌∙◌, sym, subst}
use Rattle.bipartite_match.specs.Matchings.{IsMaximum}
use Rattle.deficiency.proofs.greatest.max_deficiency.Goals as goal

pub by_matching-requires-clause-part : goal.by_matching-requires-clause-part
by_matching-requires-clause-part c = c.as_slice-2.ensures ∙ c.in_ok-part.ensures.value

pub by_matching-requires-clause-maximum : goal.by_matching-requires-clause-maximum
by_matching-requires-clause-maximum c =
    subst (λ (ps : List ℕ). IsMaximum c.args.f.now ps c.in_ok-m.m) (c.as_slice.ensures ∙ sym c.as_slice-2.ensures) c.in_ok-m.ensures.maximum
