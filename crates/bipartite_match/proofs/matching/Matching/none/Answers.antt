use Rattle.std.proofs.Common.{◌∙◌, ℕ, ap, replicate, false}
use Rattle.bipartite_match.proofs.Unmatched.{none_matched}
use Rattle.bipartite_match.proofs.matching.Matching.none.Goals as goal

pub returns-clause-ready : goal.returns-clause-ready
returns-clause-ready c = none_matched c.args.f.now c.args.part.now _ c.requires (c.from_vec.ensures ∙ c.in_ok-vec.ensures.items_if_clones_equal (λ y e. e))
    (c.from_vec-2.ensures ∙ c.in_ok-vec-2.ensures.items_if_clones_equal (λ y e. e) ∙ ap (λ (n : ℕ). replicate n 0) c.vars-vars.ensures.value)
    (c.from_vec-3.ensures ∙ c.in_ok-to_vec.ensures.items_if_clones_equal (λ x y e. e))
    (c.in_ok-new.ensures ∙ ap (λ (n : ℕ). replicate n false) c.vars-vars.ensures.value)
