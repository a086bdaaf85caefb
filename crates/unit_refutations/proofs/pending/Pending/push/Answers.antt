use Rattle.std.proofs.Common.{◌∙◌, ◌==◌, ◌||◌, ℕ, List, sym, ap}
use Rattle.std.proofs.lemmas.List.Sorted.{list_any-IsPermutation}
use Rattle.lk_model.specs.Lists.{among}
use Rattle.unit_refutations.proofs.pending.Pending.push.Goals as goal

pub returns : goal.returns
returns c = λ p. sym (list_any-IsPermutation (λ k. k == p) _ _ c.in_ok-push.ensures.permutation) ∙ ap (λ (ps : List ℕ). c.args.place == p || among ps p) c.self.view_is
