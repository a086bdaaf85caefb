use Rattle.std.proofs.Common.{◌≡◌, ◌∙◌, ℕ, ap, IfOk, List, subst}
use Rattle.lk_model.specs.Held.VariableSets.{is_in}
use Rattle.linear_kernel.specs.Weights.{has_weight}
use Rattle.linear_kernel.proofs.Weightings.{unweighted_is}
use Rattle.linear_kernel.proofs.weighted.unweighted.Goals as goal

pub returns : goal.returns
returns c =
    let set = c.in_ok-weighted.weighted in
    let same : (v : ℕ) → is_in set v ≡ has_weight c.args.stage.now.weights v = λ v. c.in_ok-weighted.ensures.value v ∙ ap (λ ws. has_weight ws v) c.as_slice.ensures in
    let rest = unweighted_is c.args.f.now c.args.stage.now set c.args.kept.now c.requires.weights same in
    subst (λ (ps : List ℕ). IfOk c.left_by.result (λ rest. rest ≡ ps)) rest c.left_by.ensures
