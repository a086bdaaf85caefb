use Rattle.std.proofs.Common.{◌∙◌, List, ℕ, subst}
use Rattle.lk_model.specs.Formulas.Lean.{KernelWithin}
use Rattle.lk_model.specs.declared.class.Class.TheVariants.{Matching}
use Rattle.command_endings.proofs.KernelSizes.{size_of_all}
use Rattle.command_endings.proofs.report.matching_size.Goals as goal

pub returns : goal.returns
returns c =
    let kept = c.in_ok-found.found.kept in
    rw c.len.ensures (size_of_all Matching c.args.f.now kept (subst (λ (part : List ℕ). KernelWithin Matching c.args.f.now part kept) (c.as_slice.ensures ∙ c.in_ok-all.ensures.value) c.in_ok-found.ensures.kernel))
