use Rattle.std.proofs.Common.{◌≡◌, ◌∙◌, ℕ, true, List, Option, sym, ap, subst, length, is_some}
use Rattle.std.specs.Prelude.{find}
use Rattle.lk_model.specs.Lists.{rises_within}
use Rattle.lk_model.specs.Held.PartialValues.{assignment_by}
use Rattle.lk_model.specs.Documents.Form.{is_protect_line}
use Rattle.lean_checker.proofs.ProtectedSets.{set_in_line, none_without_line}
use Rattle.lean_checker.proofs.protected.protected_set.Goals as goal

pub returns-in-Some : goal.returns-in-Some
returns-in-Some c = λ F size.
    let φ = assignment_by c.args.values.now in
    let listed = subst (λ (o : Option (List ℕ)). is_protect_line (length c.args.values.now) o ≡ true) c.in-Some.is c.requires.line in
    let up = subst (λ (n : ℕ). rises_within 0 n c.in-Some.vars ≡ true) (sym size) listed in
    c.first_set.ensures ∙ ap (λ (vs : List ℕ). find (λ v. is_some (φ v)) vs) c.as_slice.ensures
    ∙ set_in_line F c.args.d.now φ c.in-Some.vars c.in-Some.is up c.requires.values

pub returns-in-None : goal.returns-in-None
returns-in-None c = λ F size. none_without_line F c.args.d.now c.in-None.is
