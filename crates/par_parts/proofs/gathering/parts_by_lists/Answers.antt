use Rattle.std.proofs.Common.{◌≡◌, ◌∙◌, ℕ, List, length, sym, ap, subst, arith}
use Rattle.lk_model.specs.Formulas.Parts.{AreParts}
use Rattle.par_parts.specs.Numbering.{gathered}
use Rattle.par_parts.proofs.PartLists.{parts_are}
use Rattle.par_parts.proofs.gathering.parts_by_lists.Goals as goal

pub returns : goal.returns
returns c =
    let F = c.args.f.now in
    let labels = c.in_ok-found.found.labels.items in
    let roots = c.in_ok-found.found.roots.items in
    let ok = c.in_ok-found.found.roots.ok in
    let count : c.len.result ≡ length roots = (let e = c.len.ensures in omega (arith, e, ok)) in
    let is = c.from_vec.ensures ∙ (c.in_ok-lists.ensures ∙ (ap (λ (ls : List ℕ). gathered ls c.len.result) c.deref.ensures.value ∙ ap (λ (n : ℕ). gathered labels n) count)) in
    subst (λ (ps : List (List ℕ)). AreParts F ps) (sym is) (parts_are F labels roots c.in_ok-found.ensures.labels)
