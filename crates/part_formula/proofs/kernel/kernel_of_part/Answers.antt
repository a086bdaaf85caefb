use Rattle.std.proofs.Common.{◌≡◌, ◌∙◌, ℕ, List, ap, subst}
use Rattle.std.specs.Prelude.{IfOk}
use Rattle.lk_model.specs.Formulas.Formula.{Cnf, positions_of}
use Rattle.general_laws.specs.Found.{IsFound}
use Rattle.part_formula.proofs.kernel.kernel_of_part.Goals as goal

pub returns : goal.returns
returns c =
    let copy = c.in_ok-copy.copy in
    let of = c.in_ok-copy.ensures in
    let G = copy.clauses in
    let conflicts = c.args.conflicts in
    let all : c.as_slice.result.now ≡ positions_of G = c.as_slice.ensures ∙ c.in_ok-all.ensures.value ∙ ap positions_of c.clauses.ensures.clauses in
    let found : IsFound G (positions_of G) conflicts c.in_ok-found.found =
    subst (λ (H : Cnf). IsFound H (positions_of G) conflicts c.in_ok-found.found) c.clauses-2.ensures.clauses
    (subst (λ (ps : List ℕ). IsFound c.clauses-2.result.now ps conflicts c.in_ok-found.found) all c.in_ok-found.ensures) in
    subst (λ (F : Cnf). IfOk c.general.result (IsFound F c.args.part.now conflicts)) of.formula
    (subst (λ (ps : List ℕ). IfOk c.general.result (IsFound copy.formula ps conflicts)) of.part (c.general.ensures conflicts found))
