-- The answer of an empty clause, and what all answers come to.
use Rattle.std.proofs.Common.{◌≡◌, ◌^◌, ◌<◌, ℕ, ℤ, List, subst, sym}
use Rattle.std.specs.List.{AllByRecursion}
use Rattle.lk_model.specs.Formulas.Formula.{Cnf}
use Rattle.lk_model.specs.declared.decided.Decided.{Decided}
use Rattle.lk_model.specs.declared.document.Round.{Round}
use Rattle.part_formula.specs.Decisions.{Decision}
use Rattle.kernel_solve.specs.KernelParts.{IsFilledPart}
use Rattle.kernel_solve.specs.Answers.{AreAnswers, IsGathered}
use Rattle.kernel_solve.specs.Solutions.{IsRefutedWithin}
use Rattle.kernel_solve.proofs.EmptyClauses.{by_empty}
use Rattle.kernel_solve.proofs.SolveResults.{searched, all_filled, kernel_models, refuted, stopped}
use Rattle.kernel_solve.proofs.solving.solve.Goals as goal

pub returns-in-Some : goal.returns-in-Some
returns-in-Some g c =
    let F = c.args.f.now in
    subst (λ (r : Round). IsRefutedWithin F c.args.conflicts r) (sym c.in_ok-empty_round.ensures.round)
    (by_empty F c.in-Some.position c.args.conflicts c.in-Some.ensures.limits (sym c.in-Some.ensures.first))

-- the answers on the list that was read
on_list : (F : Cnf) (conflicts : ℕ) (list given : List (List ℕ)) (answers : List Decision) → given ≡ list → AreAnswers F conflicts given answers
    → AreAnswers F conflicts list answers
on_list F conflicts list given answers same are = subst (λ (parts : List (List ℕ)). AreAnswers F conflicts parts answers) same are

-- what was gathered
abbrev Gathered : Type 0
Gathered = Decided (List (List ℤ)) Round Round

gathered_as : (answers : List Decision) (found value : Gathered) → found ≡ value → IsGathered answers found → IsGathered answers value
gathered_as answers found value same is = subst (λ (v : Gathered). IsGathered answers v) same is

pub decisions-requires-clause-parts : goal.decisions-requires-clause-parts
decisions-requires-clause-parts g c κs within =
    let F = c.args.f.now in
    let found = c.in_ok-found.found in
    let list = c.in_ok-parts.parts in
    let h = searched F found c.as_slice.result.now list c.in_default.ensures.formula c.in_default.ensures.limits (sym c.in_default.ensures.first)
    c.in_ok-found.ensures c.as_slice.ensures c.in_ok-parts.ensures in
    subst (λ (ps : List (List ℕ)). AllByRecursion (IsFilledPart F) ps) (sym c.as_slice-2.ensures) (all_filled F found list h)

pub model_of-requires-clause-models : goal.model_of-requires-clause-models
model_of-requires-clause-models g c =
    let F = c.args.f.now in
    let found = c.in_ok-found.found in
    let list = c.in_ok-parts.parts in
    let decided = c.in_ok-decided.decided in
    let h = searched F found c.as_slice.result.now list c.in_default.ensures.formula c.in_default.ensures.limits (sym c.in_default.ensures.first)
    c.in_ok-found.ensures c.as_slice.ensures c.in_ok-parts.ensures in
    kernel_models F found.kept list c.args.conflicts decided c.in-Model.models h.parts
    (on_list F c.args.conflicts list c.as_slice-2.result.now decided c.as_slice-2.ensures c.in_ok-decided.ensures)
    (gathered_as decided c.in_ok-models.field-0 _ c.in-Model.is c.in_ok-models.ensures)

pub returns-in-Refuted : goal.returns-in-Refuted
returns-in-Refuted g c =
    let F = c.args.f.now in
    let found = c.in_ok-found.found in
    let list = c.in_ok-parts.parts in
    let decided = c.in_ok-decided.decided in
    let h = searched F found c.as_slice.result.now list c.in_default.ensures.formula c.in_default.ensures.limits (sym c.in_default.ensures.first)
    c.in_ok-found.ensures c.as_slice.ensures c.in_ok-parts.ensures in
    refuted F found list c.args.conflicts decided c.in-Refuted.round h
    (on_list F c.args.conflicts list c.as_slice-2.result.now decided c.as_slice-2.ensures c.in_ok-decided.ensures)
    (gathered_as decided c.in_ok-models.field-0 _ c.in-Refuted.is c.in_ok-models.ensures)

pub returns : goal.returns
returns g c =
    let F = c.args.f.now in
    let found = c.in_ok-found.found in
    let list = c.in_ok-parts.parts in
    let decided = c.in_ok-decided.decided in
    let h = searched F found c.as_slice.result.now list c.in_default.ensures.formula c.in_default.ensures.limits (sym c.in_default.ensures.first)
    c.in_ok-found.ensures c.as_slice.ensures c.in_ok-parts.ensures in
    stopped F found list c.args.conflicts decided c.in-Stopped.round (subst (λ (n : ℕ). n < 2 ^ 63) c.get-most.ensures.value c.get-most.ensures.most) h
    (on_list F c.args.conflicts list c.as_slice-2.result.now decided c.as_slice-2.ensures c.in_ok-decided.ensures)
    (gathered_as decided c.in_ok-models.field-0 _ c.in-Stopped.is c.in_ok-models.ensures)
