use Rattle.std.proofs.Common.{◌≡◌, ℕ, List, subst, sym, ControlFlow}
use Rattle.std.specs.ControlFlow.{MatchControlFlow}
use Rattle.lk_model.specs.Formulas.Formula.{Cnf}
use Rattle.autarky_compose.specs.JoinedGeneral.{AreJoinable, AreJoined}
use Rattle.autarky_compose.proofs.GeneralLaws.{joined_general_law}
use Rattle.lk_model.specs.declared.document.Round.{Round}
use Rattle.lk_model.specs.declared.result.General.{General}
use Rattle.lk_model.specs.declared.result.GeneralResult.{GeneralResult}
use Rattle.part_kernels.specs.ByParts.{AreFound, done, IsFirstOf}
use Rattle.part_kernels.proofs.Founds.{results, found_whole, found_first}
use Rattle.part_kernels.proofs.general.general_by_parts.Goals as goal

-- the answers on the list that was read
on_list : (F : Cnf) (conflicts : ℕ) (list given : List (List ℕ)) (answers : List General) → given ≡ list
    → AreFound F conflicts given answers → AreFound F conflicts list answers
on_list F conflicts list given answers same are =
    subst (λ (parts : List (List ℕ)). AreFound F conflicts parts answers) same are

-- what was gathered
abbrev Gathered : Type 0
Gathered = ControlFlow (List Round) (List GeneralResult)

abbrev IsGathered : List General → Gathered → Type 0
IsGathered answers flow = MatchControlFlow flow (λ (found : List GeneralResult). answers ≡ done found) (λ (rounds : List Round). IsFirstOf answers rounds)

gathered_as : (answers : List General) (found value : Gathered) → found ≡ value → IsGathered answers found
    → IsGathered answers value
gathered_as answers found value same is = subst (λ (v : Gathered). IsGathered answers v) same is

pub join_general-requires : goal.join_general-requires
join_general-requires g c =
    let F = c.args.f.now in
    let list = c.in_ok-list.list in
    let answers = c.in_ok-answers.answers in
    let found = c.in-Continue.found in
    let all : answers ≡ done found = gathered_as answers c.in_ok-found.field-0 _ c.in-Continue.is c.in_ok-found.ensures in
    let each = on_list F c.args.conflicts list c.as_slice-parts.result.now answers c.as_slice-parts.ensures c.in_ok-answers.ensures in
    let kernels = results F c.args.conflicts list found
    (subst (λ (given : List General). AreFound F c.args.conflicts list given) all each) in
    subst (λ (m : ℕ). AreJoinable m found) (sym c.len.ensures.value)
    (joined_general_law.joinable F list found c.in_ok-list.ensures kernels)

pub returns-in-Continue : goal.returns-in-Continue
returns-in-Continue g c =
    let F = c.args.f.now in
    let list = c.in_ok-list.list in
    let answers = c.in_ok-answers.answers in
    let found = c.in-Continue.found in
    let t = c.in_ok-join_general-in-Continue.field-0 in
    let all : answers ≡ done found = gathered_as answers c.in_ok-found.field-0 _ c.in-Continue.is c.in_ok-found.ensures in
    found_whole F c.args.conflicts list answers found t c.in_ok-list.ensures
    (on_list F c.args.conflicts list c.as_slice-parts.result.now answers c.as_slice-parts.ensures c.in_ok-answers.ensures) all
    (subst (λ (m : ℕ). AreJoined m found t) c.len.ensures.value c.in_ok-join_general-in-Continue.ensures)

pub returns : goal.returns
returns g c =
    let F = c.args.f.now in
    let list = c.in_ok-list.list in
    let answers = c.in_ok-answers.answers in
    found_first F c.args.conflicts list answers c.in-Break.rounds c.in_ok-list.ensures
    (on_list F c.args.conflicts list c.as_slice-parts.result.now answers c.as_slice-parts.ensures c.in_ok-answers.ensures)
    (gathered_as answers c.in_ok-found.field-0 _ c.in-Break.is c.in_ok-found.ensures)
