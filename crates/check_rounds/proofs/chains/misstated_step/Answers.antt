use Rattle.std.proofs.Common.{◌≡◌, ◌∙◌, ℕ, true, List, [], ◌∷◌, ap, sym, subst, length}
use Rattle.std.specs.List.{list_all}
use Rattle.std.proofs.lemmas.List.{append-nil}
use Rattle.std.proofs.lemmas.Result.{IfOk-weaker}
use Rattle.lk_model.specs.Formulas.Crossed.{no_variable}
use Rattle.lk_model.specs.Documents.Documents.{steps_of}
use Rattle.lk_model.specs.Documents.Form.{are_steps}
use Rattle.lk_model.specs.declared.document.Round.{Round}
use Rattle.lk_model.specs.declared.document.Step.{Step}
use Rattle.lk_model.specs.Checks.RoundChecks.{bad_step}
use Rattle.check_rounds.specs.declared.steps.Rounds.{Rounds}
use Rattle.check_rounds.specs.declared.steps.StepPlace.{StepPlace}
use Rattle.check_rounds.specs.Blocking.{AreBlocks}
use Rattle.check_rounds.specs.Chains.{misstates}
use Rattle.check_rounds.specs.Steps.{AreRounds, first_step, is_step_place}
use Rattle.check_rounds.proofs.ChainChecks.{bad_step_is}
use Rattle.check_rounds.proofs.StepPlaces.{all_places, are_rounds, steps_told}
use Rattle.check_rounds.proofs.chains.misstated_step.Goals as goal

-- the steps of the one round are those of the list
one_round : (n m : ℕ) (r : Round) (rounds : List Round) → rounds ≡ r ∷ [] → are_steps n m r.steps ≡ true → are_steps n m (steps_of rounds) ≡ true
one_round n m r rounds is form =
    subst (λ (rs : List Round). are_steps n m (steps_of rs) ≡ true) (sym is)
    (subst (λ (steps : List Step). are_steps n m steps ≡ true) (sym (append-nil r.steps)) form)

pub blocks_of-requires : goal.blocks_of-requires
blocks_of-requires c = one_round c.args.f.now.vars (length c.args.f.now.clauses) c.args.round.now c.from_ref-rounds.result.now c.from_ref-rounds.ensures.value c.requires.steps

pub bad_step_in-requires-clause-rounds : goal.bad_step_in-requires-clause-rounds
bad_step_in-requires-clause-rounds c =
    let rounds = c.from_ref-rounds.result in
    let over : Rounds = record { formula = c.args.f; part = c.args.part; flags = c.as_slice.result; blocked_at = c.as_slice-2.result; rounds = rounds } in
    are_rounds over c.len.result c.in_ok-flags.flags.items c.len.ensures.formula c.len.ensures.value c.as_slice.ensures.value c.in_ok-flags.ensures
    (subst (λ (table : List ℕ). AreBlocks c.args.f.now 0 rounds.now table) (sym c.as_slice-2.ensures.value) c.in_ok-blocks.ensures)
    (one_round c.args.f.now.vars (length c.args.f.now.clauses) c.args.round.now rounds.now c.from_ref-rounds.ensures.value c.requires.steps)

pub bad_step_in-requires-clause-places : goal.bad_step_in-requires-clause-places
bad_step_in-requires-clause-places c =
    subst (λ (ps : List StepPlace). list_all (is_step_place c.from_ref-rounds.result.now) ps ≡ true) (sym (c.as_slice-3.ensures.value ∙ c.in_ok-places.ensures)) (all_places c.from_ref-rounds.result.now)

pub returns : goal.returns
returns c =
    let F = c.args.f.now in
    let rounds = c.from_ref-rounds.result in
    let over : Rounds = record { formula = c.args.f; part = c.args.part; flags = c.as_slice.result; blocked_at = c.as_slice-2.result; rounds = rounds } in
    let h : AreRounds over = are_rounds over c.len.result c.in_ok-flags.flags.items c.len.ensures.formula c.len.ensures.value c.as_slice.ensures.value c.in_ok-flags.ensures
    (subst (λ (table : List ℕ). AreBlocks F 0 rounds.now table) (sym c.as_slice-2.ensures.value) c.in_ok-blocks.ensures)
    (one_round F.vars (length F.clauses) c.args.round.now rounds.now c.from_ref-rounds.ensures.value c.requires.steps) in
    IfOk-weaker c.bad_step_in.result (λ place. place ≡ first_step misstates over c.as_slice-3.result.now) _
    (λ place found.
    found
    ∙ ap (first_step misstates over) (c.as_slice-3.ensures.value ∙ c.in_ok-places.ensures)
    ∙ steps_told misstates over h
    ∙ bad_step_is no_variable F c.args.part.now rounds.now
    ∙ ap (λ (rs : List Round). (bad_step no_variable F c.args.part.now rs).place) c.from_ref-rounds.ensures.value)
    c.bad_step_in.ensures
