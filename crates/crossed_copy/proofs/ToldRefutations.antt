-- Refutations of a copy, told of the part.
use Rattle.std.proofs.Common.{◌≡◌, ℕ, ◌+◌, ◌^◌, ◌<◌, ◌≤◌, true, List, sym, ◌∙◌, ap, subst, map, length}
use Rattle.std.specs.List.{list_all}
use Rattle.std.proofs.lemmas.List.{length-map}
use Rattle.lk_model.specs.Formulas.Crossed.{no_variable}
use Rattle.lk_model.specs.Formulas.Formula.{positions_of}
use Rattle.lk_model.specs.Formulas.Literal.{is_literal}
use Rattle.lk_model.specs.Chains.Rounds.{used_positions}
use Rattle.lk_model.specs.Documents.Form.{counts_from, is_step}
use Rattle.lk_model.specs.Held.VariableSets.{is_in, IsCrossed}
use Rattle.lk_model.specs.declared.crossed.Crossed.{Crossed}
use Rattle.lk_model.specs.declared.document.Round.{Round}
use Rattle.lk_model.specs.declared.document.Step.{Step}
use Rattle.lk_model.proofs.Booleans.{and_true}
use Rattle.lk_model.proofs.Rounds.{round_literals}
use Rattle.renaming_laws.specs.CrossedCopies.{IsCrossedRefutation, told_steps}
use Rattle.renaming_laws.specs.Renaming.{nth, named, number_after, step_under, round_under}
use Rattle.renaming_laws.proofs.CrossedCopies.{crossed_copy_law}
use Rattle.crossed_copy.specs.Copied.{IsCopyOf}
use Rattle.crossed_copy.specs.Told.{IsTold, Refutes}
use Rattle.crossed_copy.specs.declared.copying.CrossedCopy.{CrossedCopy}
use Rattle.crossed_copy.specs.declared.telling.CrossedRefutation.{CrossedRefutation}

-- a refutation of all of the copy
abbrev pub RefutesCopy : CrossedCopy → CrossedRefutation → Type 0
RefutesCopy copy r = Refutes copy.formula no_variable (positions_of copy.formula) (length copy.formula.clauses) r

pub told_over : (over : Crossed) (copy : CrossedCopy) (last count : ℕ) (ps names : List ℕ) (r told : CrossedRefutation) → IsCrossed over → IsCopyOf over copy
    → length over.formula.now.clauses ≤ last → RefutesCopy copy r → last + length r.round.steps < 2 ^ 64
    → count ≡ length copy.positions.items → ps ≡ copy.positions.items → names ≡ copy.names.items
    → told.round ≡ round_under (named names) (number_after count last ps) r.round → told.used ≡ map (nth ps) r.used → IsTold over last r told
told_over over copy last count ps names r told crossed of past h fits n p v round used =
    let F = over.formula.now in
    let P = copy.positions.items in
    let N = copy.names.items in
    let law = crossed_copy_law in
    record {
      refutes = record {
        refutation = subst (IsCrossedRefutation F (is_in over.blocked.now) over.part.now last) (sym steps)
            (law.refuted F copy.formula (is_in over.blocked.now) over.part.now P N last r.round.steps crossed.part of.positions.ascend of.positions.within of.dense past fits h.refutation);
        used = used ∙ (λ j. map (nth (p j)) (h.used j)) ∙ sym (law.used F copy.formula (is_in over.blocked.now) P N last r.round.steps of.positions.ascend of.dense past h.refutation.form)
            ∙ ap (λ (us : List Step). used_positions F (record { steps = us })) (sym steps);
      };
      count = ap (λ (us : List Step). length us) steps ∙ length-map r.round.steps (step_under (named N) (number_after (length P) last P));
    }
  where
    steps : told.round.steps ≡ told_steps last copy.positions.items copy.names.items r.round.steps
    steps = ap (λ (q : Round). q.steps) round ∙ (λ j. map (step_under (named (v j)) (number_after (n j) last (p j))) r.round.steps)

-- its clauses are over the variables
pub told_literals : (over : Crossed) (last : ℕ) (r told : CrossedRefutation) (steps : List Step) → IsTold over last r told → steps ≡ told.round.steps
    → list_all (λ (s : Step). list_all (is_literal over.formula.now.vars) s.clause) steps ≡ true
told_literals over last r told steps h is =
    let F = over.formula.now in
    subst (λ (ss : List Step). list_all (λ (s : Step). list_all (is_literal F.vars) s.clause) ss ≡ true) (sym is)
    (round_literals F.vars told.round.steps
    (and_true (counts_from (last + 1) (map (λ (s : Step). s.number) told.round.steps)) (list_all (is_step F.vars) told.round.steps) h.refutes.refutation.form).1)
