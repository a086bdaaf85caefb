use Rattle.std.proofs.Common.{◌≡◌, ℕ, ◌+◌, false, true, List, [], ◌∷◌, refl, sym, ◌∙◌, ap, subst, replicate, length}
use Rattle.lk_model.specs.Formulas.Formula.{positions_of, variable_occurs}
use Rattle.lk_model.specs.Formulas.Lean.{are_positions}
use Rattle.lk_model.specs.Held.PartialValues.{assignment_by}
use Rattle.refutation_log.specs.Trimmed.{trimmed, names_positions_below}
use Rattle.general_kernel.specs.SetLiterals.{literals_on}
use Rattle.general_kernel.proofs.NextRounds.{IsNextRound}
use Rattle.general_laws.specs.Found.{IsUnfinished}
use Rattle.part_copy.specs.Found.{are_filled, IsPartModel, IsPartRefuted}
use Rattle.lk_model.specs.Lists.{among}
use Rattle.lk_model.specs.Chains.Rounds.{reached, used_positions}
use Rattle.lk_model.proofs.Founds.{filtered_rise}
use Rattle.part_formula.proofs.DecidedClauses.{first, model_found, names_low, numbers_past, refutation_found, stopped_found}
use Rattle.part_formula.proofs.deciding.decide_clauses.Goals as goal

pub returns-in-Model : goal.returns-in-Model
returns-in-Model c =
    let F = c.args.f.now in
    let part = c.as_slice.result.now in
    let e : part ≡ positions_of F = c.as_slice.ensures ∙ c.in_ok-all.ensures.value in
    let t : IsNextRound F part c.in_ok-blocked.blocked (c.from-next.result + 1) c.get.result c.in_ok-values.field-0 =
    record { over = _; decided = c.in_ok-values.ensures.decided; formula = refl; positions = refl; blocked = refl } in
    let h = first F part c.in_ok-blocked.blocked (c.from-next.result + 1) c.get.result c.in_ok-values.field-0 t
    (c.in_ok-blocked.ensures ∙ ap (λ (n : ℕ). replicate n false) c.vars.ensures.value) (ap (λ (k : ℕ). k + 1) (c.from-next.ensures ∙ c.len.ensures.value))
    c.len.ensures.formula c.len.ensures.limits (subst (λ (ps : List ℕ). are_positions F ps ≡ true) (sym c.as_slice.ensures) c.in_ok-all.ensures.part) c.get.ensures.some c.get.ensures.most in
    subst (λ (ps : List ℕ). IsPartModel F ps c.in_ok-set_of-in-Model.field-0) e
    (model_found F part c.get.result c.in_ok-values.field-0 c.in-Model.values c.in_ok-set_of-in-Model.field-0 h c.in-Model.is
    (subst (λ (ps : List ℕ). are_filled F ps ≡ true) (sym e) c.requires)
    (c.in_ok-set_of-in-Model.ensures ∙ ap (λ (ps : List ℕ). literals_on (variable_occurs F ps) (assignment_by c.in-Model.values) F.vars) (c.as_slice-in-Model.ensures ∙ sym c.as_slice.ensures)))

pub trim_used-requires-clause-positions : goal.trim_used-requires-clause-positions
trim_used-requires-clause-positions c =
    let F = c.args.f.now in
    let part = c.as_slice.result.now in
    let next = ap (λ (k : ℕ). k + 1) (c.from-next.ensures ∙ c.len.ensures.value) in
    let t : IsNextRound F part c.in_ok-blocked.blocked (c.from-next.result + 1) c.get.result c.in_ok-values.field-0 =
    record { over = _; decided = c.in_ok-values.ensures.decided; formula = refl; positions = refl; blocked = refl } in
    let h = first F part c.in_ok-blocked.blocked (c.from-next.result + 1) c.get.result c.in_ok-values.field-0 t
    (c.in_ok-blocked.ensures ∙ ap (λ (n : ℕ). replicate n false) c.vars.ensures.value) next
    c.len.ensures.formula c.len.ensures.limits (subst (λ (ps : List ℕ). are_positions F ps ≡ true) (sym c.as_slice.ensures) c.in_ok-all.ensures.part) c.get.ensures.some c.get.ensures.most in
    subst (λ (k : ℕ). names_positions_below k c.in-Refuted.log.first c.in-Refuted.log.steps ≡ true) (sym next)
    (names_low F part c.get.result c.in_ok-values.field-0 c.in-Refuted.log h c.in-Refuted.is)

pub trim_used-requires-clause-past : goal.trim_used-requires-clause-past
trim_used-requires-clause-past c =
    let F = c.args.f.now in
    let part = c.as_slice.result.now in
    let e : part ≡ positions_of F = c.as_slice.ensures ∙ c.in_ok-all.ensures.value in
    let next = ap (λ (k : ℕ). k + 1) (c.from-next.ensures ∙ c.len.ensures.value) in
    let t : IsNextRound F part c.in_ok-blocked.blocked (c.from-next.result + 1) c.get.result c.in_ok-values.field-0 =
    record { over = _; decided = c.in_ok-values.ensures.decided; formula = refl; positions = refl; blocked = refl } in
    let h = first F part c.in_ok-blocked.blocked (c.from-next.result + 1) c.get.result c.in_ok-values.field-0 t
    (c.in_ok-blocked.ensures ∙ ap (λ (n : ℕ). replicate n false) c.vars.ensures.value) next
    c.len.ensures.formula c.len.ensures.limits (subst (λ (ps : List ℕ). are_positions F ps ≡ true) (sym c.as_slice.ensures) c.in_ok-all.ensures.part) c.get.ensures.some c.get.ensures.most in
    numbers_past F part c.get.result c.in_ok-values.field-0 c.in-Refuted.log h c.in-Refuted.is

pub returns-in-Refuted : goal.returns-in-Refuted
returns-in-Refuted c =
    let F = c.args.f.now in
    let part = c.as_slice.result.now in
    let e : part ≡ positions_of F = c.as_slice.ensures ∙ c.in_ok-all.ensures.value in
    let next = ap (λ (k : ℕ). k + 1) (c.from-next.ensures ∙ c.len.ensures.value) in
    let t : IsNextRound F part c.in_ok-blocked.blocked (c.from-next.result + 1) c.get.result c.in_ok-values.field-0 =
    record { over = _; decided = c.in_ok-values.ensures.decided; formula = refl; positions = refl; blocked = refl } in
    let h = first F part c.in_ok-blocked.blocked (c.from-next.result + 1) c.get.result c.in_ok-values.field-0 t
    (c.in_ok-blocked.ensures ∙ ap (λ (n : ℕ). replicate n false) c.vars.ensures.value) next
    c.len.ensures.formula c.len.ensures.limits (subst (λ (ps : List ℕ). are_positions F ps ≡ true) (sym c.as_slice.ensures) c.in_ok-all.ensures.part) c.get.ensures.some c.get.ensures.most in
    let needed = c.in_ok-needed-in-Refuted.needed in
    let r = needed.round in
    let are = refutation_found F part c.get.result c.in_ok-values.field-0 c.in-Refuted.log r h c.in-Refuted.is
    (c.in_ok-needed-in-Refuted.ensures.steps ∙ ap (λ (k : ℕ). trimmed k c.in-Refuted.log.steps) next) in
    let used : needed.used ≡ used_positions F (record { steps = c.in-Refuted.log.steps }) = c.in_ok-needed-in-Refuted.ensures.used in
    record {
      whole = subst (λ (k : ℕ). IsPartRefuted F (positions_of F) k r) c.get.ensures.value (subst (λ (ps : List ℕ). IsPartRefuted F ps c.get.result r) e are.part_is);
      are_used = used ∙ sym are.same;
      positions = subst (λ (ps : List ℕ). are_positions F ps ≡ true) (sym used) (filtered_rise (length F.clauses) (among (reached c.in-Refuted.log.steps)));
      refuted = subst (λ (k : ℕ). IsPartRefuted F needed.used k r) c.get.ensures.value
          (subst (λ (ps : List ℕ). IsPartRefuted F ps c.get.result r) (sym used) are.used_are);
    }

pub returns : goal.returns
returns c =
    let F = c.args.f.now in
    let part = c.as_slice.result.now in
    let e : part ≡ positions_of F = c.as_slice.ensures ∙ c.in_ok-all.ensures.value in
    let next = ap (λ (k : ℕ). k + 1) (c.from-next.ensures ∙ c.len.ensures.value) in
    let t : IsNextRound F part c.in_ok-blocked.blocked (c.from-next.result + 1) c.get.result c.in_ok-values.field-0 =
    record { over = _; decided = c.in_ok-values.ensures.decided; formula = refl; positions = refl; blocked = refl } in
    let h = first F part c.in_ok-blocked.blocked (c.from-next.result + 1) c.get.result c.in_ok-values.field-0 t
    (c.in_ok-blocked.ensures ∙ ap (λ (n : ℕ). replicate n false) c.vars.ensures.value) next
    c.len.ensures.formula c.len.ensures.limits (subst (λ (ps : List ℕ). are_positions F ps ≡ true) (sym c.as_slice.ensures) c.in_ok-all.ensures.part) c.get.ensures.some c.get.ensures.most in
    subst (λ (k : ℕ). IsUnfinished F (positions_of F) k (c.in_ok-into_round-in-Stopped.field-0 ∷ [])) c.get.ensures.value
    (subst (λ (ps : List ℕ). IsUnfinished F ps c.get.result (c.in_ok-into_round-in-Stopped.field-0 ∷ [])) e
    (stopped_found F part c.get.result c.in_ok-values.field-0 c.in-Stopped.log c.in_ok-into_round-in-Stopped.field-0 h c.in-Stopped.is
    (subst (λ (ps : List ℕ). are_filled F ps ≡ true) (sym e) c.requires) c.in_ok-into_round-in-Stopped.ensures.steps))
