-- What a refutation by one round uses.
use Rattle.std.proofs.Common.{◌≡◌, ℕ, true, List, [], ◌∷◌, refl, None, length, arith, is_some, subst}
use Rattle.std.proofs.lemmas.Bool.{both_ways}
use Rattle.lk_model.specs.declared.class.Class.TheVariants.{General}
use Rattle.lk_model.specs.declared.document.Round.{Round}
use Rattle.lk_model.specs.declared.document.Step.{Step}
use Rattle.lk_model.specs.Lists.{among}
use Rattle.lk_model.specs.Laws.{named, are_in_order}
use Rattle.lk_model.specs.Formulas.Literal.{variable}
use Rattle.lk_model.specs.Formulas.Formula.{Cnf, clause_at, positions_of}
use Rattle.lk_model.specs.Formulas.Crossed.{no_variable}
use Rattle.lk_model.specs.Formulas.Autarky.{Within}
use Rattle.lk_model.specs.Formulas.Lean.{IsLean, Kernel}
use Rattle.lk_model.specs.Chains.Rounds.{reached, used_positions}
use Rattle.lk_model.specs.Checks.RoundChecks.{bad_step, IsRefutation}
use Rattle.lk_model.proofs.Counting.{in_filter, from_filter}
use Rattle.lk_model.proofs.Founds.{is_position}
use Rattle.lk_model.proofs.ReachedLaws.{reached_law}
use Rattle.lk_model.proofs.Rounds.{whole_refutes as refutes}
use Rattle.kernel_laws.proofs.Assignments.{touching}
use Rattle.kernel_laws.proofs.Clauses.{mentions_of}
use Rattle.kernel_laws.proofs.Reductions.{nothing_set as none_set}
use Rattle.general_laws.proofs.Blocking.{round_blocks, used_blocked}
use Rattle.general_laws.proofs.Carrying.{names_more, names_stated, steps_carried}
use Rattle.general_laws.proofs.JoinLaws.{misstated_none, none_misstated}
use Rattle.general_laws.proofs.Reaching.{is_misstated}
use Rattle.general_laws.proofs.Renumbering.{stay, same_steps}
use Rattle.general_laws.proofs.Stated.{NoneOf}
use Rattle.general_laws.specs.UsedLaw.{UsedLaw}
use Rattle.general_laws.proofs.ReachedSteps.{kept_steps, kept_rise, kept_real, IsClosed, kept_state, keeps_reached}
use Rattle.general_laws.proofs.StepForms.{formed}

-- OVER MORE POSITIONS

wider : (F : Cnf) (part other : List ℕ) (r : Round) → Within (among part) (among other) → IsRefutation F part r → IsRefutation F other r
wider F part other r inside h = record { steps = h.steps; whole = h.whole; stated = stated }
  where
    none : NoneOf is_misstated F part no_variable [] r.steps
    none = (misstated_none F no_variable part (r ∷ []) h.stated).0

    carried : NoneOf is_misstated F other no_variable [] r.steps
    carried =
        subst (λ (us : List Step). NoneOf is_misstated F other no_variable [] us) (same_steps r.steps)
        (steps_carried F (λ k. k) part other no_variable no_variable [] r.steps (stay (length F.clauses)) (λ v there. refl)
        (names_more F part other r.steps inside (names_stated F part no_variable [] r.steps none)) none)

    stated : (bad_step no_variable F other (r ∷ [])).place ≡ None
    stated = none_misstated F no_variable other (r ∷ []) (carried, tt)

-- IN THE KERNEL

-- what a reached step names is reached
closed : (low : ℕ) (steps : List Step) → are_in_order low steps ≡ true → IsClosed (among (reached steps)) steps
closed low [] o s (j, lt, e) r k m = absurd (omega (arith, lt))
closed low (t ∷ steps) o s c r k m = (reached_law low t steps o k).1 (named s k c ((reached_law low t steps o s.number).0 r) m)

-- An autarky on the used positions is one over the steps that are reached, which use the same positions. So it touches none.
used_lean : (F : Cnf) (r : Round) → IsRefutation F (positions_of F) r → IsLean General F (among (used_positions F r))
used_lean F r h φ a p inside touched =
    let m = length F.clauses in
    let form = formed F.vars m r.steps h.steps in
    let reaches = among (reached r.steps) in
    let used = used_positions F r in
    let q : Round = record { steps = kept_steps reaches r.steps } in
    let keeps = keeps_reached reaches r.steps (refutes r.steps h.whole) (λ k e. e) in
    let stated = kept_state F reaches no_variable [] r.steps (closed m r.steps form.order) (misstated_none F no_variable (positions_of F) (r ∷ []) h.stated).0 in
    let unset = round_blocks φ F used no_variable m q a (none_set φ) (omega arith) (kept_rise reaches m r.steps form.rising) (kept_real reaches r.steps form.real) stated in
    let l = touching φ (clause_at F p) touched in
    let parts = from_filter reaches (positions_of F) p inside in
    let again = in_filter (among (reached q.steps)) (positions_of F) p (keeps.reaches p parts.0) parts.1 in
    let blocked = used_blocked F no_variable q p (variable l.0) keeps.refutes again (mentions_of (clause_at F p) l.0 l.1) in
    both_ways (is_some (φ (variable l.0))) (unset (variable l.0) blocked) l.2

used_in_kernel : (F : Cnf) (kept : List ℕ) (r : Round) → IsRefutation F (positions_of F) r → Kernel General F kept → Within (among (used_positions F r)) (among kept)
used_in_kernel F kept r h kernel =
    kernel.largest (among (used_positions F r)) (λ p m. is_position F p (from_filter (among (reached r.steps)) (positions_of F) p m).1) (used_lean F r h)

-- all of it
pub used_law : UsedLaw
used_law = record { wider = wider; used = used_in_kernel }
