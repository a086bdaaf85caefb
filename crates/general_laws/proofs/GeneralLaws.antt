-- A general document that the checks accept is a reduction of the formula.
use Rattle.std.proofs.Common.{◌≡◌, ℕ, ◌+◌, true, not, ◌&&◌, ◌==◌, List, refl, None, length, arith, map, is_some}
use Rattle.std.specs.List.{list_all}
use Rattle.std.proofs.lemmas.Bool.{eq-eqb, both_ways}
use Rattle.lk_model.specs.Lists.{among}
use Rattle.lk_model.specs.Formulas.Literal.{variable, mentions}
use Rattle.lk_model.specs.Formulas.Formula.{Cnf, is_formula, clause_at, variables_to, variable_occurs}
use Rattle.lk_model.specs.Formulas.Crossed.{Variables, no_variable}
use Rattle.lk_model.specs.Formulas.Assignment.{Assignment, assignment_of}
use Rattle.lk_model.specs.Formulas.Autarky.{IsAutarky}
use Rattle.lk_model.specs.Formulas.Protected.{SetsNone, IsLeanUnder}
use Rattle.lk_model.specs.Chains.Rounds.{blocked_after}
use Rattle.lk_model.specs.Documents.Documents.{class_of, steps_of}
use Rattle.lk_model.specs.Documents.Form.{is_body, is_step, are_steps, is_whole, counts_from}
use Rattle.lk_model.specs.Checks.RoundChecks.{bad_step, not_blocked}
use Rattle.lk_model.specs.Checks.Checks.{class_checks}
use Rattle.lk_model.specs.declared.class.Class.TheVariants as class
use Rattle.lk_model.specs.declared.document.Body.{Body}
use Rattle.lk_model.specs.declared.document.Body.TheVariants.{Pure, Matching, Linear, General}
use Rattle.lk_model.specs.declared.document.DoneDocument.{DoneDocument}
use Rattle.lk_model.specs.declared.document.Step.{Step}
use Rattle.lk_model.specs.declared.document.Round.{Round}
use Rattle.lk_model.proofs.Booleans.{and_true}
use Rattle.lk_model.proofs.ListTests.{passes_one, all_weaker}
use Rattle.lk_model.proofs.Variables.{occurs}
use Rattle.lk_model.proofs.Founds.{option_map-none}
use Rattle.kernel_laws.specs.Accepted.{AcceptedReduces}
use Rattle.kernel_laws.proofs.Lines.{none_among}
use Rattle.kernel_laws.proofs.Tests.{second_passes}
use Rattle.kernel_laws.proofs.Occurrences.{occurring}
use Rattle.kernel_laws.proofs.Assignments.{touching}
use Rattle.kernel_laws.proofs.Passed.{HaveNoPlace, has_passed, accepted_form, set_autarky, exactly_removed}
use Rattle.kernel_laws.proofs.Reductions.{lean_plain, reduces_by, reduction_of}
use Rattle.general_laws.specs.GeneralLaw.{GeneralLaw}
use Rattle.general_laws.proofs.Chains.{are_real, real_step}
use Rattle.general_laws.proofs.Numbering.{counts_rise}
use Rattle.general_laws.proofs.Stated.{none_in}
use Rattle.general_laws.proofs.Reaching.{is_misstated}
use Rattle.general_laws.proofs.Blocking.{rounds_block, used_blocked, blocked_stays}

-- LEAN BY ROUNDS

-- an autarky that sets no variable that is blocked from the start sets none that rounds block
unset_by_rounds : (F : Cnf) (base : Variables) (part : List ℕ) (rounds : List Round) (φ : Assignment)
    → are_steps F.vars (length F.clauses) (steps_of rounds) ≡ true → (bad_step base F part rounds).place ≡ None
    → IsAutarky F (among part) φ → SetsNone base φ → SetsNone (blocked_after F base rounds) φ
unfolding bad_step
unset_by_rounds F base part rounds φ steps stated a none =
    let both = and_true (counts_from (length F.clauses + 1) (map (λ (s : Step). s.number) (steps_of rounds))) (list_all (is_step F.vars) (steps_of rounds)) steps in
    rounds_block φ F part base (length F.clauses) rounds a none (omega arith)
    (counts_rise (length F.clauses) (length F.clauses + 1) (steps_of rounds) (omega arith) both.0)
    (all_weaker (is_step F.vars) (λ (s : Step). are_real s.turns) (real_step F.vars) (steps_of rounds) both.1)
    (none_in is_misstated F part base rounds (option_map-none _ _ stated))

-- and so it touches no clause whose variables are all blocked
pub lean_by_rounds : (F : Cnf) (base : Variables) (part : List ℕ) (rounds : List Round) → is_formula F ≡ true
    → are_steps F.vars (length F.clauses) (steps_of rounds) ≡ true → (bad_step base F part rounds).place ≡ None
    → ((v : ℕ) → variable_occurs F part v ≡ true → blocked_after F base rounds v ≡ true) → IsLeanUnder base class.General F (among part)
lean_by_rounds F base part rounds form steps stated all φ a p kept touch =
    let none = unset_by_rounds F base part rounds φ steps stated a.1 a.0 in
    let w = touching φ (clause_at F p) touch in
    let there : mentions (clause_at F p) (variable w.0) ≡ true = passes_one (λ l. variable l == variable w.0) (clause_at F p) w.0 w.1 (eq-eqb (variable w.0) (variable w.0) refl) in
    both_ways (is_some (φ (variable w.0))) (none (variable w.0) (all (variable w.0) (occurs F part p (variable w.0) kept there))) w.2

-- ACCEPTED DOCUMENTS

-- a general body has rounds
record HasRounds (F : Cnf) (d : DoneDocument) : Type 0 where
  rounds : List Round
  stated : (bad_step no_variable F d.kept rounds).place ≡ None
  blocked : (not_blocked no_variable F d rounds).place ≡ None
  steps : are_steps F.vars (length F.clauses) (steps_of rounds) ≡ true

has_rounds : (F : Cnf) (d : DoneDocument) (b : Body) → class_of b ≡ class.General → is_body F.vars (length F.clauses) b ≡ true
    → HaveNoPlace (class_checks no_variable F d b) → HasRounds F d
unfolding is_body
has_rounds F d (Pure order pairs) c b h = absurd (let f : ⊥ = cc in f)
has_rounds F d (Matching own rows) c b h = absurd (let f : ⊥ = cc in f)
has_rounds F d (Linear stages dual units) c b h = absurd (let f : ⊥ = cc in f)
has_rounds F d (General rounds) c b h = record {
  rounds = rounds;
  stated = h.0;
  blocked = h.1.0;
  steps = (and_true (are_steps F.vars (length F.clauses) (steps_of rounds)) (list_all is_whole rounds) b).0;
}

-- each variable of the kept clauses is blocked
all_blocked : (F : Cnf) (d : DoneDocument) (rounds : List Round) → is_formula F ≡ true → (not_blocked no_variable F d rounds).place ≡ None
    → (v : ℕ) → variable_occurs F d.kept v ≡ true → blocked_after F no_variable rounds v ≡ true
unfolding not_blocked
all_blocked F d rounds form none v there =
    second_passes (variable_occurs F d.kept v) (blocked_after F no_variable rounds v) there
    (none_among (λ v. variable_occurs F d.kept v && not (blocked_after F no_variable rounds v)) (variables_to F.vars) v none (occurring F d.kept v form there))

-- a general document that no check refuses is a reduction
accepted_reduces : AcceptedReduces class.General
accepted_reduces F d form is a =
    let passed = has_passed no_variable F d a.checks in
    let shape = accepted_form no_variable F d a in
    let h = has_rounds F d d.body is shape.body passed.by_class in
    let lean = lean_plain class.General F (among d.kept) (lean_by_rounds F no_variable d.kept h.rounds form h.steps h.stated (all_blocked F d h.rounds form h.blocked)) in
    reduction_of class.General F d is
    (reduces_by class.General F d.kept (assignment_of d.set) form shape.kept lean (set_autarky F d passed.autarky) (exactly_removed F d passed.removed))

-- all of it
pub general_law : GeneralLaw
general_law = record { unset = unset_by_rounds; lean = lean_by_rounds; used = used_blocked; stays = blocked_stays; accepted = accepted_reduces }
