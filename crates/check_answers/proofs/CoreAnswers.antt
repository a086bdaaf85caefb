-- What a core shows of which no check fails.
use Rattle.std.proofs.Common.{◌≡◌, ◌∙◌, ℕ, true, ◌&&◌, ◌==◌, List, [], ◌∷◌, length, refl, sym, ap, subst, Option, Some, None}
use Rattle.std.specs.Prelude.{nat_le}
use Rattle.std.specs.List.{list_all}
use Rattle.std.specs.Option.{option_map_or}
use Rattle.std.proofs.lemmas.Bool.{and_from, eq-eqb, eqb-true, le-leb}
use Rattle.lk_model.specs.declared.class.Class.TheVariants.{General}
use Rattle.lk_model.specs.declared.document.MusAnswer.{MusAnswer}
use Rattle.lk_model.specs.declared.document.Round.{Round}
use Rattle.lk_model.specs.declared.document.Without.{Without}
use Rattle.lk_model.specs.declared.verdict.Why.{Why}
use Rattle.lk_model.specs.Limits.{max_vars, max_clauses}
use Rattle.lk_model.specs.Lists.{among, rises_within}
use Rattle.lk_model.specs.Formulas.Autarky.{Within}
use Rattle.lk_model.specs.Formulas.Crossed.{no_variable}
use Rattle.lk_model.specs.Formulas.Formula.{Cnf, is_formula, IsWithinLimits}
use Rattle.lk_model.specs.Formulas.Lean.{Kernel}
use Rattle.lk_model.specs.Formulas.Minimal.{IsMinimallyUnsatisfiable}
use Rattle.lk_model.specs.Documents.CoreText.{is_without, is_core_in_form}
use Rattle.lk_model.specs.Documents.Form.{are_steps}
use Rattle.lk_model.specs.Checks.Check.{Check, first_of}
use Rattle.lk_model.specs.Checks.RoundChecks.{bad_step}
use Rattle.lk_model.specs.Checks.CoreChecks.{core_clause, bad_without, first_failure_of_core}
use Rattle.lk_model.proofs.Booleans.{and_true}
use Rattle.kernel_laws.proofs.KeptLines.{lines_form}
use Rattle.general_laws.specs.CoreLaw.{IsCore}
use Rattle.general_laws.proofs.CoreLaws.{core_law}
use Rattle.lk_model.proofs.CoreForms.{CoreForm, core_form}
use Rattle.check_answers.proofs.CoreShown.{texts_shown, texts_pass, withouts_shown, withouts_pass}
use Rattle.lk_model.specs.Documents.Answers.{is_answer}
use Rattle.check_answers.specs.AnswerLaw.{ShowsCore, written_core}
use Rattle.lk_model.specs.declared.answer.Answer.TheVariants.{Core}

-- THE FORM

-- a core in form, of a formula's size
pub record IsOf (F : Cnf) (a : MusAnswer) : Type 0 where
  pub vars : a.vars ≡ F.vars
  pub clauses : a.clauses ≡ length F.clauses
  pub form : is_core_in_form a ≡ true
  pub parts : CoreForm a
  pub positions : rises_within 0 (length F.clauses) a.core ≡ true

pub of_formula : (F : Cnf) (a : MusAnswer) → is_answer F.vars (length F.clauses) (Core a) ≡ true → IsOf F a
of_formula F a h =
    let both = and_true (a.vars == F.vars && a.clauses == length F.clauses) (is_core_in_form a) h in
    let sizes = and_true (a.vars == F.vars) (a.clauses == length F.clauses) both.0 in
    let clauses = eqb-true a.clauses (length F.clauses) sizes.1 in
    let parts = core_form a both.1 in
    record {
      vars = eqb-true a.vars F.vars sizes.0;
      clauses = clauses;
      form = both.1;
      parts = parts;
      positions = subst (λ (m : ℕ). rises_within 0 m a.core ≡ true) clauses parts.core;
    }

-- THE CHECKS

-- none of the checks fails
none_fails : (c : Check) (cs : List Check) → first_of (c ∷ cs) ≡ None → (c.place ≡ None) × (first_of cs ≡ None)
none_fails c cs e = by_place c.place refl e
  where
    by_place : (o : Option ℕ) → c.place ≡ o → option_map_or (λ (place : ℕ). Some (let why : Why = record { kind = c.kind; place = place } in why)) o (first_of cs) ≡ None
        → (c.place ≡ None) × (first_of cs ≡ None)
    by_place None t f = (t, f)
    by_place (Some place) t f = absurd (let g : ⊥ = cc in g)

passes_first : (c : Check) (cs : List Check) → c.place ≡ None → first_of cs ≡ None → first_of (c ∷ cs) ≡ None
passes_first c cs e f = ap (λ (o : Option ℕ). option_map_or (λ (place : ℕ). Some (let why : Why = record { kind = c.kind; place = place } in why)) o (first_of cs)) e ∙ f

pub core_shown : (F : Cnf) (a : MusAnswer) → is_answer F.vars (length F.clauses) (Core a) ≡ true → first_failure_of_core F a ≡ None → ShowsCore F a
core_shown F a h e =
    let at = of_formula F a h in
    let clauses = none_fails (core_clause F a) (bad_step no_variable F a.core (a.round ∷ []) ∷ bad_without F a.core a.without ∷ []) e in
    let steps = none_fails (bad_step no_variable F a.core (a.round ∷ [])) (bad_without F a.core a.without ∷ []) clauses.1 in
    let withouts = none_fails (bad_without F a.core a.without) [] steps.1 in
    let texts = texts_shown F a at.positions at.parts.texts_count clauses.0 in
    let vars = at.parts.texts_vars ∙ at.vars in
    record {
      texts = λ i. record { vars = vars i; clauses = texts i };
      refuted = record {
        steps = (λ i. are_steps (sym at.vars i) (sym at.clauses i) a.round.steps) ∙ at.parts.steps;
        whole = at.parts.whole;
        stated = steps.0;
      };
      others = withouts_shown F a.core a.without at.positions at.parts.lines withouts.0;
    }

pub core_passes : (F : Cnf) (a : MusAnswer) → is_answer F.vars (length F.clauses) (Core a) ≡ true → ShowsCore F a → first_failure_of_core F a ≡ None
core_passes F a h s =
    let at = of_formula F a h in
    passes_first (core_clause F a) (bad_step no_variable F a.core (a.round ∷ []) ∷ bad_without F a.core a.without ∷ []) (texts_pass F a s.texts)
    (passes_first (bad_step no_variable F a.core (a.round ∷ [])) (bad_without F a.core a.without ∷ []) s.refuted.stated
    (passes_first (bad_without F a.core a.without) [] (withouts_pass F a.core a.without at.parts.lines s.others) refl))

-- WHAT IS SHOWN

is_core : (F : Cnf) (a : MusAnswer) → is_answer F.vars (length F.clauses) (Core a) ≡ true → ShowsCore F a → IsCore F a.core a.round a.without
is_core F a h s =
    let at = of_formula F a h in
    record {
      positions = at.positions;
      refuted = s.refuted;
      lines = at.parts.lines;
      literals = subst (λ (n : ℕ). list_all (is_without n) a.without ≡ true) at.vars at.parts.literals;
      satisfied = s.others;
    }

pub core_minimal : (F : Cnf) (a : MusAnswer) → is_answer F.vars (length F.clauses) (Core a) ≡ true → ShowsCore F a → IsMinimallyUnsatisfiable F (among a.core)
core_minimal F a h s = core_law.minimal F a.core a.round a.without (is_core F a h s)

pub core_kernel : (F : Cnf) (kept : List ℕ) (a : MusAnswer) → is_answer F.vars (length F.clauses) (Core a) ≡ true → ShowsCore F a → Kernel General F kept → Within (among a.core) (among kept)
core_kernel F kept a h s k = core_law.kernel F a.core a.round a.without kept (is_core F a h s) k

-- WHAT IS WRITTEN

written_form : (F : Cnf) (core : List ℕ) (r : Round) (without : List Without) → is_formula F ≡ true → IsWithinLimits F → IsCore F core r without → is_core_in_form (written_core F core r without) ≡ true
unfolding is_core_in_form
written_form F core r without form limits c =
    let vars : nat_le F.vars max_vars ≡ true = le-leb F.vars max_vars limits.vars in
    let clauses : nat_le (length F.clauses) max_clauses ≡ true = le-leb (length F.clauses) max_clauses limits.clauses in
    rw (vars, clauses, c.positions, c.refuted.steps, c.refuted.whole, c.lines, c.literals) (lines_form F core form limits c.positions)

pub core_written : (F : Cnf) (core : List ℕ) (r : Round) (without : List Without) → is_formula F ≡ true → IsWithinLimits F → IsCore F core r without
    → (is_answer F.vars (length F.clauses) (Core (written_core F core r without)) ≡ true) × ShowsCore F (written_core F core r without)
core_written F core r without form limits c = (
  and_from (F.vars == F.vars && length F.clauses == length F.clauses) (is_core_in_form (written_core F core r without))
      (and_from (F.vars == F.vars) (length F.clauses == length F.clauses) (eq-eqb F.vars F.vars refl) (eq-eqb (length F.clauses) (length F.clauses) refl))
      (written_form F core r without form limits c),
  record { texts = refl; refuted = c.refuted; others = c.satisfied },
)
