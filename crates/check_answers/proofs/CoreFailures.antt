-- The checks of a core, one kind after another.
use Rattle.std.proofs.Common.{◌≡◌, ◌∙◌, ℕ, List, [], ◌∷◌, sym, ap, Option, Some}
use Rattle.std.specs.Option.{option_map_or}
use Rattle.lk_model.specs.Formulas.Formula.{Cnf}
use Rattle.lk_model.specs.Formulas.Crossed.{no_variable}
use Rattle.lk_model.specs.Checks.Check.{Check, first_of}
use Rattle.lk_model.specs.Checks.RoundChecks.{bad_step}
use Rattle.lk_model.specs.Checks.CoreChecks.{core_clause, bad_without, first_failure_of_core}
use Rattle.lk_model.specs.declared.document.MusAnswer.{MusAnswer}
use Rattle.lk_model.specs.declared.document.Without.{Without}
use Rattle.lk_model.specs.declared.verdict.Kind.{Kind}
use Rattle.lk_model.specs.declared.verdict.Kind.TheVariants.{KeptClause, BadStep, BadWithout}
use Rattle.lk_model.specs.declared.verdict.Why.{Why}

-- a failing check of a kind at a place
abbrev pub why_of : Kind → ℕ → Why
why_of kind place = record { kind = kind; place = place }

-- the first check fails, or it does not
pub fails_here : (c : Check) (cs : List Check) (o : Option ℕ) (p : ℕ) → o ≡ Some p → o ≡ c.place → Some (why_of c.kind p) ≡ first_of (c ∷ cs)
fails_here c cs o p is e = sym (ap (λ (q : Option ℕ). option_map_or (λ place. Some (why_of c.kind place)) q (first_of cs)) (sym e ∙ is))

-- THE KINDS

pub clause_here : (F : Cnf) (a : MusAnswer) (o : Option ℕ) (p : ℕ) → o ≡ Some p → o ≡ (core_clause F a).place → Some (why_of KeptClause p) ≡ first_failure_of_core F a
unfolding core_clause
clause_here F a o p is e = fails_here (core_clause F a) (bad_step no_variable F a.core (a.round ∷ []) ∷ bad_without F a.core a.without ∷ []) o p is e

pub step_here : (F : Cnf) (a : MusAnswer) (core : List ℕ) (o : Option ℕ) (p : ℕ) → core ≡ a.core → o ≡ Some p → o ≡ (bad_step no_variable F core (a.round ∷ [])).place
    → Some (why_of BadStep p) ≡ first_of (bad_step no_variable F a.core (a.round ∷ []) ∷ bad_without F a.core a.without ∷ [])
unfolding bad_step
step_here F a core o p same is e =
    fails_here (bad_step no_variable F a.core (a.round ∷ [])) (bad_without F a.core a.without ∷ []) o p is (e ∙ ap (λ (ps : List ℕ). (bad_step no_variable F ps (a.round ∷ [])).place) same)

pub without_here : (F : Cnf) (a : MusAnswer) (core : List ℕ) (ws : List Without) (o : Option ℕ) (p : ℕ) → core ≡ a.core → ws ≡ a.without → o ≡ Some p → o ≡ (bad_without F core ws).place
    → Some (why_of BadWithout p) ≡ first_of (bad_without F a.core a.without ∷ [])
unfolding bad_without
without_here F a core ws o p same these is e = fails_here (bad_without F a.core a.without) [] o p is (e ∙ (λ i. (bad_without F (same i) (these i)).place))
