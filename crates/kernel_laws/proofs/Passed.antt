-- What the checks and the form of an accepted document say.
use Rattle.std.proofs.Common.{◌≡◌, ℕ, Bool, true, false, not, ◌&&◌, ◌==◌, cond, List, [], ◌∷◌, ◌++◌, length, map, refl, ◌∙◌, ap, subst, IsTrue, Option, Some, None, is_some}
use Rattle.std.specs.Prelude.{⊤}
use Rattle.std.specs.Option.{option_map_or}
use Rattle.std.proofs.lemmas.Bool.{eqb-true}
use Rattle.lk_model.specs.Lists.{among, rises_within}
use Rattle.lk_model.specs.Formulas.Literal.{variable}
use Rattle.lk_model.specs.Formulas.Formula.{Cnf, clause_at, positions_of}
use Rattle.lk_model.specs.Formulas.Crossed.{Variables}
use Rattle.lk_model.specs.Formulas.Assignment.{assignment_of, touches}
use Rattle.lk_model.specs.Formulas.Autarky.{IsAutarky}
use Rattle.lk_model.specs.Formulas.Lean.{all_of}
use Rattle.lk_model.specs.Documents.Form.{is_size, is_protect_line, is_body, are_clause_lines, is_done_in_form}
use Rattle.lk_model.specs.Checks.Check.{Check, first_of}
use Rattle.lk_model.specs.Checks.CommonChecks.{other_formula, kept_clause, protected_set, not_autarky, not_exactly_removed}
use Rattle.lk_model.specs.Checks.RoundChecks.{every_clause, bad_count, bad_step, not_learned}
use Rattle.lk_model.specs.Checks.Checks.{first_five, class_checks, first_failure_under, AcceptsUnder}
use Rattle.lk_model.specs.declared.document.DoneDocument.{DoneDocument}
use Rattle.lk_model.specs.declared.document.OpenDocument.{OpenDocument}
use Rattle.lk_model.specs.declared.document.Document.TheVariants.{Done, Unfinished}
use Rattle.lk_model.specs.declared.verdict.Kind.{Kind}
use Rattle.lk_model.specs.declared.verdict.Why.{Why}
use Rattle.lk_model.proofs.Booleans.{and_true}
use Rattle.lk_model.proofs.NoneLeft.{autarky_where_none}
use Rattle.lk_model.proofs.Founds.{none_at}

-- CHECKS THAT PASS

-- each check of the list has no place
abbrev pub HaveNoPlace : List Check → Type 0
HaveNoPlace [] = ⊤
HaveNoPlace (c ∷ cs) = (c.place ≡ None) × HaveNoPlace cs

-- where no check is the first to fail, none fails
pub none_fails : (cs : List Check) → first_of cs ≡ None → HaveNoPlace cs
none_fails [] e = tt
none_fails (c ∷ cs) e = let both = at_place c.kind c.place (first_of cs) e in (both.0, none_fails cs both.1)
  where
    at_place : (k : Kind) (o : Option ℕ) (rest : Option Why) → option_map_or (λ place. Some (let w : Why = record { kind = k; place = place } in w)) o rest ≡ None → (o ≡ None) × (rest ≡ None)
    at_place k None rest e = (refl, e)
    at_place k (Some place) rest e = absurd (let f : ⊥ = cc in f)

-- a check that passes leaves it to the rest
passed : (c : Check) (xs : List Check) → c.place ≡ None → first_of (c ∷ xs) ≡ first_of xs
passed c xs e = ap (λ (o : Option ℕ). option_map_or (λ place. Some (let w : Why = record { kind = c.kind; place = place } in w)) o (first_of xs)) e

-- the checks of a finished document after those of its numbers, its clause lines and its protected variables
abbrev pub behind : Variables → Cnf → DoneDocument → List Check
behind P F d = not_autarky F d ∷ not_exactly_removed F d ∷ class_checks P F d d.body

-- where those pass, the first failure is among these
pub first_behind : (P : Variables) (F : Cnf) (d : DoneDocument) → (other_formula F d.vars d.clauses).place ≡ None → (kept_clause F d).place ≡ None
    → (protected_set P F d).place ≡ None → first_failure_under P F (Done d) ≡ first_of (behind P F d)
unfolding first_failure_under
first_behind P F d formula lines unset =
    passed (other_formula F d.vars d.clauses) (kept_clause F d ∷ protected_set P F d ∷ behind P F d) formula
    ∙ passed (kept_clause F d) (protected_set P F d ∷ behind P F d) lines
    ∙ passed (protected_set P F d) (behind P F d) unset

-- and so for an unfinished one
abbrev pub behind_open : Variables → Cnf → OpenDocument → List Check
behind_open P F d = bad_count d ∷ bad_step P F (positions_of F) d.rounds ∷ not_learned P F (positions_of F) d.rounds ∷ []

pub first_behind_open : (P : Variables) (F : Cnf) (d : OpenDocument) → (other_formula F d.vars d.clauses).place ≡ None → (every_clause F d).place ≡ None
    → first_failure_under P F (Unfinished d) ≡ first_of (behind_open P F d)
unfolding first_failure_under
first_behind_open P F d formula lines =
    passed (other_formula F d.vars d.clauses) (every_clause F d ∷ behind_open P F d) formula
    ∙ passed (every_clause F d) (behind_open P F d) lines

-- the checks of a finished document, those of its class at the end
pub record HasPassed (P : Variables) (F : Cnf) (d : DoneDocument) : Type 0 where
  pub formula : (other_formula F d.vars d.clauses).place ≡ None
  pub lines : (kept_clause F d).place ≡ None
  pub unset : (protected_set P F d).place ≡ None
  pub autarky : (not_autarky F d).place ≡ None
  pub removed : (not_exactly_removed F d).place ≡ None
  pub by_class : HaveNoPlace (class_checks P F d d.body)

pub has_passed : (P : Variables) (F : Cnf) (d : DoneDocument) → first_failure_under P F (Done d) ≡ None → HasPassed P F d
unfolding first_failure_under
has_passed P F d e =
    let h = none_fails (first_five P F d ++ class_checks P F d d.body) e in
    record { formula = h.0; lines = h.1.0; unset = h.1.1.0; autarky = h.1.1.1.0; removed = h.1.1.1.1.0; by_class = h.1.1.1.1.1 }

-- a check of one place that finds none
pub at_one_place : (b : Bool) → cond (not b) (let o : Option ℕ = Some 0 in o) None ≡ None → b ≡ true
at_one_place true e = refl
at_one_place false e = absurd (let f : ⊥ = cc in f)

-- the stated numbers are the formula's
pub same_numbers : (F : Cnf) (n m : ℕ) → (other_formula F n m).place ≡ None → (n ≡ F.vars) × (m ≡ length F.clauses)
unfolding other_formula
same_numbers F n m none =
    let both = and_true (n == F.vars) (m == length F.clauses) (at_one_place (n == F.vars && m == length F.clauses) none) in
    (eqb-true n F.vars both.0, eqb-true m (length F.clauses) both.1)

-- the set line satisfies each clause that it touches
pub set_autarky : (F : Cnf) (d : DoneDocument) → (not_autarky F d).place ≡ None → IsAutarky F (all_of F) (assignment_of d.set)
unfolding not_autarky
set_autarky F d none = (autarky_where_none (assignment_of d.set) F).0 (ap is_some none)

-- and touches exactly the clauses that are not kept
pub exactly_removed : (F : Cnf) (d : DoneDocument) → (not_exactly_removed F d).place ≡ None
    → (p : ℕ) → IsTrue (all_of F p) → touches (assignment_of d.set) (clause_at F p) ≡ not (among d.kept p)
unfolding not_exactly_removed
exactly_removed F d none p within =
    by_tests (among d.kept p) (touches (assignment_of d.set) (clause_at F p))
    (none_at (λ p. cond (among d.kept p) (touches (assignment_of d.set) (clause_at F p)) (not (touches (assignment_of d.set) (clause_at F p)))) F p none within)
  where
    by_tests : (a b : Bool) → cond a b (not b) ≡ false → b ≡ not a
    by_tests true b e = e
    by_tests false true e = refl
    by_tests false false e = absurd (let f : ⊥ = cc in f)

-- THE FORM

-- what the form of a document over n variables and m clauses says
pub record IsInForm (n m : ℕ) (d : DoneDocument) : Type 0 where
  pub protect : is_protect_line n d.protect ≡ true
  pub kept : rises_within 0 m d.kept ≡ true
  pub set : rises_within 0 n (map variable d.set) ≡ true
  pub body : is_body n m d.body ≡ true

pub in_form : (d : DoneDocument) → is_done_in_form d ≡ true → IsInForm d.vars d.clauses d
unfolding is_done_in_form
in_form d form =
    let a = and_true _ (are_clause_lines d.vars (length d.kept) d.texts) form in
    let b = and_true _ (is_body d.vars d.clauses d.body) a.0 in
    let c = and_true _ (rises_within 0 d.vars (map variable d.set)) b.0 in
    let e = and_true _ (rises_within 0 d.clauses d.kept) c.0 in
    let f = and_true (is_size d.vars d.clauses) (is_protect_line d.vars d.protect) e.0 in
    record { protect = f.1; kept = e.1; set = c.1; body = b.1 }

-- that of an accepted one, over the formula's
pub accepted_form : (P : Variables) (F : Cnf) (d : DoneDocument) → AcceptsUnder P F d → IsInForm F.vars (length F.clauses) d
accepted_form P F d a =
    let same = same_numbers F d.vars d.clauses (has_passed P F d a.checks).formula in
    subst (λ (n : ℕ). IsInForm n (length F.clauses) d) same.0 (subst (λ (m : ℕ). IsInForm d.vars m d) same.1 (in_form d a.form))
