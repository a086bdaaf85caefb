-- What the linear run makes, as laws: its stages, and the document of a run that ends done.
use Rattle.std.specs.Prelude.{◌≡◌, ℕ, List, length, map, ◌≤ℤ◌, ℤ, pos, Option, None, option_map, IsTrue}
use Rattle.std.specs.List.{list_any, filter_map}
use Rattle.lk_model.specs.declared.class.Class.TheVariants as class
use Rattle.lk_model.specs.Lists.{among, is_nonzero}
use Rattle.lk_model.specs.Formulas.Literal.{variable, literal_of}
use Rattle.lk_model.specs.Formulas.Formula.{Cnf, is_formula, IsWithinLimits, clause_at, variables_to}
use Rattle.lk_model.specs.Formulas.Balance.{balance}
use Rattle.lk_model.specs.Formulas.Autarky.{first_sign}
use Rattle.lk_model.specs.Documents.Documents.{weighting_of}
use Rattle.lk_model.specs.Linear.Rows.{TableauRows}
use Rattle.lk_model.specs.Linear.Phases.{StageStands, next, stage_of}
use Rattle.lk_model.specs.Linear.LinearRun.{RunDone, linear_run}
use Rattle.lk_model.specs.Reduction.{Reduces}
use Rattle.lk_model.specs.declared.document.Stage.{Stage}
use Rattle.lk_model.specs.declared.document.Body.TheVariants.{Linear}
use Rattle.lk_model.specs.declared.document.DoneDocument.{DoneDocument}
use Rattle.lk_model.specs.declared.result.LinearResult.{LinearResult}
use Rattle.lk_model.specs.Formulas.Formula.{clauses_at}
use Rattle.exact_pivot.specs.Reached.{IsReached}

-- STAGES

-- A stage that stands: no clause of the rows has a balance below 0, and one of their clauses has a variable with a weight.
pub record StageLaw : Type 0 where
  pub balances : (F : Cnf) (S : List ℕ) (t : TableauRows) → IsTrue (is_formula F) → IsReached F S t → next t ≡ StageStands
      → (p : ℕ) → IsTrue (among S p) → pos 0 ≤ℤ balance (weighting_of (stage_of t)) (clause_at F p)
  pub touches : (F : Cnf) (S : List ℕ) (t : TableauRows) → IsReached F S t → next t ≡ StageStands
      → (p : ℕ) × IsTrue (among S p) × IsTrue (list_any (λ l. is_nonzero (weighting_of (stage_of t) (variable l))) (clause_at F p))

-- THE DOCUMENT

-- the literal on a variable that has the sign of the first stage that is not 0 on it
abbrev pub sign_literal : List Stage → ℕ → Option ℤ
sign_literal stages v = option_map (literal_of v) (first_sign (map weighting_of stages) v)

-- the set line: such a literal for each variable that has one
abbrev pub sign_line : Cnf → List Stage → List ℤ
sign_line F stages = filter_map (sign_literal stages) (variables_to F.vars)

-- the finished document of a result, without protected variables
abbrev pub linear_document : Cnf → LinearResult → DoneDocument
linear_document F r = record {
  vars = F.vars;
  clauses = length F.clauses;
  protect = None;
  kept = r.kept;
  set = sign_line F r.stages;
  body = Linear r.stages r.dual r.units;
  texts = clauses_at F r.kept;
}

-- THE LAW

-- Where the linear run of a formula within the limits ends done, the document of its result, without protected variables, is
-- accepted, a reduction of the formula, and has the stated certificate.
pub record LinearRunLaw : Type 0 where
  pub reduces : (F : Cnf) (pivots made : ℕ) (r : LinearResult) → IsTrue (is_formula F) → IsWithinLimits F
      → linear_run F pivots ≡ RunDone r.kept r.stages r.dual r.units made → Reduces F class.Linear pivots (linear_document F r)
