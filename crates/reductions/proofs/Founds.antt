-- What reducers find is told by documents that reduce the formula.
use Rattle.std.proofs.Common.{◌≡◌, ℕ, ◌∙◌, List, refl, sym, ap, subst, Option, ℤ}
use Rattle.std.specs.Prelude.{IsTrue}
use Rattle.std.specs.List.{list_all}
use Rattle.lk_model.specs.Formulas.Formula.{Cnf, is_formula, IsWithinLimits, positions_of, clauses_at}
use Rattle.lk_model.specs.Formulas.Crossed.{protected_by, protect_line_of}
use Rattle.lk_model.specs.Formulas.Lean.{are_positions}
use Rattle.lk_model.specs.Documents.Form.{is_protect_line, is_stage}
use Rattle.lk_model.specs.Documents.Text.{text_of}
use Rattle.lk_model.specs.Reduction.{Reduces, WritesReduction}
use Rattle.lk_model.specs.declared.class.Class.{Class}
use Rattle.lk_model.specs.declared.class.Class.TheVariants as class
use Rattle.lk_model.specs.declared.document.Body.TheVariants.{Pure, Matching, Linear, General}
use Rattle.lk_model.specs.declared.document.Document.TheVariants.{Done as Finished}
use Rattle.lk_model.specs.declared.document.DoneDocument.{DoneDocument}
use Rattle.lk_model.specs.declared.result.PureResult.{PureResult}
use Rattle.lk_model.specs.declared.result.MatchingResult.{MatchingResult}
use Rattle.lk_model.specs.declared.result.LinearResult.{LinearResult}
use Rattle.lk_model.specs.declared.result.GeneralResult.{GeneralResult}
use Rattle.lk_model.specs.Linear.LinearRun.{RunDone, linear_run}
use Rattle.lk_model.proofs.Crossings.{formula_form}
use Rattle.kernel_laws.proofs.Crossing.{same_count}
use Rattle.pure_laws.specs.PureResults.{IsPureResult, IsSetLine, pure_document}
use Rattle.pure_laws.proofs.PureResults.{pure_result_law}
use Rattle.matching_laws.specs.MatchingResults.{IsMatchingResult, set_line}
use Rattle.general_laws.specs.GeneralResults.{IsGeneralResult}
use Rattle.linear_run_laws.specs.RunLaw.{sign_line, linear_document}
use Rattle.linear_run_laws.proofs.RunAccepted.{linear_run_law}
use Rattle.linear_run_laws.proofs.RunMoments.{run_ends, left_rises}
use Rattle.document_laws.specs.FoundLaw.{rest_of, written_for}
use Rattle.document_laws.proofs.FoundLaws.{found_law, limits_without as limits_left}
use Rattle.part_kernels.specs.ByParts.{IsFoundWhole}
use Rattle.reductions.specs.Founds.{document_of, IsFoundFor, IsKernelFound, TellsReduction}
use Rattle.reductions.specs.declared.document.Found.{Found}

-- a document of what is left, written for the formula, tells the same
same_document : (F : Cnf) (protect : Option (List ℕ)) (class : Class) (pivots : ℕ) (found : Found)
    → Reduces F class pivots (written_for F protect (document_of (rest_of F protect) protect found)) → Reduces F class pivots (document_of F protect found)
same_document F protect class pivots found r = subst (λ (d : DoneDocument). Reduces F class pivots d)
    (λ i. record { vars = F.vars; clauses = same_count F (protected_by protect) i; protect = protect; kept = found.kept; set = found.set; body = found.body; texts = clauses_at F found.kept }) r

pub pure_found : (rest : Cnf) (r : PureResult) (set : List ℤ) → IsTrue (are_positions rest r.kept) → IsPureResult rest r → IsSetLine r.order set
    → IsFoundFor class.Pure rest (record { kept = r.kept; set = set; body = Pure r.order r.pairs })
pure_found rest r set positions h line = record {
  positions = positions;
  reduces = λ pivots F protect form limits protects is.
      let P = protected_by protect in
      let there : IsPureResult (rest_of F protect) r = subst (λ (G : Cnf). IsPureResult G r) (sym is) h in
      same_document F protect class.Pure pivots (record { kept = r.kept; set = set; body = Pure r.order r.pairs })
      (found_law.pure F protect pivots (pure_document (rest_of F protect) r set) form limits protects refl
      (pure_result_law.reduces (rest_of F protect) pivots r set (formula_form P F form) (limits_left P F limits) there line));
}

pub matching_found : (rest : Cnf) (r : MatchingResult) (set : List ℤ) → IsMatchingResult rest (positions_of rest) r → set ≡ set_line rest r.own
    → IsFoundFor class.Matching rest (record { kept = r.kept; set = set; body = Matching r.own r.rows })
matching_found rest r set h line = subst (λ (ls : List ℤ). IsFoundFor class.Matching rest (record { kept = r.kept; set = ls; body = Matching r.own r.rows })) (sym line) (record {
  positions = h.positions;
  reduces = λ pivots F protect form limits protects is.
      let there : IsMatchingResult (rest_of F protect) (positions_of (rest_of F protect)) r = subst (λ (G : Cnf). IsMatchingResult G (positions_of G) r) (sym is) h in
      let told = same_document F protect class.Matching pivots (record { kept = r.kept; set = set_line (rest_of F protect) r.own; body = Matching r.own r.rows })
      (found_law.matching F protect pivots r form limits protects there) in
      subst (λ (G : Cnf). Reduces F class.Matching pivots (document_of F protect (record { kept = r.kept; set = set_line G r.own; body = Matching r.own r.rows }))) is told;
})

pub general_found : (rest : Cnf) (r : GeneralResult) → IsGeneralResult rest (positions_of rest) r → IsFoundFor class.General rest (record { kept = r.kept; set = r.set; body = General r.rounds })
general_found rest r h = record {
  positions = h.positions;
  reduces = λ pivots F protect form limits protects is.
      let there : IsGeneralResult (rest_of F protect) (positions_of (rest_of F protect)) r = subst (λ (G : Cnf). IsGeneralResult G (positions_of G) r) (sym is) h in
      same_document F protect class.General pivots (record { kept = r.kept; set = r.set; body = General r.rounds })
      (found_law.general F protect pivots r form limits protects there);
}

-- found by parts, by rounds of which nothing is needless and that keep the budget
pub kernel_found : (rest : Cnf) (conflicts : ℕ) (r : GeneralResult) → IsFoundWhole rest conflicts r
    → IsKernelFound rest conflicts (record { kept = r.kept; set = r.set; body = General r.rounds })
kernel_found rest conflicts r h = record { kernel = general_found rest r h.result; needed = h.needed; budget = h.budget }

-- of a linear run that ends done: its stages and its kept positions are in form
pub linear_stages : (F : Cnf) (pivots made : ℕ) (r : LinearResult) → IsTrue (is_formula F) → IsWithinLimits F → linear_run F pivots ≡ RunDone r.kept r.stages r.dual r.units made → IsTrue (list_all (is_stage F.vars) r.stages)
linear_stages F pivots made r form limits run = (run_ends F form limits pivots r.kept r.stages r.dual r.units made run).begun.form

pub linear_positions : (F : Cnf) (pivots made : ℕ) (r : LinearResult) → IsTrue (is_formula F) → IsWithinLimits F → linear_run F pivots ≡ RunDone r.kept r.stages r.dual r.units made → IsTrue (are_positions F r.kept)
linear_positions F pivots made r form limits run = left_rises F r.stages r.kept (run_ends F form limits pivots r.kept r.stages r.dual r.units made run).begun

-- and what it gives tells a reduction
pub linear_found : (rest : Cnf) (pivots made : ℕ) (r : LinearResult) (set : List ℤ) → linear_run rest pivots ≡ RunDone r.kept r.stages r.dual r.units made → set ≡ sign_line rest r.stages
    → TellsReduction class.Linear pivots rest (record { kept = r.kept; set = set; body = Linear r.stages r.dual r.units })
linear_found rest pivots made r set run line = λ F protect form limits protects is.
    let P = protected_by protect in
    let there : linear_run (rest_of F protect) pivots ≡ RunDone r.kept r.stages r.dual r.units made = ap (λ (G : Cnf). linear_run G pivots) is ∙ run in
    let same : sign_line (rest_of F protect) r.stages ≡ set = ap (λ (G : Cnf). sign_line G r.stages) is ∙ sym line in
    subst (λ (ls : List ℤ). Reduces F class.Linear pivots (document_of F protect (record { kept = r.kept; set = ls; body = Linear r.stages r.dual r.units }))) same
    (same_document F protect class.Linear pivots (record { kept = r.kept; set = sign_line (rest_of F protect) r.stages; body = Linear r.stages r.dual r.units })
    (found_law.linear F protect pivots (linear_document (rest_of F protect) r) form limits protects refl
    (linear_run_law.reduces (rest_of F protect) pivots made r (formula_form P F form) (limits_left P F limits) there)))

-- WHAT IS WRITTEN

-- the text of the document of what was found, with the line of the listed variables
pub writes_found : (F : Cnf) (class : Class) (listed protect : Option (List ℕ)) (rest : Cnf) (found : Found) (pivots : ℕ) (d : DoneDocument) (written : List ℕ) → IsTrue (is_formula F) → IsWithinLimits F
    → protect ≡ protect_line_of F listed → IsTrue (is_protect_line F.vars protect) → rest_of F protect ≡ rest → TellsReduction class pivots rest found
    → d ≡ document_of F protect found → written ≡ text_of (Finished d) → WritesReduction F class listed pivots written
writes_found F class listed protect rest found pivots d written form limits lists line is h told text = record {
  document = d;
  reduces = subst (λ (e : DoneDocument). Reduces F class pivots e) (sym told) (h F protect form limits line is);
  protects = ap (λ (e : DoneDocument). e.protect) told ∙ lists;
  written_is = text;
}
