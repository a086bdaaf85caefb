-- What `demo` writes of what is found in its formula.
use Rattle.std.proofs.Common.{◌≡◌, ◌∙◌, ℕ, ◌<◌, ◌^◌, List, [], ◌++◌, None, Result, Ok, Err, IfOk, length, refl, sym, ap, subst, arith}
use Rattle.std.specs.Prelude.{IsTrue, flat_map}
use Rattle.lk_model.specs.Formulas.Assignment.{assignment_of}
use Rattle.lk_model.specs.Formulas.Crossed.{no_variable}
use Rattle.lk_model.specs.Formulas.Formula.{Cnf, is_formula, IsWithinLimits}
use Rattle.lk_model.specs.Checks.Checks.{Accepts}
use Rattle.lk_model.specs.Documents.Text.{text_of}
use Rattle.lk_model.specs.Reduction.{Reduces}
use Rattle.lk_model.specs.Formulas.Protected.{ReducesBy}
use Rattle.lk_model.specs.Texts.PlainText.{line}
use Rattle.lk_model.specs.declared.class.Class.{Class}
use Rattle.lk_model.specs.declared.class.Class.TheVariants.{Matching, General}
use Rattle.lk_model.specs.declared.document.Document.TheVariants.{Done as Finished, Unfinished}
use Rattle.lk_model.specs.declared.document.DoneDocument.{DoneDocument}
use Rattle.lk_model.specs.declared.document.OpenDocument.{OpenDocument}
use Rattle.lk_model.specs.declared.document.Round.{Round}
use Rattle.lk_model.specs.declared.list.OutOfMemory.{OutOfMemory}
use Rattle.kernel_laws.proofs.EmptyLaws.{formula_same}
use Rattle.lean_checker.specs.Verdicts.{verdict_by, verdict_of, verdict_words}
use Rattle.lean_checker.specs.declared.verdict.Verdict.TheVariants.{Accepted}
use Rattle.part_kernels.specs.ByParts.{IsFirstUnfinished}
use Rattle.demo_formula.specs.Demo.{demo_formula}
use Rattle.command_endings.specs.Commands.Demo.{conflicts, demo_rows, Answers, finished, stopped, WritesDemo, IsCheckedSize}
use Rattle.status_lines.specs.RunLines.{conflicts_line}
use Rattle.command_endings.specs.Commands.ReduceGeneral.{WritesUnfinishedKernel}
use Rattle.command_endings.specs.Commands.Report.{IsKernelSize, row_line}
use Rattle.reductions.specs.Founds.{document_of, open_document_of, IsFoundFor, IsKernelFound}
use Rattle.reductions.specs.declared.document.Found.{Found}
use Rattle.status_lines.specs.declared.ending.Ending.{Ending}
use Rattle.status_lines.specs.declared.status.Status.TheVariants.{Done, Budget}
use Rattle.command_endings.proofs.GeneralEndings.{writes_open}
use Rattle.command_endings.proofs.KernelSizes.{size_kept}

-- the document of what is found reduces the formula
pub reduces_formula : (F : Cnf) (found : Found) → IsTrue (is_formula F) → IsWithinLimits F → IsFoundFor General F found → Reduces F General 0 (document_of F None found)
reduces_formula F found form limits h = h.reduces 0 F None form limits refl (formula_same F)

pub accepted_verdict : (F : Cnf) (d : DoneDocument) → Accepts F d → verdict_of F (Finished d) ≡ Accepted
accepted_verdict F d a = ap (verdict_by (Finished d)) a.checks

general_size : (F : Cnf) (found : Found) → Reduces F General 0 (document_of F None found) → IsKernelSize General F (length found.kept)
general_size F found r =
    size_kept General F found.kept (assignment_of found.set)
    (subst (λ (class : Class). ReducesBy no_variable class F found.kept (assignment_of found.set)) r.class_is r.reduction)

-- the lines of a formula that is the number's
pub writes_demo : (number matching : ℕ) (F : Cnf) (found : Found) (text : List ℕ) → F ≡ demo_formula number → IsTrue (is_formula F) → IsWithinLimits F → IsKernelFound F conflicts found → IsKernelSize Matching F matching
    → text ≡ flat_map row_line (demo_rows number matching (length found.kept)) ++ line (verdict_words Accepted) → WritesDemo number text
writes_demo number matching F found text is form limits h size told =
    let r = reduces_formula F found form limits h.kernel in
    record {
      matching = matching;
      general = length found.kept;
      matching_is = subst (λ (G : Cnf). IsKernelSize Matching G matching) is size;
      general_is = subst (λ (G : Cnf). IsKernelSize General G (length found.kept)) is (general_size F found r);
      checked = subst (λ (G : Cnf). IsCheckedSize G (length found.kept)) is (record {
        document = document_of F None found;
        class_is = r.class_is;
        accepted = accepted_verdict F (document_of F None found) r.accepted;
        size_is = refl;
        needed = h.needed;
        budget = h.budget;
      });
      written_is = told;
    }

-- the text of rounds over one part
pub writes_rounds : (number : ℕ) (F : Cnf) (rounds : List Round) (d : OpenDocument) (written : List ℕ) → F ≡ demo_formula number → IsTrue (is_formula F) → IsWithinLimits F → IsFirstUnfinished F conflicts rounds
    → d ≡ open_document_of F None conflicts rounds → written ≡ text_of (Unfinished d) → WritesUnfinishedKernel None conflicts (demo_formula number) written
writes_rounds number F rounds d written is form limits h told text =
    let there = subst (λ (G : Cnf). IsFirstUnfinished G conflicts rounds) (sym (formula_same F)) h in
    let few : conflicts < 2 ^ 63 = omega arith in
    subst (λ (G : Cnf). WritesUnfinishedKernel None conflicts G written) is
    (writes_open None conflicts F None rounds d written form limits refl there few told text)

-- and so the ending that writes it is an answer
pub rounds_answer : (number : ℕ) (F : Cnf) (rounds : List Round) (d : OpenDocument) (r : Result Ending OutOfMemory) → F ≡ demo_formula number → IsTrue (is_formula F) → IsWithinLimits F → IsFirstUnfinished F conflicts rounds
    → d ≡ open_document_of F None conflicts rounds → IfOk r (λ e. e.status ≡ Budget) → IfOk r (λ e. e.written.items ≡ text_of (Unfinished d)) → IfOk r (λ e. e.said.items ≡ conflicts_line d.learned)
    → IfOk r (λ e. Answers number e.written.items e.said.items e.status)
rounds_answer number F rounds d (Err e) is form limits h told status written said = tt
rounds_answer number F rounds d (Ok e) is form limits h told status written said =
    subst (Answers number e.written.items e.said.items) (sym status)
    (stopped (writes_rounds number F rounds d e.written.items is form limits h told written) (said ∙ ap (λ (o : OpenDocument). conflicts_line o.learned) told))

-- what a status tells
module _ {number : ℕ} {written said : List ℕ} where
  pub rows_of : Answers number written said Done → WritesDemo number written × (said ≡ [])
  rows_of (finished w silent) = (w, silent)

  pub stop_of : Answers number written said Budget → WritesUnfinishedKernel None conflicts (demo_formula number) written × (said ≡ conflicts_line conflicts)
  stop_of (stopped w line) = (w, line)
