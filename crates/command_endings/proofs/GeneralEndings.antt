-- How the general kernel is answered, and rounds that used up their budget.
use Rattle.std.proofs.Common.{◌≡◌, ◌∙◌, ℕ, ◌*◌, ◌^◌, ◌<◌, List, [], ◌∷◌, ◌++◌, Option, length, refl, sym, ap, subst, arith}
use Rattle.std.specs.Prelude.{IsTrue}
use Rattle.std.specs.List.{AllByRecursion}
use Rattle.lk_model.specs.Formulas.Formula.{Cnf, is_formula, IsWithinLimits}
use Rattle.lk_model.specs.Formulas.Crossed.{Variables, formula_without, protected_by, protect_line_of}
use Rattle.lk_model.specs.Formulas.Parts.{IsPartUnder, ArePartsUnder}
use Rattle.lk_model.specs.Chains.Rounds.{names_within, AreNeeded}
use Rattle.lk_model.specs.Chains.Searches.{WantsMore}
use Rattle.lk_model.specs.Checks.RoundChecks.{learned_steps}
use Rattle.lk_model.specs.Checks.Checks.{IsSound, HasProgress}
use Rattle.lk_model.specs.Documents.Form.{is_protect_line}
use Rattle.lk_model.specs.Documents.Text.{text_of}
use Rattle.lk_model.specs.Reduction.{Reduces}
use Rattle.lk_model.specs.declared.class.Class.TheVariants.{General}
use Rattle.lk_model.specs.declared.document.Document.TheVariants.{Done as Finished, Unfinished}
use Rattle.lk_model.specs.declared.document.DoneDocument.{DoneDocument}
use Rattle.lk_model.specs.declared.document.OpenDocument.{OpenDocument}
use Rattle.lk_model.specs.declared.document.Round.{Round}
use Rattle.lk_model.proofs.Crossings.{formula_form}
use Rattle.kernel_laws.proofs.Crossing.{same_count}
use Rattle.general_laws.specs.OpenResults.{open_document}
use Rattle.general_laws.proofs.OpenResults.{open_result_law}
use Rattle.document_laws.specs.FoundLaw.{rest_of, open_written_for}
use Rattle.document_laws.proofs.ProtectedCheckLaws.{protected_check_law}
use Rattle.document_laws.proofs.FoundLaws.{found_law, limits_without as limits_left}
use Rattle.document_laws.proofs.Parts.{run_law}
use Rattle.round_laws.specs.Budgets.{CanBeFinished}
use Rattle.lk_model.specs.Chains.Budgets.{AreWithinBudget}
use Rattle.round_laws.proofs.RoundLaws.{round_law}
use Rattle.part_kernels.specs.ByParts.{CanBeDone, IsFirstUnfinished}
use Rattle.command_endings.specs.Commands.ReduceGeneral.{WritesFinished, WritesUnfinishedKernel, Answers, finished, stopped, Decides, is_enough}
use Rattle.status_lines.specs.RunLines.{conflicts_line}
use Rattle.reductions.specs.Founds.{document_of, open_document_of, IsKernelFound}
use Rattle.lk_model.specs.Documents.Documents.{rounds_in}
use Rattle.reductions.specs.Protecting.{line_of, left_of, IsProblem}
use Rattle.command_words.specs.Settings.{Options}
use Rattle.reductions.specs.declared.document.Found.{Found}
use Rattle.reductions.specs.declared.problem.Problem.{Problem}
use Rattle.status_lines.specs.declared.status.Status.{Status}
use Rattle.status_lines.specs.declared.status.Status.TheVariants.{Done, Budget}
use Rattle.reductions.proofs.Protecting.{line_form}

-- WHERE ALL OF THE KERNEL IS FOUND

-- the document of what is found in what is left, written for the formula
pub writes_kernel : (options : Options) (F : Cnf) (protect : Option (List ℕ)) (rest : Cnf) (found : Found) (d : DoneDocument) (written : List ℕ) → IsTrue (is_formula F) → IsWithinLimits F
    → protect ≡ protect_line_of F options.protect → IsTrue (is_protect_line F.vars protect) → rest_of F protect ≡ rest → IsKernelFound rest options.conflicts found
    → d ≡ document_of F protect found → written ≡ text_of (Finished d) → WritesFinished options F written
writes_kernel options F protect rest found d written form limits lists line is h told text =
    let there : IsKernelFound (rest_of F protect) options.conflicts found = subst (λ (G : Cnf). IsKernelFound G options.conflicts found) (sym is) h in
    record {
      reduction = record {
        document = d;
        reduces = subst (λ (e : DoneDocument). Reduces F General options.pivots e) (sym told) (h.kernel.reduces options.pivots F protect form limits line is);
        protects = ap (λ (e : DoneDocument). e.protect) told ∙ lists;
        written_is = text;
      };
      needed = subst (λ (e : DoneDocument). AreNeeded F (protected_by e.protect) (rounds_in e.body)) (sym told) (round_law.protected_needed F protect (rounds_in found.body) there.needed);
      budget = subst (λ (e : DoneDocument). AreWithinBudget (protected_by e.protect) F options.conflicts (rounds_in e.body)) (sym told)
          (round_law.protected_budget F options.conflicts protect (rounds_in found.body) there.budget);
    }

pub done_answers : (options : Options) (F : Cnf) (p : Problem) (found : Found) (d : DoneDocument) (status : Status) (written said : List ℕ) → IsProblem F options.protect p → IsTrue (is_formula p.formula) → IsWithinLimits p.formula
    → IsKernelFound (left_of p) options.conflicts found → d ≡ document_of p.formula (line_of p) found
    → status ≡ Done → written ≡ text_of (Finished d) → said ≡ [] → Answers options F written said status
done_answers options F p found d status written said is form limits h told ends text silent =
    let line = subst (λ (l : Option (List ℕ)). IsTrue (is_protect_line F.vars l)) (sym is.line) (line_form F options.protect) in
    let told_of : d ≡ document_of F (line_of p) found = told ∙ ap (λ (G : Cnf). document_of G (line_of p) found) is.formula in
    let writes = writes_kernel options F (line_of p) (left_of p) found d written (subst (λ (G : Cnf). IsTrue (is_formula G)) is.formula form) (subst (λ (G : Cnf). IsWithinLimits G) is.formula limits) is.line line (sym is.left) h told_of text in
    subst (Answers options F written said) (sym ends) (finished writes silent)

-- WHERE THE BUDGET IS USED UP

-- parts whose kernels are found can be finished
each_finished : (P : Variables) (F : Cnf) (conflicts : ℕ) (parts : List (List ℕ)) → AllByRecursion (CanBeDone (formula_without F P) conflicts) parts → AllByRecursion (CanBeFinished P F conflicts) parts
each_finished P F conflicts [] h = tt
each_finished P F conflicts (part ∷ parts) h =
    let d = h.0.1 in ((h.0.0, record { result = d.result; needed = d.needed; most = d.most }), each_finished P F conflicts parts h.1)

-- the document of rounds over a part of what is left, written for the formula
pub writes_open : (listed : Option (List ℕ)) (conflicts : ℕ) (F : Cnf) (protect : Option (List ℕ)) (rounds : List Round) (d : OpenDocument) (written : List ℕ) → IsTrue (is_formula F) → IsWithinLimits F → protect ≡ protect_line_of F listed
    → IsFirstUnfinished (rest_of F protect) conflicts rounds → conflicts < 2 ^ 63 → d ≡ open_document_of F protect conflicts rounds → written ≡ text_of (Unfinished d) → WritesUnfinishedKernel listed conflicts F written
writes_open listed conflicts F protect rounds d written form limits lists h few told text =
    let P = protected_by protect in
    let G = rest_of F protect in
    let o = open_document G rounds in
    let u = h.unfinished in
    let there = open_result_law.sound G h.part rounds (formula_form P F form) (limits_left P F limits) h.positions h.apart u.result (subst (λ (n : ℕ). n < 2 ^ 63) (sym u.all) few) in
    let line = subst (λ (l : Option (List ℕ)). IsTrue (is_protect_line F.vars l)) (sym lists) (protected_check_law.listed F listed) in
    let same : open_written_for F protect o ≡ open_document_of F protect conflicts rounds = λ i. record { vars = F.vars; clauses = same_count F P i; protect = protect; learned = u.all i; rounds = rounds; texts = F } in
    let is = same ∙ sym told in
    record {
      unfinished = record {
        document = d;
        written_is = text;
        sound = subst (λ (e : OpenDocument). IsSound F e) is (found_law.unfinished F protect o form limits line refl there);
        progress = subst (λ (e : OpenDocument). HasProgress F e) is (found_law.progress F protect o refl (open_result_law.progress G h.part rounds u.result));
        protects = ap (λ (e : OpenDocument). e.protect) told ∙ lists;
        count = ap (λ (e : OpenDocument). e.learned) told;
      };
      learned = ap (λ (e : OpenDocument). length (learned_steps e.rounds)) told ∙ u.all;
      part = h.part;
      is_part = subst (λ (e : OpenDocument). IsPartUnder (protected_by e.protect) F h.part) (sym told) ((run_law.part P F h.part).1 h.is_part);
      names = subst (λ (e : OpenDocument). IsTrue (names_within F h.part e.rounds)) (sym told) (protected_check_law.names P F h.part rounds ∙ open_result_law.names G h.part rounds u.result);
      wants = subst (λ (e : OpenDocument). WantsMore F (protected_by e.protect) h.part e.rounds) (sym told) (round_law.protected_wants F protect h.part rounds u.wants);
      before = h.before;
      after = h.after;
      parts = subst (λ (e : OpenDocument). ArePartsUnder (protected_by e.protect) F (h.before ++ h.part ∷ h.after)) (sym told) ((run_law.parts P F (h.before ++ h.part ∷ h.after)).1 h.parts);
      finished = subst (λ (e : OpenDocument). AllByRecursion (CanBeFinished (protected_by e.protect) F conflicts) h.before) (sym told) (each_finished P F conflicts h.before h.done);
    }

pub open_answers : (options : Options) (F : Cnf) (p : Problem) (rounds : List Round) (d : OpenDocument) (status : Status) (written said : List ℕ) → IsProblem F options.protect p → IsTrue (is_formula p.formula) → IsWithinLimits p.formula
    → IsFirstUnfinished (left_of p) options.conflicts rounds → options.conflicts < 2 ^ 63 → d ≡ open_document_of p.formula (line_of p) options.conflicts rounds
    → status ≡ Budget → written ≡ text_of (Unfinished d) → said ≡ conflicts_line d.learned → Answers options F written said status
open_answers options F p rounds d status written said is form limits h few told budget text line =
    let there : IsFirstUnfinished (rest_of F (line_of p)) options.conflicts rounds = subst (λ (G : Cnf). IsFirstUnfinished G options.conflicts rounds) is.left h in
    let told_of : d ≡ open_document_of F (line_of p) options.conflicts rounds = told ∙ ap (λ (G : Cnf). open_document_of G (line_of p) options.conflicts rounds) is.formula in
    let writes = writes_open options.protect options.conflicts F (line_of p) rounds d written (subst (λ (G : Cnf). IsTrue (is_formula G)) is.formula form) (subst (λ (G : Cnf). IsWithinLimits G) is.formula limits) is.line there few told_of text in
    subst (Answers options F written said) (sym budget) (stopped writes there.unfinished.few (line ∙ ap (λ (e : OpenDocument). conflicts_line e.learned) told_of))

-- WHAT IS DECIDED

-- a status with which it may end is the decided one
pub general_status : {options : Options} {F : Cnf} {written said : List ℕ} {decided status : Status} → Decides options F decided → Answers options F written said status → status ≡ decided
general_status (is_enough enough) (finished w silent) = refl
general_status (is_enough enough) (stopped w few line) = absurd (omega (arith, few, enough))

-- WHAT A STATUS TELLS

module _ {options : Options} {F : Cnf} {written said : List ℕ} where
  pub kernel_of : Answers options F written said Done → WritesFinished options F written × (said ≡ [])
  kernel_of (finished w silent) = (w, silent)

  pub stop_of : Answers options F written said Budget → WritesUnfinishedKernel options.protect options.conflicts F written × (options.conflicts < F.vars * 3 ^ F.vars) × (said ≡ conflicts_line options.conflicts)
  stop_of (stopped w few line) = (w, few, line)
