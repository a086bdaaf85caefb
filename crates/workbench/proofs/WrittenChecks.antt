-- What `check` comes to on what `reduce` wrote.
use Rattle.std.proofs.Common.{◌≡◌, ◌∙◌, ℕ, List, Option, refl, sym, ap, subst}
use Rattle.std.specs.Prelude.{IfSome, IsSome, IsTrue}
use Rattle.lk_model.specs.Formulas.Formula.{Cnf}
use Rattle.lk_model.specs.Texts.Dimacs.{Spells}
use Rattle.lk_model.specs.Texts.Lines.{Word}
use Rattle.lk_model.specs.Texts.PlainText.{line}
use Rattle.lk_model.specs.Documents.Reading.{IsTextOfDocument}
use Rattle.lk_model.specs.Reduction.{ReducesTo, StopsUnfinished}
use Rattle.lk_model.specs.declared.class.Class.{Class}
use Rattle.lk_model.specs.declared.class.Class.TheVariants.{Pure, Matching, Linear, General}
use Rattle.lk_model.specs.declared.document.Document.{Document}
use Rattle.lk_model.proofs.FaultConverse.{fault_law}
use Rattle.lean_checker.specs.Verdicts.{verdict_of, verdict_words}
use Rattle.lean_checker.specs.declared.verdict.Verdict.{Verdict}
use Rattle.lean_checker.specs.declared.verdict.Verdict.TheVariants as verdict
use Rattle.cert_text.proofs.ReadLaws.{of_one_document}
use Rattle.status_lines.specs.Verdicts.{verdict_status}
use Rattle.workbench.specs.Endings.{Shelved, Sunk, Takes, HasValues, IsDecidedFor, IsDecided}
use Rattle.command_inputs.specs.Inputs.{Told}
use Rattle.command_words.specs.Lawful.{Request}
use Rattle.command_words.specs.Settings.{Options}
use Rattle.status_lines.specs.Statuses.{code, is_result}
use Rattle.workbench.specs.WrittenChecks.{HasWritten, AsksCheck, ChecksAs, WrittenChecksAsAccepted, StoppedChecksAsUnfinished}
use Rattle.workbench.proofs.Agreement.{written_accepted, stopped_unfinished}
use Rattle.workbench.proofs.Runs.{numbered, ends_with, wrote}
use Rattle.command_endings.proofs.GeneralEndings.{kernel_of, stop_of}
use Rattle.command_words.specs.declared.command.Command.TheVariants.{ReducePure, ReduceMatching, ReduceLinear, ReduceGeneral}

-- WHAT STANDS ON `out`

-- with status 0 it is a reduction of the text
has_reduced : (class : Class) (options : Options) (text written : List ℕ) → HasWritten class options text 0 written → ReducesTo text class options.protect options.pivots written
has_reduced Pure options text written h = let a = wrote ReducePure options text 0 written h refl in record { formula = a.values.0; spells = a.read.0; writes = a.answers.writes }
has_reduced Matching options text written h = let a = wrote ReduceMatching options text 0 written h refl in record { formula = a.values.0; spells = a.read.0; writes = a.answers.writes }
has_reduced Linear options text written h = let a = wrote ReduceLinear options text 0 written h refl in record { formula = a.values.0; spells = a.read.0; writes = a.answers.writes }
has_reduced General options text written h = let a = wrote ReduceGeneral options text 0 written h refl in record { formula = a.values.0; spells = a.read.0; writes = (kernel_of a.answers).0.reduction }

-- with 5, of general, it is an unfinished document
has_stopped : (options : Options) (text written : List ℕ) → HasWritten General options text 5 written → StopsUnfinished text options.protect options.conflicts written
has_stopped options text written h =
    let a = wrote ReduceGeneral options text 5 written h refl in
    let w = (stop_of a.answers).0 in
    record { formula = a.values.0; spells = a.read.0; unfinished = w.unfinished; part = w.part; is_part = w.is_part; names = w.names }

-- WHAT THE CHECK COMES TO

-- the status of a verdict is that of a result
pub told_by : (v : Verdict) → IsTrue (is_result (numbered (code (verdict_status v))))
told_by verdict.Accepted = refl
told_by (verdict.Unfinished learned) = refl
told_by (verdict.No why) = refl

-- and inputs that are read decide it
pub decided_by : (request : Request) (told : Told) (v : Verdict) → HasValues request told (verdict_status v) → IsDecidedFor request told (verdict_status v)
decided_by request told verdict.Accepted h = h
decided_by request told (verdict.Unfinished learned) h = h
decided_by request told (verdict.No why) h = h

-- where the verdict on the two texts is known
pub checks_as : (text written : List ℕ) (F : Cnf) (d : Document) (v : Verdict) → Spells text F → IsTextOfDocument written d → verdict_of F d ≡ v → (words : List Word) (shelf : Shelved) (out say : Sunk) → AsksCheck words shelf.told text written
    → ChecksAs words shelf out say v
checks_as text written F d v spells is known words shelf out say a = record {
  decided = subst (λ (o : Option Request). IsDecided o shelf.told (verdict_status v)) (sym a.asks)
      (decided_by _ shelf.told v (record {
        told_all = (subst (λ (o : Option (List ℕ)). IsSome o) (sym a.text_is) refl, (subst (λ (o : Option (List ℕ)). IsSome o) (sym a.written_is) refl, tt));
        values = (F, (d, tt));
        read = (subst (λ (o : Option (List ℕ)). IfSome o (λ bytes. Spells bytes F)) (sym a.text_is) spells, (subst (λ (o : Option (List ℕ)). IfSome o (λ bytes. IsTextOfDocument bytes d)) (sym a.written_is) is, tt));
        decides = ap verdict_status (sym known);
      }));
  writes = λ e.
      let r = ends_with words shelf out say _ (code (verdict_status v)) e a.asks (told_by v) in
      let formula : r.values.0 ≡ F = fault_law.one text r.values.0 F (subst (λ (o : Option (List ℕ)). IfSome o (λ bytes. Spells bytes r.values.0)) a.text_is r.read.0) spells in
      let document : r.values.1.0 ≡ d = of_one_document written r.values.1.0 d (subst (λ (o : Option (List ℕ)). IfSome o (λ bytes. IsTextOfDocument bytes r.values.1.0)) a.written_is r.read.1.0) is in
      let same : verdict_of r.values.0 r.values.1.0 ≡ v = (λ i. verdict_of (formula i) (document i)) ∙ known in
      (subst (Takes out) (r.answers.writes ∙ ap (λ (v : Verdict). line (verdict_words v)) same) e.taken.0, e.taken.1.same r.answers.silent);
}

pub written_checks : WrittenChecksAsAccepted
written_checks class options text written h words shelf out say a =
    let w = written_accepted text written class options.protect options.pivots (has_reduced class options text written h) in
    checks_as text written w.F w.d verdict.Accepted w.spells w.read w.accepted words shelf out say a

pub stopped_checks : StoppedChecksAsUnfinished
stopped_checks options text written h words shelf out say a =
    let w = stopped_unfinished text written options.protect options.conflicts (has_stopped options text written h) in
    checks_as text written w.F w.d (verdict.Unfinished options.conflicts) w.spells w.read w.unfinished words shelf out say a
