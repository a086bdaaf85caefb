-- What a reduction keeps is determined.
use Rattle.std.proofs.Common.{◌≡◌, ◌∙◌, ℕ, List, Option, sym, ap, subst}
use Rattle.lk_model.specs.Checks.Checks.{Accepts}
use Rattle.lk_model.specs.Documents.Reading.{IsTextOfDocument}
use Rattle.lk_model.specs.Formulas.Crossed.{protected_by, protect_line_of}
use Rattle.lk_model.specs.Formulas.Formula.{Cnf, clauses_at}
use Rattle.lk_model.specs.Reduction.{ReducesTo, WritesReduction, IsReduction}
use Rattle.lk_model.specs.declared.class.Class.{Class}
use Rattle.lk_model.specs.declared.document.Document.TheVariants.{Done}
use Rattle.lk_model.specs.declared.document.DoneDocument.{DoneDocument}
use Rattle.lk_model.proofs.FaultConverse.{fault_law}
use Rattle.document_laws.proofs.SameKept.{same_kept_law}
use Rattle.cert_text.proofs.ReadLaws.{of_one_document}
use Rattle.workbench.specs.KeptClauses.{IsReductionOf, KeepTheSame, KeptLaw}

-- what a document shows of a formula that is known
record Shows (F : Cnf) (protect : Option (List ℕ)) (d : DoneDocument) : Type 0 where
  protects : d.protect ≡ protect_line_of F protect
  accepts : Accepts F d
  reduction : IsReduction F d

both_same : (text : List ℕ) (class : Class) (protect : Option (List ℕ)) (d e : DoneDocument) → IsReductionOf text class protect d → IsReductionOf text class protect e → KeepTheSame d e
both_same text class protect d e r s =
    let one : s.formula ≡ r.formula = fault_law.one text s.formula r.formula s.spells r.spells in
    let other : Shows r.formula protect e = subst (λ (F : Cnf). Shows F protect e) one (record { protects = s.protects; accepts = s.accepts; reduction = s.reduction }) in
    let lines : d.protect ≡ e.protect = r.protects ∙ sym other.protects in
    let kept : d.kept ≡ e.kept = same_kept_law.kept r.formula d e (r.class_is ∙ sym s.class_is) (λ v. ap (λ (o : Option (List ℕ)). protected_by o v) lines) r.reduction other.reduction in
    record {
      kept = kept;
      texts = same_kept_law.lines (protected_by d.protect) r.formula d r.accepts ∙ ap (clauses_at r.formula) kept ∙ sym (same_kept_law.lines (protected_by e.protect) r.formula e other.accepts);
      protect = lines;
    }

-- the document that is written is that of the text
document_is : (F : Cnf) (class : Class) (listed : Option (List ℕ)) (pivots : ℕ) (written : List ℕ) (d : DoneDocument) (w : WritesReduction F class listed pivots written) → IsTextOfDocument written (Done d) → w.document ≡ d
document_is F class listed pivots written d w is =
    let same = of_one_document written (Done w.document) (Done d) (record { form = w.reduces.accepted.form; text = w.written_is }) is in
    cc

is_written : (text : List ℕ) (class : Class) (protect : Option (List ℕ)) (pivots : ℕ) (written : List ℕ) (d : DoneDocument) → ReducesTo text class protect pivots written → IsTextOfDocument written (Done d) → IsReductionOf text class protect d
is_written text class protect pivots written d r is =
    let w = r.writes in
    subst (IsReductionOf text class protect) (document_is r.formula class protect pivots written d w is) (record {
      formula = r.formula;
      spells = r.spells;
      class_is = w.reduces.class_is;
      protects = w.protects;
      accepts = w.reduces.accepted;
      reduction = w.reduces.reduction;
    })

pub kept_clauses_law : KeptLaw
kept_clauses_law = record { same = both_same; written = is_written }
