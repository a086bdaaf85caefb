-- Whatever made them, two documents of one formula keep the same clauses.
use Rattle.std.specs.Prelude.{◌≡◌, ℕ}
use Rattle.lk_model.specs.declared.class.Class.{Class}
use Rattle.lk_model.specs.Formulas.Formula.{Cnf, clauses_at}
use Rattle.lk_model.specs.Formulas.Crossed.{Variables, protected_by}
use Rattle.lk_model.specs.Documents.Documents.{class_of}
use Rattle.lk_model.specs.Checks.Checks.{AcceptsUnder}
use Rattle.lk_model.specs.Reduction.{IsReduction, Reduces}
use Rattle.lk_model.specs.declared.document.DoneDocument.{DoneDocument}

-- the documents protect the same variables
abbrev pub ProtectTheSame : DoneDocument → DoneDocument → Type 0
ProtectTheSame d e = (v : ℕ) → protected_by d.protect v ≡ protected_by e.protect v

-- Two reductions of one formula, of one class and with the same protected variables, keep the same positions. The clause lines
-- of an accepted document are the clauses at its positions. So two documents that reduce the formula have the same ones.
pub record SameKeptLaw : Type 0 where
  pub kept : (F : Cnf) (d e : DoneDocument) → class_of d.body ≡ class_of e.body → ProtectTheSame d e → IsReduction F d
      → IsReduction F e
      → d.kept ≡ e.kept
  pub lines : (P : Variables) (F : Cnf) (d : DoneDocument) → AcceptsUnder P F d → d.texts ≡ clauses_at F d.kept
  pub same : (F : Cnf) (class : Class) (pivots others : ℕ) (d e : DoneDocument) → ProtectTheSame d e
      → Reduces F class pivots d
      → Reduces F class others e → (d.kept ≡ e.kept) × (d.texts ≡ e.texts)
