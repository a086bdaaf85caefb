-- An autarky of a class that touches exactly what is not kept, where what is kept is lean, makes a reduction.
use Rattle.std.proofs.Common.{◌≡◌, ℕ, true, not, ◌&&◌, ◌==◌, List, sym, subst, IsTrue}
use Rattle.lk_model.specs.declared.class.Class.{Class}
use Rattle.lk_model.specs.declared.class.Class.TheVariants.{Pure, Matching, Linear, General}
use Rattle.lk_model.specs.Lists.{among}
use Rattle.lk_model.specs.Formulas.Literal.{variable}
use Rattle.lk_model.specs.Formulas.Formula.{Cnf, clause_at, is_formula}
use Rattle.lk_model.specs.Formulas.Crossed.{no_variable}
use Rattle.lk_model.specs.Formulas.Assignment.{Assignment, assignment_of, makes_true, touches}
use Rattle.lk_model.specs.Formulas.Autarky.{Positions, IsAutarky, IsClassAutarky}
use Rattle.lk_model.specs.Formulas.Lean.{IsLean, Kernel, are_positions, all_of}
use Rattle.lk_model.specs.Formulas.Protected.{SetsNone, IsLeanUnder, KernelUnder, ReducesBy}
use Rattle.lk_model.specs.Documents.Documents.{class_of}
use Rattle.lk_model.specs.Reduction.{IsReductionUnder}
use Rattle.lk_model.specs.declared.document.DoneDocument.{DoneDocument}
use Rattle.lk_model.proofs.Booleans.{and_true}
use Rattle.lk_model.proofs.Variables.{any_mono}
use Rattle.kernel_laws.proofs.Kernels.{kernel_by}
use Rattle.kernel_laws.proofs.Extensions.{models_by}
use Rattle.kernel_laws.proofs.PureAutarkies.{pure_satisfies}
use Rattle.kernel_laws.proofs.LinearAutarkies.{linear_is_autarky}

-- an autarky of each class satisfies what it touches
pub class_satisfies : (class : Class) (F : Cnf) (S : Positions) (φ : Assignment) → is_formula F ≡ true → IsClassAutarky class F S φ → IsAutarky F S φ
class_satisfies Pure F S φ form a = pure_satisfies F S φ form a
class_satisfies Matching F S φ form a = λ p s t.
    any_mono (λ l. makes_true φ l && (variable l == a.own p)) (makes_true φ) (clause_at F p) (λ l e. (and_true (makes_true φ l) (variable l == a.own p) e).0) (a.is_true p s t)
class_satisfies Linear F S φ form a = linear_is_autarky F S φ a
class_satisfies General F S φ form a = a

-- WITH NO VARIABLE PROTECTED

-- no protected variable is set
pub nothing_set : (φ : Assignment) → SetsNone no_variable φ
nothing_set φ v e = absurd (let f : ⊥ = cc in f)

-- sets that are lean are lean, and so for the kernel
pub lean_plain : (class : Class) (F : Cnf) (S : Positions) → IsLeanUnder no_variable class F S → IsLean class F S
lean_plain class F S lean φ a = lean φ (nothing_set φ, a)

pub lean_under : (class : Class) (F : Cnf) (S : Positions) → IsLean class F S → IsLeanUnder no_variable class F S
lean_under class F S lean φ a = lean φ a.1

pub kernel_plain : (class : Class) (F : Cnf) (kept : List ℕ) → KernelUnder no_variable class F kept → Kernel class F kept
kernel_plain class F kept k = record {
  positions = k.positions;
  lean = lean_plain class F (among kept) k.lean;
  largest = λ S within lean. k.largest S within (lean_under class F S lean);
}

pub kernel_under : (class : Class) (F : Cnf) (kept : List ℕ) → Kernel class F kept → KernelUnder no_variable class F kept
kernel_under class F kept k = record {
  positions = k.positions;
  lean = lean_under class F (among kept) k.lean;
  largest = λ S within lean. k.largest S within (lean_plain class F S lean);
}

-- THE REDUCTION

pub reduces_by : (class : Class) (F : Cnf) (kept : List ℕ) (φ : Assignment) → is_formula F ≡ true → are_positions F kept ≡ true → IsLean class F (among kept)
    → IsClassAutarky class F (all_of F) φ → ((p : ℕ) → IsTrue (all_of F p) → touches φ (clause_at F p) ≡ not (among kept p)) → ReducesBy no_variable class F kept φ
reduces_by class F kept φ form positions lean autarky touched = record {
  kernel = kernel_under class F kept (kernel_by class F kept φ positions lean autarky touched);
  autarky = (nothing_set φ, autarky);
  touched = touched;
  models = models_by F kept φ form (class_satisfies class F (all_of F) φ form autarky) touched;
}

-- that of a document of the class
pub reduction_of : (class : Class) (F : Cnf) (d : DoneDocument) → class_of d.body ≡ class → ReducesBy no_variable class F d.kept (assignment_of d.set) → IsReductionUnder no_variable F d
reduction_of class F d is r = subst (λ (c : Class). ReducesBy no_variable c F d.kept (assignment_of d.set)) (sym is) r
