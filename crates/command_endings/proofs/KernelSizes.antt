-- The sizes of kernels.
use Rattle.std.proofs.Common.{ℕ, List, length, ap}
use Rattle.lk_model.specs.Formulas.Assignment.{Assignment}
use Rattle.lk_model.specs.Formulas.Crossed.{no_variable}
use Rattle.lk_model.specs.Formulas.Formula.{Cnf, positions_of}
use Rattle.lk_model.specs.Formulas.Lean.{Kernel, KernelWithin}
use Rattle.lk_model.specs.Formulas.Protected.{ReducesBy}
use Rattle.lk_model.specs.declared.class.Class.{Class}
use Rattle.kernel_laws.proofs.Kernels.{one_kernel}
use Rattle.kernel_laws.proofs.Occurrences.{in_positions}
use Rattle.kernel_laws.proofs.Reductions.{kernel_plain}
use Rattle.command_endings.specs.Commands.Report.{IsKernelSize}

size_of : (class : Class) (F : Cnf) (kept : List ℕ) → Kernel class F kept → IsKernelSize class F (length kept)
size_of class F kept k = record { kept = kept; kernel = k; each = λ others o. ap length (one_kernel class F kept others k o) }

-- what a reduction keeps
pub size_kept : (class : Class) (F : Cnf) (kept : List ℕ) (φ : Assignment) → ReducesBy no_variable class F kept φ → IsKernelSize class F (length kept)
size_kept class F kept φ r = size_of class F kept (kernel_plain class F kept r.kernel)

-- what is kept of all positions
pub size_of_all : (class : Class) (F : Cnf) (kept : List ℕ) → KernelWithin class F (positions_of F) kept → IsKernelSize class F (length kept)
size_of_all class F kept k = size_of class F kept (record {
  positions = k.positions;
  lean = k.lean;
  largest = λ S within lean. k.largest S (λ p there. in_positions F p (within p there)) lean;
})
