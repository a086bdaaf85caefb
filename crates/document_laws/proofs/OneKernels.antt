-- A formula has one kernel of a class at most under protected variables.
use Rattle.lk_model.specs.Formulas.Crossed.{formula_without}
use Rattle.kernel_laws.proofs.Kernels.{one_kernel}
use Rattle.document_laws.specs.OneKernelUnder.{HasOneKernelUnder}
use Rattle.document_laws.proofs.Autarkies.{autarky_law}

pub one_kernel_under : HasOneKernelUnder
one_kernel_under P class F ps qs k l =
    one_kernel class (formula_without F P) ps qs ((autarky_law.kernel P class F ps).0 k) ((autarky_law.kernel P class F qs).0 l)
