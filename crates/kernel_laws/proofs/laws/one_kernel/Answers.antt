use Rattle.kernel_laws.proofs.Kernels.{one_kernel}
use Rattle.kernel_laws.proofs.laws.one_kernel.Goals as goal

pub returns : goal.returns
returns c = one_kernel
