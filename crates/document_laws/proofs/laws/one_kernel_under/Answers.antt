use Rattle.document_laws.proofs.OneKernels.{one_kernel_under}
use Rattle.document_laws.proofs.laws.one_kernel_under.Goals as goal

pub returns : goal.returns
returns c = one_kernel_under
