-- Protected variables, and documents with a protect line.
pub mod Without
pub mod CarryLaw
pub mod ProtectedCheckLaw
pub mod AcceptedLaw
pub mod FoundLaw
pub mod ExtensionLaw
-- Kernels under protected variables.
pub mod OneKernelUnder
pub mod SameKept
pub mod ExistenceLaw
