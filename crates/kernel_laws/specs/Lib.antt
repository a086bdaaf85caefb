pub mod OneKernel
pub mod KernelLaw
pub mod EmptyLaw
pub mod Accepted
pub mod FirstTables
