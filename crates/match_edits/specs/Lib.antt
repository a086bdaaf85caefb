pub mod Followed
pub mod EditLaws
pub mod Held
pub mod LiveKernel
