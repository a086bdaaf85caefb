pub mod Learning
pub mod PartCopies
pub mod ToldRefutations
