pub mod SubCopies
pub mod Told
pub mod CopiedMatchings
pub mod RenamedMatchings
