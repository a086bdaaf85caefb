pub mod Renaming
pub mod CrossedCopies
