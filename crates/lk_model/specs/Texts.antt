-- Texts: which of them spell a formula, and where the first fault of another one is; models.
pub mod Lines
pub mod NumberWords
pub mod PlainText
pub mod Dimacs
pub mod Fault
pub mod ModelText
