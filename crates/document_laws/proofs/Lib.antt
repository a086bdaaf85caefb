-- Protected variables, and documents with a protect line.
pub mod Autarkies
pub mod OneKernels
pub mod Runs
pub mod Parts
pub mod Rounds
pub mod Commons
pub mod Classes
pub mod Orders
pub mod ProtectedCheckLaws
pub mod AcceptedLaws
pub mod ExtensionLaws
pub mod LinearRuns
pub mod FoundLaws
-- Whatever made them, two documents keep the same.
pub mod SameKept
-- That a formula has a kernel.
pub mod Existence
