pub mod BlockTables
pub mod Reaching
pub mod ChainChecks
pub mod StepPlaces
pub mod WorkSets
pub mod Repeating
pub mod IndexLemmas
pub mod LearnedChecks
