pub mod LiteralSetLemmas
pub mod KeptFlags
pub mod FirstTables
pub mod Spans
pub mod Parts
