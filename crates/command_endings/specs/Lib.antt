pub mod Commands
pub mod Answering
pub mod Counting
pub mod Listing
pub mod EndsDone
