pub mod Streams
pub mod Feeding
pub mod InputStops
pub mod ModelReads
pub mod EditReads
pub mod LineStreams
pub mod LineReads
pub mod InputLaws
