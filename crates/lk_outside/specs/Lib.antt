pub mod Causes
pub mod Calls
pub mod Reads
pub mod Places
pub mod ShelfState
pub mod SinkState
