pub mod Found
pub mod Renamed
pub mod Copies
