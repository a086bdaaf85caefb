pub mod Naming
pub mod Copying
