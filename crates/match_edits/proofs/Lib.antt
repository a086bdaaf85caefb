pub mod Rows
pub mod Grown
pub mod Shrunk
pub mod Rooms
pub mod Edited
pub mod LiveKernels
pub mod Covered
pub mod Holding
