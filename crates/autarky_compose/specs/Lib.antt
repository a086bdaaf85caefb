pub mod Ordered
pub mod JoinedMatching
pub mod JoinedGeneral
pub mod Tables
