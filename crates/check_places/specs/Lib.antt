pub mod Flags
pub mod FirstAnswers
pub mod Places
