pub mod Fields
pub mod SizeLines
pub mod FieldLists
pub mod LastVars
pub mod Taking
pub mod Spaced
pub mod LineReading
pub mod DraftReading
