pub mod Founds
pub mod SignTables
pub mod Protecting
