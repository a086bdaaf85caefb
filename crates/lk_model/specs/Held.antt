-- How the code holds formulas, clauses, sets of variables, tables over literals and assignments. The mathematics does
-- not use it.
pub mod Flat
pub mod Growing
pub mod VariableSets
pub mod PartialValues
pub mod LiteralTables
