-- Tests, lists, clauses and assignments.
pub mod Tests
pub mod Lists
pub mod ChosenLiterals
pub mod Autarkies
pub mod Kernels
pub mod Extensions
pub mod KeptLines
pub mod Clauses
pub mod Lines
pub mod Occurrences
pub mod Assignments
pub mod ApartLiterals
-- What the checks of every document show, and a reduction.
pub mod FirstChecks
pub mod Passed
pub mod PureAutarkies
pub mod LinearAutarkies
pub mod Reductions
-- Lean sets together.
pub mod KernelLaws
-- Clauses without the literals of a set of variables, and where nothing is left out.
pub mod Crossing
pub mod EmptyLaws
-- Tables and lists that code fills in a loop.
pub mod FirstTables
pub mod WeightLines
pub mod Overwritten
