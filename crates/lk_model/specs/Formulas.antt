-- Formulas, assignments and autarkies; lean sets and their largest, the kernel; protected variables.
pub mod Literal
pub mod Formula
pub mod Assignment
pub mod Units
pub mod Balance
pub mod Autarky
pub mod Lean
pub mod Crossed
pub mod Protected
pub mod PureRun
pub mod Parts
pub mod Minimal
