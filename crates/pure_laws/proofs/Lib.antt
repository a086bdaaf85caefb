pub mod BothSigns
pub mod PureLiterals
pub mod Runs
pub mod Orders
pub mod Pairs
pub mod PureLaws
pub mod PureResults
