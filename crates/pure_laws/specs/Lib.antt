pub mod PureLaw
pub mod PureResults
