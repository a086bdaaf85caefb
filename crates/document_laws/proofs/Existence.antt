-- That a formula has a kernel.
pub mod Bounded
pub mod Searching
pub mod PureExists
pub mod GeneralExists
pub mod MatchingExists
pub mod ExistenceLaws
