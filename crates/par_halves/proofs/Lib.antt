pub mod AllOk
pub mod HalfResults
