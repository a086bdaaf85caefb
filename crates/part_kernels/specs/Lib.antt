pub mod ByParts
