pub mod EmptyAt
