pub mod EmptyCores
