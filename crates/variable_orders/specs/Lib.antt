pub mod VariableOrders
pub mod Arrivals
