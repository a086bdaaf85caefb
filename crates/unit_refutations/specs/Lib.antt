pub mod Agendas
pub mod Trails
pub mod Looks
pub mod Chains
pub mod Contained
pub mod Standing
