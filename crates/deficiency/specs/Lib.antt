pub mod Deficiency
pub mod DeficiencyLaw
