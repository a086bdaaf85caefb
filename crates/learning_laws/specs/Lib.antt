pub mod Learned
pub mod QuietLaw
pub mod ChainLaw
pub mod TrailLaw
pub mod ModelLaw
pub mod SolveLaw
pub mod PlaceLaw
pub mod WalkLaw
