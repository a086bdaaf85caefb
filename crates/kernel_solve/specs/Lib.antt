pub mod KernelParts
pub mod Answers
pub mod Solutions
pub mod RefutationLaw
pub mod ModelLaw
