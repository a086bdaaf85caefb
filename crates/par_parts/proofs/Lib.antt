pub mod AllOk
pub mod OneMore
pub mod Occurring
pub mod Labelling
pub mod Passing
pub mod Numbers
pub mod PartLists
pub mod GroupLists
