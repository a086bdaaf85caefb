pub mod ModelTexts
pub mod Fed
