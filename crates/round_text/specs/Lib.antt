pub mod RoundLines
pub mod StepWords
