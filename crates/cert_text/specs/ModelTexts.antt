-- What the reader of models promises, as `model_text` has it.
pub use Rattle.model_text.specs.ModelTexts.{IsModelRead, IsModelStop}
