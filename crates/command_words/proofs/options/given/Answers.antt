use Rattle.command_words.specs.Settings.{conflicts, value_behind}
use Rattle.command_words.proofs.OptionWords.{conflicts_fit}
use Rattle.command_words.proofs.Texts.{texts}
use Rattle.command_words.proofs.options.given.Goals as goal

pub unwrap-requires : goal.unwrap-requires
unwrap-requires c = c.new.ensures.some.1 (rw c.option_number.ensures (conflicts_fit (value_behind conflicts.word (texts c.args.words.now))))
