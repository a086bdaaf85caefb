use Rattle.std.proofs.Common.{◌≡◌, ◌++◌, drop, map}
use Rattle.std.specs.List.{flat_map}
use Rattle.lk_model.specs.Texts.PlainText.{line}
use Rattle.command_endings.specs.Commands.Deficiency.{own_words}
use Rattle.command_endings.proofs.deficiency_command.put_owns.Given as goal

-- what is written, and what is left to write
abbrev pub invariant-loop-own : goal.invariant-loop-own
invariant-loop-own l =
    l.text.items ++ flat_map line (map own_words (drop l.own-index l.owns)) ≡ l.fn.text.items ++ flat_map line (map own_words l.owns)
