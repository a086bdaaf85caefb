use Rattle.std.proofs.Common.{◌≡◌, ◌++◌, drop}
use Rattle.line_text.specs.Spaced.{spaced}
use Rattle.round_text.specs.StepWords.{turn_words}
use Rattle.round_text.proofs.print_rounds.put_turns.Given as goal

-- what is written, and what is left to write
abbrev pub invariant-loop-turn : goal.invariant-loop-turn
invariant-loop-turn l =
    l.out.items ++ spaced (turn_words (drop l.turn-index l.turns)) ≡ l.fn.out.items ++ spaced (turn_words l.turns)
