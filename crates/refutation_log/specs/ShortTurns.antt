-- Turns whose numbers fit 32 bits.
use Rattle.std.specs.Prelude.{◌^◌, Bool, nat_lt, List}
use Rattle.lk_model.specs.declared.document.Turn.{Turn}
use Rattle.refutation_log.specs.declared.turns.Held.{Held}
use Rattle.refutation_log.specs.declared.turns.Held.TheVariants.{Short, Long}

-- its number fits 32 bits
abbrev pub is_short : Turn → Bool
is_short t = nat_lt t.with (2 ^ 32)

-- the turns, in either form
abbrev pub held_turns : Held → List Turn
held_turns (Short turns) = turns
held_turns (Long turns) = turns
