-- The statuses with which the program ends.
use Rattle.std.specs.Prelude.{ℕ, Bool, true, false}
use Rattle.status_lines.specs.declared.status.Status.{Status}
use Rattle.status_lines.specs.declared.status.Status.TheVariants.{Done, Words, Input, ReadFault, WriteFault, Budget, TooWide, TooLarge, Refused, Memory, Satisfiable, Unsatisfiable}

-- the number of a status
abbrev pub code : Status → ℕ
code Done = 0
code Words = 1
code Input = 2
code ReadFault = 3
code WriteFault = 4
code Budget = 5
code TooWide = 6
code TooLarge = 7
code Refused = 8
code Memory = 9
code Satisfiable = 10
code Unsatisfiable = 20

-- the command was carried out, with this result
abbrev pub is_result : Status → Bool
is_result Done = true
is_result Budget = true
is_result TooWide = true
is_result TooLarge = true
is_result Refused = true
is_result Satisfiable = true
is_result Unsatisfiable = true
is_result _ = false

-- the result is all that there is to tell, and nothing is said
abbrev pub is_silent : Status → Bool
is_silent Done = true
is_silent Satisfiable = true
is_silent Unsatisfiable = true
is_silent _ = false
