-- What the program says of a stop, and with which status it then ends.
use Rattle.std.specs.Prelude.{◌≡◌, ℕ, List, [], ◌++◌, codes, decimal}
use Rattle.dimacs_reader.specs.declared.refusal.Refused.{Refused}
use Rattle.dimacs_reader.specs.declared.refusal.Refused.TheVariants as refused
use Rattle.edit_text.specs.EditText.{fault_text}
use Rattle.edit_text.specs.declared.edit.EditFault.{EditFault}
use Rattle.command_stops.specs.declared.stop.Stop.{Stop}
use Rattle.command_stops.specs.declared.stop.Stop.TheVariants.{Words, Formula, Document, Model, Answer, Edits, Read, Memory}
use Rattle.status_lines.specs.declared.status.Status.{Status}
use Rattle.status_lines.specs.declared.status.Status.TheVariants as status

-- what the program says of a fault at a line of the formula
abbrev pub formula_line : ℕ → List ℕ → List ℕ
formula_line line text = codes "leank: formula line " ++ decimal line ++ text

-- what the program says of a refusal
abbrev pub refusal_line : Refused → List ℕ
refusal_line (refused.NoHeader line) = formula_line line (codes ": no header\n")
refusal_line (refused.BadHeader line) = formula_line line (codes ": bad header\n")
refusal_line (refused.SecondHeader line) = formula_line line (codes ": second header\n")
refusal_line (refused.BadToken line) = formula_line line (codes ": bad token\n")
refusal_line (refused.BeyondStated line) = formula_line line (codes ": variable beyond header\n")
refusal_line (refused.TooManyClauses line) = formula_line line (codes ": too many clauses\n")
refusal_line (refused.TooFewClauses line) = formula_line line (codes ": too few clauses\n")
refusal_line (refused.Limit line) = formula_line line (codes ": past a limit\n")
refusal_line (refused.TooLong line) = formula_line line (codes ": too long\n")
refusal_line refused.OutOfMemory = codes "leank: out of memory\n"

-- what the program says of a fault at a line of edits
abbrev pub edits_line : ℕ → EditFault → List ℕ
edits_line line fault = codes "leank: edits line " ++ decimal line ++ fault_text fault

-- what the program says of a stop
abbrev pub line_of : Stop → List ℕ
line_of (Words i) = codes "leank: word " ++ decimal i ++ codes " refused\n"
line_of (Formula r) = refusal_line r
line_of (Document line) = codes "leank: document line " ++ decimal line ++ codes ": not a document\n"
line_of (Model line) = codes "leank: model line " ++ decimal line ++ codes ": not a model\n"
line_of (Answer line) = codes "leank: answer line " ++ decimal line ++ codes ": not an answer\n"
line_of (Edits line fault) = edits_line line fault
line_of Read = codes "leank: read fault\n"
line_of Memory = codes "leank: out of memory\n"

-- the status of a stop
abbrev pub status_of : Stop → Status
status_of (Words i) = status.Words
status_of (Formula r) = status.Input
status_of (Document line) = status.Input
status_of (Model line) = status.Input
status_of (Answer line) = status.Input
status_of (Edits line fault) = status.Input
status_of Read = status.ReadFault
status_of Memory = status.Memory

-- nothing is written, and the line of the stop is said
abbrev pub Tells : Stop → List ℕ → List ℕ → Type 0
Tells s written said = (written ≡ []) × (said ≡ line_of s)
