-- The first fault that is met is the one with the least place.
use Rattle.std.proofs.Common.{◌≡◌, ℕ, ◌+◌, List, length, arith}
use Rattle.lk_model.specs.Texts.Lines.{lines_of}
use Rattle.lk_model.specs.Texts.Dimacs.{content_lines}
use Rattle.lk_model.specs.Texts.Fault.{least, content_faults, stop}
use Rattle.dimacs_reader.specs.FirstFaults.{fault_from}
use Rattle.dimacs_reader.proofs.Placing.{text_placed}
use Rattle.dimacs_reader.proofs.LineFaults.{least_lines}

pub first_fault : (text : List ℕ) → least (content_faults (content_lines text) (stop text)) ≡ fault_from (lines_of text) (length text + 1)
first_fault text = least_lines 0 (lines_of text) (length text) (length text + 1) (text_placed text) (omega arith)
