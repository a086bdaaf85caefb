use Rattle.std.proofs.Common.{◌-◌, ◌^◌}
use Rattle.model_text.specs.Fed.{HasBeenFed, fed_count}
use Rattle.command_inputs.proofs.Streams.{IsFedFrom}
use Rattle.command_inputs.proofs.input.read_started_model.Given as goal

-- what was fed stands before what is left
abbrev pub invariant-pieces : goal.invariant-pieces
invariant-pieces g l =
    let shelf = g.H.Shelf in
    IsFedFrom (HasBeenFed l.formula.vars) (shelf.told l.fn.shelf) (shelf.told l.shelf) (shelf.unread l.fn.shelf) (shelf.unread l.shelf) (shelf.faults l.fn.shelf) (shelf.faults l.shelf) (shelf.started l.shelf)
    (shelf.current l.fn.shelf) (shelf.current l.shelf) l.reader

-- each piece has a byte, and only so many are taken
abbrev pub decreases-pieces : goal.decreases-pieces
decreases-pieces g l = 2 ^ 63 - fed_count l.reader
