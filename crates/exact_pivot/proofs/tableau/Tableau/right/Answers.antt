use Rattle.std.specs.Int.RustNames.{FitsSigned}
use mir.Syntax.{w128}
use Rattle.std.proofs.lemmas.Int.{to_z-of_z}
use Rattle.exact_pivot.proofs.Shapes.{rights_of}
use Rattle.exact_pivot.proofs.tableau.Tableau.right.Goals as goal

pub returns-clause-least : goal.returns-clause-least
returns-clause-least c =
    let fits : FitsSigned w128 c.entry.result = record { sfits = c.entry.type_inv } in
    simp to_z-of_z (rw (c.entry.ensures, c.right_column.ensures.value) (rights_of c.args.self.now c.right_column.ensures.shape c.args.i))
