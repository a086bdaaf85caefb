use Rattle.std.proofs.Common.{sym, subst, ◌∙◌, arith, ℤ, List}
use Rattle.std.specs.Int.RustNames.{FitsSigned}
use mir.Syntax.{w128}
use Rattle.std.proofs.lemmas.Int.{to_z-of_z}
use Rattle.std.proofs.lemmas.List.{take_all}
use Rattle.exact_pivot.specs.Scattered.{AddsClause}
use Rattle.exact_pivot.proofs.Scattering.{clause_next}
use Rattle.exact_pivot.proofs.incidences.add_clause.Goals as goal

pub loop-l-preserved : goal.loop-l-preserved
loop-l-preserved c =
    let u : FitsSigned w128 c.unit.result = record { sfits = c.unit.type_inv } in
    clause_next c.args.vars c.args.column c.args.clause.now c.loop-l.l-index c.l-item.result c.args.rows.now c.loop-l.rows c.requires.clause c.requires.wide (omega arith) c.l-item.is c.requires.behind c.loop-l.invariant
    c.var.result c.var.ensures.value c.index-rows-var.result c.add.new.self c.index-rows-var.is
    (λ es x below either same. (let either_here = rw (← c.unit.ensures) at either in let now = simp to_z-of_z at (c.in_ok-add.ensures es x below) in rw (← c.unit.ensures) (now either_here (sym c.index-rows-var.is ∙ same))))

pub returns : goal.returns
returns c =
    subst (λ (ls : List ℤ). AddsClause ls c.args.column c.args.rows.now c.loop-l.rows) (take_all c.loop-l.l-index c.args.clause.now (omega arith)) c.loop-l.invariant
