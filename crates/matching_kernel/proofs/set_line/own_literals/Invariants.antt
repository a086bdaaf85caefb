use Rattle.std.proofs.Common.{drop, None}
use Rattle.lk_model.specs.Formulas.Formula.{clause_at}
use Rattle.lk_model.specs.declared.document.Own.{Own}
use Rattle.kernel_laws.specs.FirstTables.{IsFirstTable}
use Rattle.matching_laws.specs.MatchingResults.{literal_on}
use Rattle.matching_kernel.proofs.set_line.own_literals.Given as goal

-- the table of the lines so far, which stand last
abbrev pub invariant-loop-i : goal.invariant-loop-i
invariant-loop-i l = IsFirstTable l.f.vars (λ (o : Own). o.var) (λ (o : Own). literal_on (clause_at l.f o.pos) o.var) None None (drop l.i l.own) l.table.items
