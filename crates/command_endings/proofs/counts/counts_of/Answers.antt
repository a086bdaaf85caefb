use Rattle.std.proofs.Common.{◌∙◌, ap, sym, arith}
use Rattle.lk_model.specs.Lists.{is_empty}
use Rattle.lk_model.specs.Formulas.Literal.{is_tautology}
use Rattle.command_endings.specs.Commands.Report.{is_unit_clause}
use Rattle.command_endings.specs.declared.counts.Counts.{Counts}
use Rattle.command_endings.proofs.Counted.{counted, few}
use Rattle.command_endings.proofs.counts.counts_of.Goals as goal
use Rattle.lk_model.proofs.Clauses.{next_clause}

pub add-requires-clause-empty : goal.add-requires-clause-empty
add-requires-clause-empty c = omega (arith, few is_empty c.args.f.now.clauses c.loop-i.i, ap (λ (k : Counts). k.empty) c.loop-i.invariant.counted, c.len-i-end.ensures.limits.clauses)

pub add-requires-clause-units : goal.add-requires-clause-units
add-requires-clause-units c = omega (arith, few is_unit_clause c.args.f.now.clauses c.loop-i.i, ap (λ (k : Counts). k.units) c.loop-i.invariant.counted, c.len-i-end.ensures.limits.clauses)

pub add-requires-clause-tautologies : goal.add-requires-clause-tautologies
add-requires-clause-tautologies c = omega (arith, few is_tautology c.args.f.now.clauses c.loop-i.i, ap (λ (k : Counts). k.tautologies) c.loop-i.invariant.counted, c.len-i-end.ensures.limits.clauses)

pub loop-i-preserved : goal.loop-i-preserved
loop-i-preserved c =
    let cs = c.args.f.now.clauses in
    let i = c.loop-i.i in
    record {
      counted = rw (c.add.ensures, c.loop-i.invariant.counted, c.clause-clause.ensures.value, next_clause c.args.f.now i) (sym (counted cs i (omega (arith, c.loop-i-test.true, c.len-i-end.ensures.value))));
      empty = c.in_ok-tautology.ensures.empty ∙ c.loop-i.invariant.empty;
    }
