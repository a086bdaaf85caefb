use Rattle.std.proofs.Common.{◌∙◌, ◌+◌, ◌++◌, List, ap, sym, length, length-append, arith}
use Rattle.std.specs.Prelude.{ℤ}
use Rattle.demo_formula.specs.Demo.{clauses_of_pair}
use Rattle.demo_formula.proofs.Growing.{first_none, first_more}
use Rattle.demo_formula.proofs.formula.put_first.Goals as goal

pub loop-i-init : goal.loop-i-init
loop-i-init c = record {
  clauses = c.requires.none ∙ sym first_none;
  size = ap (λ (cs : List (List ℤ)). length cs) c.requires.none;
  small = c.requires.small;
}

pub loop-i-preserved : goal.loop-i-preserved
loop-i-preserved c =
    let i = c.loop-i.i in
    let count = ap (λ (cs : List (List ℤ)). length cs) c.in_ok-put_pair.ensures.value ∙ length-append c.loop-i.formula.clauses (clauses_of_pair (i + 1)) in
    record {
      clauses = c.in_ok-put_pair.ensures.value ∙ ap (λ (cs : List (List ℤ)). cs ++ clauses_of_pair (i + 1)) c.loop-i.invariant.clauses ∙ sym (first_more i);
      size = omega (arith, count, c.loop-i.invariant.size);
      small = c.in_ok-put_pair.ensures.small;
    }
