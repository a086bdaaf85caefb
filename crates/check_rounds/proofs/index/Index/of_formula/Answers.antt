use Rattle.std.proofs.Common.{◌≡◌, ◌∙◌, ◌+◌, length, replicate, ap, arith}
use Rattle.std.proofs.lemmas.List.{length-replicate}
use Rattle.check_rounds.proofs.IndexLemmas.{last_none}
use Rattle.check_rounds.proofs.index.Index.of_formula.Goals as goal

pub loop-i-init : goal.loop-i-init
loop-i-init c =
    let none : c.in_ok-last.last.items ≡ replicate (c.len.result + 1) 0 = c.in_ok-last.ensures.items_if_clones_equal (λ y e. e) in
    let size : length c.in_ok-last.last.items ≡ c.len.result + 1 = ap length none ∙ length-replicate (c.len.result + 1) 0 in
    record {
      size = omega (arith, c.in_ok-index.ensures, c.vars.ensures.value);
      places = omega (arith, size);
      last = last_none c.args.blocks.now c.in_ok-index.index c.args.f.now (c.len.result + 1) c.in_ok-last.last.items none;
      found = λ p low high. absurd (omega (arith, low, high));
    }

pub loop-i-preserved : goal.loop-i-preserved
loop-i-preserved c =
    let inv = c.loop-i.invariant in
    let added = c.in_ok-add_once.ensures in
    record {
      size = added.size ∙ inv.size;
      places = omega (arith, added.places, inv.places);
      last = added.last;
      found = added.found;
    }

pub returns-clause-found : goal.returns-clause-found
returns-clause-found c p low high = c.loop-i.invariant.found p low (omega (arith, high, c.loop-i-test.false, c.len-i-end.ensures.value))
