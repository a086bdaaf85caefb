use Rattle.std.proofs.Common.{◌≡◌, ◌∙◌, ◌+◌, ◌∷◌, ◌++◌, [], suc, ℕ, List, ap, sym, length, length-append, append-nil, append_assoc, arith}
use Rattle.std.specs.Prelude.{ℤ, ◌-◌}
use Rattle.rand_pcg.specs.Lcg.{Lcg}
use Rattle.demo_formula.specs.Demo.{drawn_clause, drawn_clauses, after_clause}
use Rattle.demo_formula.proofs.Growing.{drawn_none, drawn_more}
use Rattle.demo_formula.proofs.formula.put_drawn.Goals as goal

pub loop-preserved : goal.loop-preserved
loop-preserved c =
    let k = c.loop.counter in
    let g = c.loop.words in
    let done = c.loop.formula.clauses in
    let one = drawn_clause g in
    let remaining = 6000 - (k + 1) in
    let grown : c.put.new.formula.clauses ≡ done ++ one ∷ [] =
    c.in_ok-put.ensures.value ∙ ap (λ (ls : List ℤ). done ++ ls ∷ []) (c.as_slice.ensures.value ∙ c.in_ok-clause.ensures.value) in
    let next : 6000 - k ≡ suc remaining = omega arith in
    let moved : (done ++ one ∷ []) ++ drawn_clauses remaining c.draw_clause.new.words ≡ done ++ drawn_clauses (6000 - k) g =
    ap (λ (h : Lcg). (done ++ one ∷ []) ++ drawn_clauses remaining h) c.in_ok-clause.ensures.next
    ∙ append_assoc done (one ∷ []) (drawn_clauses remaining (after_clause g))
    ∙ ap (λ (cs : List (List ℤ)). done ++ cs) (sym (drawn_more (6000 - k) remaining g next)) in
    record {
      clauses = ap (λ (cs : List (List ℤ)). cs ++ drawn_clauses remaining c.draw_clause.new.words) grown ∙ moved ∙ c.loop.invariant.clauses;
      size = omega (arith, ap (λ (cs : List (List ℤ)). length cs) grown, length-append done (one ∷ []), c.loop.invariant.size);
      small = c.in_ok-put.ensures.small;
    }

pub returns-clause-value : goal.returns-clause-value
returns-clause-value c =
    let none : 6000 - c.loop.counter ≡ 0 = omega arith in
    sym (append-nil c.loop.formula.clauses)
    ∙ ap (λ (cs : List (List ℤ)). c.loop.formula.clauses ++ cs) (sym (drawn_none c.loop.words) ∙ ap (λ (n : ℕ). drawn_clauses n c.loop.words) (sym none))
    ∙ c.loop.invariant.clauses
