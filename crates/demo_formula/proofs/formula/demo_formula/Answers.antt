use Rattle.std.proofs.Common.{◌≡◌, ◌∙◌, ◌++◌, List, ap}
use Rattle.std.specs.Prelude.{ℤ}
use Rattle.rand_pcg.specs.Lcg.{Lcg}
use Rattle.demo_formula.specs.Demo.{demo_formula, first_clauses, drawn_clauses, generator}
use Rattle.demo_formula.proofs.formula.demo_formula.Goals as goal

pub returns-clause-value : goal.returns-clause-value
unfolding demo_formula
returns-clause-value c =
    let clauses : c.put_drawn.new.formula.clauses ≡ first_clauses 100 ++ drawn_clauses 6000 (generator c.args.seed) =
    c.in_ok-put_drawn.ensures.value
    ∙ ap (λ (cs : List (List ℤ)). cs ++ drawn_clauses 6000 c.new.result) c.in_ok-put_first.ensures.value
    ∙ ap (λ (g : Lcg). first_clauses 100 ++ drawn_clauses 6000 g) c.new.ensures in
    λ i. record { vars = c.in_ok-put_drawn.ensures.small.vars i; clauses = clauses i }
