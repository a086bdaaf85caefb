use Rattle.demo_formula.specs.Demo.{drawn_clause, after_clause}
use Rattle.demo_formula.proofs.draw.draw_clause.Goals as goal

pub returns-clause-value : goal.returns-clause-value
unfolding drawn_clause
returns-clause-value c =
    let g = c.args.words.now in
    rw (c.in_ok-add-2.ensures.value, c.in_ok-add.ensures.value, c.in_ok-clause.ensures.items, c.draw_literal-2.ensures.value, c.draw_literal.ensures.next, c.draw_literal.ensures.value, c.draw_variable.ensures.next, c.draw_variable.ensures.value)

pub returns-clause-next : goal.returns-clause-next
unfolding after_clause
returns-clause-next c = rw (c.draw_literal-2.ensures.next, c.draw_literal.ensures.next, c.draw_variable.ensures.next)
