use Rattle.std.proofs.Common.{◌≡◌, ◌∙◌, ◌&&◌, Bool, not, length, sym, ap, rules}
use Rattle.std.proofs.Math.Bool.{and-true, and-false}
use Rattle.lk_model.specs.Formulas.Literal.{contains, variable, is_literal}
use Rattle.lk_model.specs.Held.VariableSets.{is_in}
use Rattle.lk_model.proofs.Crossings.{contains_crossed}
use Rattle.lk_model.proofs.ListTests.{passes_each}
use Rattle.lk_model.proofs.Literals.{clause_literals}
use Rattle.lk_model.proofs.Ranks.{literal_bounds}
use Rattle.refutation_log.proofs.chain.holds_crossed.Goals as goal

pub has-requires-clause-last : goal.has-requires-clause-last
has-requires-clause-last c =
    let n = length c.args.blocked.now in
    let clause = c.args.clause.now in
    let held : c.contains.result ≡ contains clause c.args.l = search rules in
    let literal = passes_each (is_literal n) clause c.args.l (clause_literals n clause c.requires) (sym held ∙ c.if-contains.true) in
    rw (c.var.ensures.value) (literal_bounds n c.args.l literal).1

pub returns-then-contains : goal.returns-then-contains
returns-then-contains c =
    let blocked = is_in c.args.blocked.now in
    let clause = c.args.clause.now in
    let held : c.contains.result ≡ contains clause c.args.l = search rules in
    let free = not (blocked (variable c.args.l)) in
    ap not (c.has.ensures ∙ ap blocked c.var.ensures.value)
    ∙ sym (contains_crossed blocked clause c.args.l ∙ ap (λ (b : Bool). free && b) (sym held ∙ c.if-contains.true) ∙ and-true free)

pub returns-else-contains : goal.returns-else-contains
returns-else-contains c =
    let blocked = is_in c.args.blocked.now in
    let clause = c.args.clause.now in
    let held : c.contains.result ≡ contains clause c.args.l = search rules in
    let free = not (blocked (variable c.args.l)) in
    c.if-contains.false
    ∙ sym (contains_crossed blocked clause c.args.l ∙ ap (λ (b : Bool). free && b) (sym held ∙ c.if-contains.false) ∙ and-false free)
