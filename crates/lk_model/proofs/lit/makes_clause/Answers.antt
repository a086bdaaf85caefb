use Rattle.std.proofs.Common.{◌≡◌, ◌≤◌, ◌∙◌, ap, sym, get_or, take, true, arith}
use Rattle.std.proofs.lemmas.Bool.{le-leb, and_from}
use Rattle.std.proofs.lemmas.List.{take_more}
use Rattle.lk_model.specs.Formulas.Literal.{variable, contains, is_literal}
use Rattle.lk_model.proofs.Literals.{beyond, twice, clause-more}
use Rattle.lk_model.proofs.lit.makes_clause.Goals as goal

pub returns-then-var-n : goal.returns-then-var-n
returns-then-var-n c =
    let same : c.var.result ≡ variable (get_or c.args.lits.now c.loop-i.i c.index-lits-i.result) = c.var.ensures.value ∙ ap variable c.index-lits-i.is in
    beyond c.args.n c.args.lits.now c.loop-i.i c.index-lits-i.result c.loop-i-test.true (omega (arith, same, c.if-var-n.true))

pub returns-then-stands_in : goal.returns-then-stands_in
returns-then-stands_in c =
    let again : contains (take c.loop-i.i c.args.lits.now) (get_or c.args.lits.now c.loop-i.i c.index-lits-i.result) ≡ true =
    ap (contains (take c.loop-i.i c.args.lits.now)) (sym c.index-lits-i.is) ∙ sym c.stands_in.ensures ∙ c.if-stands_in.true in
    twice c.args.n c.args.lits.now c.loop-i.i c.index-lits-i.result c.loop-i-test.true again

pub loop-i-preserved : goal.loop-i-preserved
loop-i-preserved c =
    let least : 1 ≤ variable c.index-lits-i.result = omega (arith, c.var.ensures.value, c.var.ensures.least) in
    let most : variable c.index-lits-i.result ≤ c.args.n = omega (arith, c.var.ensures.value, c.if-var-n.false) in
    let literal : is_literal c.args.n c.index-lits-i.result ≡ true = and_from _ _ (le-leb _ _ least) (le-leb _ _ most) in
    rw (take_more c.args.lits.now c.loop-i.i c.index-lits-i.result c.loop-i-test.true, ← c.index-lits-i.is)
    (clause-more c.args.n (take c.loop-i.i c.args.lits.now) c.index-lits-i.result c.loop-i.invariant literal (sym c.stands_in.ensures ∙ c.if-stands_in.false))
