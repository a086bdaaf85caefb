use Rattle.std.proofs.Common.{◌≡◌, List, sym, ◌∙◌, ap, subst, false, ℤ}
use Rattle.lk_model.specs.Lists.{is_empty}
use Rattle.dimacs_reader.specs.ReadStates.{Closes}
use Rattle.dimacs_reader.specs.declared.clauses.ReadState.{ReadState}
use Rattle.dimacs_reader.proofs.StateLemmas.{closes_open, closes_whole}
use Rattle.dimacs_reader.proofs.StateLemmas.{empty_test, some_test}
use Rattle.dimacs_reader.proofs.clauses.close_last.Goals as goal

pub returns-then-is_empty : goal.returns-then-is_empty
returns-then-is_empty c =
    closes_whole c.args.state c.requires
    (ap (λ (ls : List ℤ). is_empty ls) (sym c.literals.ensures.value) ∙ empty_test c.literals.result.now c.is_empty.result c.is_empty.ensures c.if-is_empty.true)

pub returns : goal.returns
returns c =
    let some : is_empty c.args.state.growing.literals ≡ false = ap (λ (ls : List ℤ). is_empty ls) (sym c.literals.ensures.value) ∙ some_test c.literals.result.now c.is_empty.result c.is_empty.ensures c.if-is_empty.false in
    subst (λ (b : ReadState). Closes c.args.state b.formula) (sym c.in_ok-close.ensures) (closes_open c.args.state c.requires some)
