use Rattle.std.proofs.Common.{◌≡◌, Option, subst}
use Rattle.std.specs.Prelude.{codes, IfOk}
use Rattle.answer_text.proofs.CoreLineForms.{other_line}
use Rattle.answer_text.specs.declared.draft.Draft.{Draft}
use Rattle.answer_text.proofs.ReadWords.{no_state_of_none, other_state}
use Rattle.answer_text.proofs.draft.state_in.Goals as goal

pub returns-then-m-eq0 : goal.returns-then-m-eq0
returns-then-m-eq0 c =
    no_state_of_none c.args.n c.args.m c.args.line.now (other_line c.args.line.now c.as_slice.result.now (codes "s SATISFIABLE") c.eq.result c.as_slice.ensures c.eq.ensures c.if-eq.false) c.if-m-eq0.true

pub returns : goal.returns
returns c =
    subst (λ (o : Option Draft). IfOk c.core_in.result (λ state. state ≡ o))
    (other_state c.args.n c.args.m c.args.line.now
    (other_line c.args.line.now c.as_slice.result.now (codes "s SATISFIABLE") c.eq.result c.as_slice.ensures c.eq.ensures c.if-eq.false)
    c.if-m-eq0.false
    (other_line c.args.line.now c.as_slice-2.result.now (codes "s UNSATISFIABLE") c.eq-2.result c.as_slice-2.ensures c.eq-2.ensures c.if-eq-2.false))
    c.core_in.ensures
