use Rattle.std.proofs.Common.{◌∷◌, [], sym, ◌∙◌, subst, arith}
use Rattle.lk_model.specs.Texts.NumberWords.{number}
use Rattle.dimacs_reader.specs.Numbers.{IsNumber}
use Rattle.dimacs_reader.specs.ReadStates.{Leads, HasFault}
use Rattle.dimacs_reader.specs.declared.clauses.ReadState.{ReadState}
use Rattle.dimacs_reader.specs.declared.word.Number.{Number}
use Rattle.dimacs_reader.proofs.Cuts.{piece}
use Rattle.dimacs_reader.proofs.StateLemmas.{too_many, beyond, past_written, zero_leads, literal_leads}
use Rattle.dimacs_reader.proofs.Stopping.{for_fault}
use Rattle.dimacs_reader.proofs.clauses.add_word.Goals as goal

pub returns-then-len-state-clause-fault : goal.returns-then-len-state-clause-fault
returns-then-len-state-clause-fault c bytes so =
    let word = piece bytes c.args.place in
    for_fault (HasFault (word ∷ []) c.args.state.now) _ _ c.stop_at-then-len-state.ensures
    (too_many word c.args.state.now c.vars.result c.in-Some.number (c.in-Some.ensures.number bytes so) (omega (arith, c.len.ensures.value, c.if-len-state.true)))

pub returns-in-Past-clause-fault : goal.returns-in-Past-clause-fault
returns-in-Past-clause-fault c bytes so =
    let word = piece bytes c.args.place in
    let is = subst (λ (k : Number). IsNumber c.vars.result (number bytes) k) c.in-Past.is (c.in-Some.ensures.number bytes so) in
    for_fault (HasFault (word ∷ []) c.args.state.now) _ _ c.stop_at-in-Past.ensures
    (beyond word c.args.state.now c.vars.result is (c.vars.ensures.value ∙ c.requires.one_size) (omega (arith, c.len.ensures.value, c.if-len-state.false)))

pub returns-then-state-ge-MAX_LITERALS-clause-fault : goal.returns-then-state-ge-MAX_LITERALS-clause-fault
returns-then-state-ge-MAX_LITERALS-clause-fault c bytes so =
    let word = piece bytes c.args.place in
    let is = subst (λ (k : Number). IsNumber c.vars.result (number bytes) k) c.in-Literal.is (c.in-Some.ensures.number bytes so) in
    for_fault (HasFault (word ∷ []) c.args.state.now) _ _ c.stop_at-then-state-ge-MAX_LITERALS.ensures
    (past_written word c.args.state.now c.vars.result c.in-Literal.lit is (c.vars.ensures.value ∙ c.requires.one_size) (omega (arith, c.len.ensures.value, c.if-len-state.false)) c.if-state-ge-MAX_LITERALS.true)

pub returns-in_ok-close-in-Zero-clause-ok : goal.returns-in_ok-close-in-Zero-clause-ok
returns-in_ok-close-in-Zero-clause-ok c bytes so =
    let word = piece bytes c.args.place in
    let is = subst (λ (k : Number). IsNumber c.vars.result (number bytes) k) c.in-Zero.is (c.in-Some.ensures.number bytes so) in
    subst (λ (b : ReadState). Leads (word ∷ []) c.args.state.now b) (sym c.in_ok-close-in-Zero.ensures)
    (zero_leads word c.args.state.now c.vars.result is c.requires (omega (arith, c.len.ensures.value, c.if-len-state.false)))

pub returns-in_ok-add_literal-in-Literal-clause-ok : goal.returns-in_ok-add_literal-in-Literal-clause-ok
returns-in_ok-add_literal-in-Literal-clause-ok c bytes so =
    let word = piece bytes c.args.place in
    let is = subst (λ (k : Number). IsNumber c.vars.result (number bytes) k) c.in-Literal.is (c.in-Some.ensures.number bytes so) in
    subst (λ (b : ReadState). Leads (word ∷ []) c.args.state.now b) (sym c.in_ok-add_literal-in-Literal.ensures)
    (literal_leads word c.in-Literal.lit c.args.state.now c.vars.result is (c.vars.ensures.value ∙ c.requires.one_size) c.requires (omega (arith, c.len.ensures.value, c.if-len-state.false)) c.if-state-ge-MAX_LITERALS.false)
