use Rattle.std.proofs.Common.{ℕ, sym, ◌∙◌, ap}
use Rattle.lk_model.specs.declared.text_fault.Fault.{Fault}
use Rattle.lk_model.specs.declared.text_fault.FaultKind.TheVariants.{TooFewClauses}
use Rattle.dimacs_reader.proofs.NumberStands.{number_begins, mark_met, mark_passed}
use Rattle.dimacs_reader.proofs.numbers.begun.Goals as goal

pub returns-then-byte-ne37-clause-ok : goal.returns-then-byte-ne37-clause-ok
returns-then-byte-ne37-clause-ok c fed e h =
    number_begins fed c.args.byte c.args.state.now c.word_of.result c.requires.no_newline c.requires.no_blank c.if-byte-eq99.false c.if-byte-eq112.false c.if-byte-ne37.true c.word_of.ensures h

pub returns-then-is_short-clause-fault : goal.returns-then-is_short-clause-fault
returns-then-is_short-clause-fault c fed e h =
    mark_met fed c.args.byte c.args.state.now c.fault_at-then-is_short.result c.requires.no_newline c.requires.no_blank c.if-byte-ne37.false
    (c.fault_at-then-is_short.ensures ∙ ap (λ (n : ℕ). let f : Fault = record { kind = TooFewClauses; place = n } in f) (sym e)) (sym c.is_short.ensures ∙ c.if-is_short.true) h

pub returns-else-is_short-clause-ok : goal.returns-else-is_short-clause-ok
returns-else-is_short-clause-ok c fed e h =
    mark_passed fed c.args.byte c.args.state.now c.requires.no_newline c.requires.no_blank c.if-byte-ne37.false (sym c.is_short.ensures ∙ c.if-is_short.false) h
