use Rattle.std.proofs.Common.{◌≡◌, true, false, not, refl, ap, sym, ◌∙◌}
use Rattle.std.proofs.lemmas.Slice.Eq.{bytes_eq-Decides}
use Rattle.line_text.specs.Fields.{fields}
use Rattle.round_text.specs.RoundLines.{is_round}
use Rattle.round_text.proofs.RoundSteps.{no_round}
use Rattle.round_text.proofs.read_rounds.take_rounds.Goals as goal

pub returns-then-ne : goal.returns-then-ne
returns-then-ne c =
    let none : is_round (fields c.args.line.now) ≡ false = no_round c.args.line.now (λ e.
    let test = (bytes_eq-Decides c.args.line.now c.as_slice.result.now).1 (e ∙ sym c.as_slice.ensures) in
    let other : true ≡ false = sym c.if-ne.true ∙ c.ne.ensures ∙ ap not test in
    let f : ⊥ = cc in f) in
    rw (c.if-part.false, c.if-not-may.false, none) refl
