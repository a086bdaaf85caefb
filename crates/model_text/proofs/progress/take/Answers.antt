use Rattle.std.proofs.Common.{◌∷◌, [], ◌∙◌, arith}
use Rattle.std.proofs.lemmas.List.{length-append}
use Rattle.model_text.proofs.Standing.{line_longer, line_ends, line_stops}
use Rattle.model_text.proofs.progress.take.Goals as goal

pub returns-then-byte-ne10-clause-taken : goal.returns-then-byte-ne10-clause-taken
returns-then-byte-ne10-clause-taken c = λ n fed h.
    let p = c.args.progress.now in
    record {
      size = omega (arith, h.size, length-append fed (c.args.byte ∷ []));
      vars = h.vars;
      stands = line_longer n fed p.unended.items c.go_on.new.unended.items p.lines c.args.byte p.draft h.stands c.in_ok-go_on.ensures;
    }

pub returns-then-end_line-clause-taken : goal.returns-then-end_line-clause-taken
returns-then-end_line-clause-taken c = λ n fed h.
    let p = c.args.progress.now in
    let call = c.end_line in
    record {
      size = omega (arith, h.size, length-append fed (c.args.byte ∷ []));
      vars = call.ensures.vars ∙ h.vars;
      stands = line_ends n fed p.unended.items call.new.unended.items p.lines c.args.byte p.draft call.new.draft call.result c.if-byte-ne10.false h.stands c.requires.one_line h.vars call.ensures.taken
          c.if-end_line.true call.ensures.empty;
    }

pub returns-else-end_line-clause-stop : goal.returns-else-end_line-clause-stop
returns-else-end_line-clause-stop c = λ n fed h more.
    let p = c.args.progress.now in
    let call = c.end_line in
    line_stops n fed p.unended.items more p.lines c.args.byte p.draft call.new.draft call.result c.if-byte-ne10.false h.stands c.requires.one_line h.vars call.ensures.taken c.if-end_line.false
