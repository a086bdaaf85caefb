use Rattle.std.proofs.Common.{◌+◌, ◌<◌, length, refl, ap, subst, arith, ◌∙◌}
use Rattle.std.specs.Prelude.{slice_range}
use Rattle.line_text.specs.LineReading.{EndsWith}
use Rattle.line_text.proofs.LineCuts.{before_end, line_next}
use Rattle.line_text.proofs.LineReads.{at_next, stops_at_line, stops_unended, was_taken, was_refused, ends_whole, ends_early}
use Rattle.line_text.proofs.line_reader.read_lines.Goals as goal

pub returns-then-cut-bytes-clause-stop : goal.returns-then-cut-bytes-clause-stop
returns-then-cut-bytes-clause-stop g c =
    let bytes = c.args.bytes.now in
    let at = c.loop-cut in
    let before : at.from < length bytes = before_end at.from (length bytes) at.invariant.within c.in-Some.ensures.none.1 in
    stops_unended (g.R.LineReader.completes c.args.reader) (g.R.LineReader.completes at.reader) bytes at.from at.number c.in-Some.cut at.invariant.lines before c.in-Some.ensures.line c.if-cut-bytes.true

pub returns-then-not-branch-clause-stop : goal.returns-then-not-branch-clause-stop
returns-then-not-branch-clause-stop g c =
    let bytes = c.args.bytes.now in
    let at = c.loop-cut in
    let cut = c.in-Some.cut in
    let before : cut.end < length bytes = omega (arith, c.in-Some.ensures.line.within, c.if-cut-bytes.false) in
    stops_at_line (g.R.LineReader.completes c.args.reader) (g.R.LineReader.completes at.reader) bytes at.from at.number cut at.invariant.lines c.in-Some.ensures.line before
    (was_refused (g.R.LineReader.completes at.reader) (g.R.LineReader.completes c.take.new.self) (slice_range bytes cut.begin cut.end) c.in_ok-take.field-0 c.in_ok-take.ensures.taken c.if-not-branch.true)

pub loop-cut-preserved : goal.loop-cut-preserved
loop-cut-preserved g c =
    let bytes = c.args.bytes.now in
    let at = c.loop-cut in
    let cut = c.in-Some.cut in
    let before : cut.end < length bytes = omega (arith, c.in-Some.ensures.line.within, c.if-cut-bytes.false) in
    let behind = line_next bytes at.from cut c.in-Some.ensures.line before in
    let on = was_taken (g.R.LineReader.completes at.reader) (g.R.LineReader.completes c.take.new.self) (slice_range bytes cut.begin cut.end) c.in_ok-take.field-0 c.in_ok-take.ensures.taken c.if-not-branch.false in
    record {
      fits = c.in_ok-take.ensures.fits c.if-not-branch.false;
      lines = at_next (g.R.LineReader.completes c.args.reader) (g.R.LineReader.completes at.reader) (g.R.LineReader.completes c.take.new.self) bytes at.from at.number cut at.invariant.lines c.in-Some.ensures.line before on;
      read = c.in_ok-take.ensures.count c.if-not-branch.false ∙ ap (λ n. n + 1) at.invariant.read;
      within = omega (arith, behind, before);
      few = omega (arith, behind, at.invariant.few, c.in-Some.ensures.line.begins, c.in-Some.ensures.line.order);
      low = omega (arith, before, at.invariant.few, c.in-Some.ensures.line.begins, c.in-Some.ensures.line.order, c.well_formed);
    }

pub returns-in-Some-2-clause-value : goal.returns-in-Some-2-clause-value
returns-in-Some-2-clause-value g c =
    let at = c.loop-cut in
    let completes = g.R.LineReader.completes at.reader in
    ends_whole (g.R.LineReader.completes c.args.reader) completes c.args.bytes.now at.from at.number c.in-Some-2.value at.invariant.lines (c.in_default.ensures.none.0 refl)
    (subst (λ o. EndsWith completes o) c.in-Some-2.is c.in_ok-value.ensures)

pub returns-in-None-clause-stop : goal.returns-in-None-clause-stop
returns-in-None-clause-stop g c =
    let at = c.loop-cut in
    let completes = g.R.LineReader.completes at.reader in
    ends_early (g.R.LineReader.completes c.args.reader) completes c.args.bytes.now at.from at.number at.invariant.lines (c.in_default.ensures.none.0 refl)
    (subst (λ o. EndsWith completes o) c.in-None.is c.in_ok-value.ensures)
