use Rattle.std.proofs.Common.{rules, ◌<◌, ◌∙◌, List, length, refl, sym, subst, arith}
use Rattle.std.specs.Prelude.{IsTrue}
use Rattle.lk_text.specs.Cutting.{is_one_line}
use Rattle.line_pieces.specs.Fed.{Refuses}
use Rattle.line_text.proofs.LineCuts.{line_next}
use Rattle.line_pieces.proofs.PieceLines.{extends_open, extends_line, refuses_line}
use Rattle.line_pieces.proofs.progress.take_lines.Goals as goal

pub returns-then-cut-piece-clause-taken : goal.returns-then-cut-piece-clause-taken
returns-then-cut-piece-clause-taken g c =
    extends_open g.R.LineReader.completes c.args.progress.now c.lines.progress c.args.piece.now c.go_on.new.unended.items c.lines.from c.in-Some.cut c.lines.invariant.stands c.in-Some.ensures.line
    c.if-cut-piece.true c.in_ok-go_on.ensures

pub returns-in_err-end_line-clause-stop : goal.returns-in_err-end_line-clause-stop
returns-in_err-end_line-clause-stop g c =
    let piece = c.args.piece.now in
    let cut = c.in-Some.cut in
    let lt : cut.end < length piece = omega (arith, c.in-Some.ensures.line.within, c.if-cut-piece.false) in
    let stop : Refuses g.R.LineReader.completes c.args.progress.now piece c.in_err-end_line.field-0.0 =
    refuses_line g.R.LineReader.completes c.args.progress.now c.lines.progress piece c.lines.from cut c.in_err-end_line.field-0.0 c.lines.invariant.stands c.in-Some.ensures.line lt c.lines.invariant.one_line c.in_err-end_line.ensures.refused in
    search rules

pub lines-preserved : goal.lines-preserved
lines-preserved g c =
    let piece = c.args.piece.now in
    let cut = c.in-Some.cut in
    let ended = c.in_ok-end_line.ensures in
    let was = c.lines.invariant in
    let lt : cut.end < length piece = omega (arith, c.in-Some.ensures.line.within, c.if-cut-piece.false) in
    let next = line_next piece c.lines.from cut c.in-Some.ensures.line lt in
    record {
      fits = ended.fits;
      read = ended.read;
      one_line = subst (λ (bs : List _). IsTrue (is_one_line bs)) (sym ended.unended) refl;
      within = omega (arith, next, lt);
      few = omega (arith, next, was.few, ended.lines, c.in-Some.ensures.line.begins, c.in-Some.ensures.line.order);
      bytes = ended.bytes ∙ was.bytes;
      stands = extends_line g.R.LineReader.completes c.args.progress.now c.lines.progress c.end_line.new.progress piece c.lines.from cut was.stands c.in-Some.ensures.line lt was.one_line ended.ended ended.unended ended.lines;
    }
