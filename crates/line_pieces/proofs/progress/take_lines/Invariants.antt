use Rattle.std.proofs.Common.{◌≡◌, ◌+◌, ◌-◌, ◌≤◌, length, take}
use Rattle.std.specs.Prelude.{IsTrue}
use Rattle.lk_text.specs.Cutting.{is_one_line}
use Rattle.line_pieces.specs.Fed.{Extends}
use Rattle.line_pieces.proofs.progress.take_lines.Given as goal

-- the bytes before the place were read
abbrev pub invariant-lines : goal.invariant-lines
invariant-lines g l = record {
  fits : g.R.LineReader.fits l.progress.reader;
  read : g.R.LineReader.count l.progress.reader ≡ l.progress.lines;
  one_line : IsTrue (is_one_line l.progress.unended.items);
  within : l.from ≤ length l.piece;
  few : l.progress.lines ≤ l.fn.progress.lines + l.from;
  bytes : l.progress.bytes ≡ l.fn.progress.bytes;
  stands : Extends g.R.LineReader.completes l.fn.progress l.progress (take l.from l.piece);
}

abbrev pub decreases-lines : goal.decreases-lines
decreases-lines g l = length l.piece - l.from
