use Rattle.std.proofs.Common.{◌≡◌, ◌≤◌, ◌<◌, ◌^◌, ◌-◌, length}
use Rattle.line_text.proofs.LineReads.{IsAt}
use Rattle.line_text.proofs.line_reader.read_lines.Given as goal

-- the lines before the place were taken
abbrev pub invariant-loop-cut : goal.invariant-loop-cut
invariant-loop-cut g l = record {
  fits : g.R.LineReader.fits l.reader;
  lines : IsAt (g.R.LineReader.completes l.fn.reader) (g.R.LineReader.completes l.reader) l.bytes l.from l.number;
  read : g.R.LineReader.count l.reader ≡ l.number;
  within : l.from ≤ length l.bytes;
  few : l.number ≤ l.from;
  low : l.number < 2 ^ 63;
}

abbrev pub decreases-loop-cut : goal.decreases-loop-cut
decreases-loop-cut g l = length l.bytes - l.from
