use Rattle.std.proofs.Common.{rules, ◌≡◌, ◌<◌, ℕ, List, [], length, subst}
use Rattle.line_text.specs.LineReading.{EndsWith}
use Rattle.line_pieces.specs.Fed.{StandsAt}
use Rattle.line_pieces.proofs.PieceLines.{stops_open, reads_whole, stops_early, none_left}
use Rattle.line_pieces.proofs.progress.value_of.Goals as goal

pub returns-then-not-is_empty-clause-stop : goal.returns-then-not-is_empty-clause-stop
returns-then-not-is_empty-clause-stop g c = λ first fed h.
    let p = c.args.progress in
    let some : 0 < length p.unended.items = search rules in
    stops_open (g.R.LineReader.completes first) (g.R.LineReader.completes p.reader) fed p.unended.items p.lines h.stands c.requires.one_line some

pub returns-in-Some-clause-value : goal.returns-in-Some-clause-value
returns-in-Some-clause-value g c = λ first fed h.
    let p = c.args.progress in
    let completes = g.R.LineReader.completes in
    let none : p.unended.items ≡ [] = none_left p.unended.items (let size : length p.unended.items ≡ 0 = search rules in size) in
    reads_whole (completes first) (completes p.reader) fed p.lines c.in-Some.value (subst (λ (bs : List ℕ). StandsAt (completes first) (completes p.reader) fed bs p.lines) none h.stands)
    (subst (λ o. EndsWith (completes p.reader) o) c.in-Some.is c.in_ok-value.ensures)

pub returns-clause-stop : goal.returns-clause-stop
returns-clause-stop g c = λ first fed h.
    let p = c.args.progress in
    let completes = g.R.LineReader.completes in
    let none : p.unended.items ≡ [] = none_left p.unended.items (let size : length p.unended.items ≡ 0 = search rules in size) in
    stops_early (completes first) (completes p.reader) fed p.lines (subst (λ (bs : List ℕ). StandsAt (completes first) (completes p.reader) fed bs p.lines) none h.stands)
    (subst (λ o. EndsWith (completes p.reader) o) c.in-None.is c.in_ok-value.ensures)
