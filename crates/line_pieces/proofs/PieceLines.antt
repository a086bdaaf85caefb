-- A text in pieces beside the reader of its lines.
use Rattle.std.proofs.Common.{◌≡◌, ℕ, suc, ◌+◌, ◌-◌, ◌<◌, ◌∙◌, ◌^◌, true, not, List, [], ◌∷◌, ◌++◌, length, length-take, length-drop, take, drop, Result, Ok, Err, refl, sym, ap, subst, arith, append_assoc, inl, inr}
use Rattle.std.specs.Prelude.{slice_range, OnOk}
use Rattle.std.specs.List.{concat}
use Rattle.std.proofs.lemmas.Bool.{and_from}
use Rattle.std.proofs.lemmas.List.{append-nil, length-append, get_or-append-add, take_at, take-append-drop}
use Rattle.std.proofs.lemmas.List.Folds.{list_all-append, concat-append, drop_split}
use Rattle.std.proofs.Math.Seq.{drop-append_seam, take-append_seam, get_or-append_seam, drop-cons, drop-length}
use Rattle.lk_model.specs.Documents.Reading.{cut_lines, StopsAs}
use Rattle.lk_model.specs.Texts.Lines.{is_newline}
use Rattle.lk_model.specs.declared.verdict.ReadStop.{ReadStop}
use Rattle.lk_model.specs.declared.verdict.ReadStop.TheVariants as read
use Rattle.lk_text.specs.Cutting.{is_one_line, IsNextLine}
use Rattle.lk_text.specs.declared.cuts.Cut.{Cut}
use Rattle.line_text.specs.LineReading.{is_whole_line, are_whole_lines, Grammar, IsReadBy, IsAdmitted, LeadsOn, LeadsNowhere}
use Rattle.line_text.proofs.LineCuts.{line_next}
use Rattle.line_text.proofs.LineReads.{IsAt, cut_behind, whole_line, stops_at_line, stops_unended, ends_whole, ends_early}
use Rattle.line_pieces.specs.Fed.{StandsAt, Stands, HasTaken, IsSound, Extends, Refuses, EndsLine, RefusesLine}
use Rattle.line_pieces.specs.declared.progress.Progress.{Progress}

-- A LINE WITHIN A TEXT

-- where it lies
line_in : (before line rest : List ℕ) → slice_range (before ++ (line ++ rest)) (length before) (length before + length line) ≡ line
line_in before line rest =
    let size : length before + length line - length before ≡ length line = omega arith in
    ap (λ (n : ℕ). take n (drop (length before) (before ++ (line ++ rest)))) size
    ∙ ap (take (length line)) (drop-append_seam before (line ++ rest)) ∙ take-append_seam line rest

abbrev cut_from : ℕ → ℕ → ℕ → Cut
cut_from begin end next = record { begin = begin; end = end; next = next }

-- one with its byte 10
next_ended : (before line rest : List ℕ) → is_one_line line ≡ true
    → IsNextLine (before ++ (line ++ 10 ∷ rest)) (length before) (cut_from (length before) (length before + length line) (length before + length line + 1))
next_ended before line rest h = record {
  begins = refl;
  order = omega arith;
  within = omega (arith, size, behind);
  one_line = ap is_one_line (line_in before line (10 ∷ rest)) ∙ h;
  ends = inl (
    omega (arith, size, behind),
    get_or-append-add before (line ++ 10 ∷ rest) (length line) 0 ∙ get_or-append_seam line 10 rest 0,
    refl,
  );
}
  where
    size : length (before ++ (line ++ 10 ∷ rest)) ≡ length before + length (line ++ 10 ∷ rest)
    size = length-append before (line ++ 10 ∷ rest)

    behind : length (line ++ 10 ∷ rest) ≡ length line + suc (length rest)
    behind = length-append line (10 ∷ rest)

-- the last one, without it
next_unended : (before line : List ℕ) → is_one_line line ≡ true
    → IsNextLine (before ++ (line ++ [])) (length before) (cut_from (length before) (length before + length line) (length before + length line))
next_unended before line h = record {
  begins = refl;
  order = omega arith;
  within = omega (arith, size);
  one_line = ap is_one_line (line_in before line []) ∙ h;
  ends = inr (size, refl);
}
  where
    size : length before + length line ≡ length (before ++ (line ++ []))
    size = sym (length-append before (line ++ []) ∙ ap (λ (bs : List ℕ). length before + length bs) (append-nil line))

-- WHERE A READER STANDS

-- what was fed and whatever goes on after it
fed_and : {V : Type 0} (Start Now : Grammar V) (fed unended more : List ℕ) (lines : ℕ) (h : StandsAt Start Now fed unended lines) → fed ++ more ≡ concat h.taken ++ (unended ++ more)
fed_and Start Now fed unended more lines h = ap (λ (bs : List ℕ). bs ++ more) h.bytes ∙ append_assoc (concat h.taken) unended more

-- after the lines that were taken, in any text that goes on like this
at_open : {V : Type 0} (Start Now : Grammar V) (fed unended more : List ℕ) (lines : ℕ) (h : StandsAt Start Now fed unended lines)
    → IsAt Start Now (concat h.taken ++ (unended ++ more)) (length (concat h.taken)) lines
at_open Start Now fed unended more lines h = record {
  taken = h.taken;
  whole = h.whole;
  lines = cut_behind h.taken (unended ++ more) h.whole ∙ ap (λ (bs : List ℕ). h.taken ++ cut_lines bs) (sym (drop-append_seam (concat h.taken) (unended ++ more)));
  count = h.count;
  same = h.same;
  completed = h.completed;
}

-- bytes more of the open line
pub goes_on : {V : Type 0} (Start Now : Grammar V) (fed unended rest : List ℕ) (lines : ℕ) → StandsAt Start Now fed unended lines → StandsAt Start Now (fed ++ rest) (unended ++ rest) lines
goes_on Start Now fed unended rest lines h = record { taken = h.taken; whole = h.whole; bytes = fed_and Start Now fed unended rest lines h; count = h.count; same = h.same; completed = h.completed }

-- the open line ends
pub ends_line : {V : Type 0} (Start Now Next : Grammar V) (fed unended rest : List ℕ) (lines : ℕ) → StandsAt Start Now fed unended lines → is_one_line (unended ++ rest) ≡ true
    → LeadsOn Now Next ((unended ++ rest) ++ 10 ∷ []) → StandsAt Start Next (fed ++ (rest ++ 10 ∷ [])) [] (lines + 1)
ends_line {V = V} Start Now Next fed unended rest lines h one on = record {
  taken = h.taken ++ line ∷ [];
  whole = list_all-append is_whole_line h.taken (line ∷ [])
      ∙ and_from (are_whole_lines h.taken) (are_whole_lines (line ∷ [])) h.whole
      (and_from (is_whole_line line) true (whole_line (unended ++ rest) one) refl);
  bytes = fed_and Start Now fed unended (rest ++ 10 ∷ []) lines h
      ∙ ap (λ (bs : List ℕ). concat h.taken ++ bs) (sym (append_assoc unended rest (10 ∷ [])) ∙ sym (append-nil line))
      ∙ sym (concat-append h.taken (line ∷ []))
      ∙ sym (append-nil (concat (h.taken ++ line ∷ [])));
  count = omega (arith, h.count, length-append h.taken (line ∷ []));
  same = λ value more. (
    λ x. subst (λ (ls : List (List ℕ)). Start value ls) (sym (longer more)) ((h.same value (line ∷ more)).0 ((on.same value more).0 x)),
    λ x. (on.same value more).1 ((h.same value (line ∷ more)).1 (subst (λ (ls : List (List ℕ)). Start value ls) (longer more) x)),
  );
  completed = on.completed;
}
  where
    line : List ℕ
    line = (unended ++ rest) ++ 10 ∷ []

    longer : (more : List (List ℕ)) → (h.taken ++ line ∷ []) ++ more ≡ h.taken ++ line ∷ more
    longer more = append_assoc h.taken (line ∷ []) more

-- A LINE WITHIN A PIECE

-- what lies from the place on
from_place : (piece : List ℕ) (at : ℕ) (cut : Cut) → IsNextLine piece at cut → piece ≡ take at piece ++ (slice_range piece cut.begin cut.end ++ drop cut.end piece)
from_place piece at cut c =
    sym (take-append-drop at piece)
    ∙ ap (λ (bs : List ℕ). take at piece ++ bs) (ap (λ (n : ℕ). drop n piece) (sym c.begins) ∙ drop_split piece cut.begin cut.end c.order)

-- a line that the end of the piece cuts off
pub piece_ends : (piece : List ℕ) (at : ℕ) (cut : Cut) → IsNextLine piece at cut → cut.end ≡ length piece → take at piece ++ slice_range piece cut.begin cut.end ≡ piece
piece_ends piece at cut c e =
    let line = slice_range piece cut.begin cut.end in
    let none : drop cut.end piece ≡ [] = ap (λ (n : ℕ). drop n piece) e ∙ drop-length piece in
    sym (from_place piece at cut c ∙ ap (λ (bs : List ℕ). take at piece ++ (line ++ bs)) none ∙ ap (λ (bs : List ℕ). take at piece ++ bs) (append-nil line))

-- one with its byte 10
piece_parts : (piece : List ℕ) (at : ℕ) (cut : Cut) → IsNextLine piece at cut → cut.end < length piece
    → piece ≡ take at piece ++ (slice_range piece cut.begin cut.end ++ 10 ∷ drop cut.next piece)
piece_parts piece at cut c lt = elim c.ends [
  | inl e ↦
      let place : suc cut.end ≡ cut.next = omega (arith, e.2) in
      let tail : drop cut.end piece ≡ 10 ∷ drop cut.next piece =
      drop-cons piece cut.end 0 e.0 ∙ ap (λ (b : ℕ). b ∷ drop (suc cut.end) piece) e.1 ∙ ap (λ (n : ℕ). 10 ∷ drop n piece) place in
      from_place piece at cut c ∙ ap (λ (bs : List ℕ). take at piece ++ (slice_range piece cut.begin cut.end ++ bs)) tail
  | inr e ↦ absurd (omega (arith, e.0, lt))
]

piece_line : (piece : List ℕ) (at : ℕ) (cut : Cut) → IsNextLine piece at cut → cut.end < length piece → take cut.next piece ≡ take at piece ++ (slice_range piece cut.begin cut.end ++ 10 ∷ [])
piece_line piece at cut c lt = ap (take cut.next) whole ∙ take_at front (drop cut.next piece) cut.next size
  where
    line : List ℕ
    line = slice_range piece cut.begin cut.end

    front : List ℕ
    front = take at piece ++ (line ++ 10 ∷ [])

    whole : piece ≡ front ++ drop cut.next piece
    whole = piece_parts piece at cut c lt
        ∙ ap (λ (bs : List ℕ). take at piece ++ bs) (sym (append_assoc line (10 ∷ []) (drop cut.next piece)))
        ∙ sym (append_assoc (take at piece) (line ++ 10 ∷ []) (drop cut.next piece))

    next : cut.next ≡ cut.end + 1
    next = line_next piece at cut c lt

    size : length front ≡ cut.next
    size = omega (
      arith,
      length-append (take at piece) (line ++ 10 ∷ []),
      length-append line (10 ∷ []),
      length-take at piece,
      length-take (cut.end - cut.begin) (drop cut.begin piece),
      length-drop cut.begin piece,
      c.begins,
      c.order,
      c.within,
      next,
      lt,
    )

-- no line end stands in both
one_line_of : (unended rest : List ℕ) → is_one_line unended ≡ true → is_one_line rest ≡ true → is_one_line (unended ++ rest) ≡ true
one_line_of unended rest h k = list_all-append (λ b. not (is_newline b)) unended rest ∙ and_from (is_one_line unended) (is_one_line rest) h k

-- the piece ends in a line
pub extends_open : {R V : Type 0} (completes : R → Grammar V) (start now : Progress R) (piece bytes : List ℕ) (at : ℕ) (cut : Cut) → Extends completes start now (take at piece) → IsNextLine piece at cut → cut.end ≡ length piece
    → bytes ≡ now.unended.items ++ slice_range piece cut.begin cut.end → (first : R) (fed : List ℕ) → Stands completes first fed start
    → StandsAt (completes first) (completes now.reader) (fed ++ piece) bytes now.lines
extends_open completes start now piece bytes at cut before c e same first fed h =
    let line = slice_range piece cut.begin cut.end in
    let all : (fed ++ take at piece) ++ line ≡ fed ++ piece = append_assoc fed (take at piece) line ∙ ap (λ (bs : List ℕ). fed ++ bs) (piece_ends piece at cut c e) in
    subst (λ (bs : List ℕ). StandsAt (completes first) (completes now.reader) bs bytes now.lines) all
    (subst (λ (bs : List ℕ). StandsAt (completes first) (completes now.reader) ((fed ++ take at piece) ++ line) bs now.lines) (sym same)
    (goes_on (completes first) (completes now.reader) (fed ++ take at piece) now.unended.items line now.lines (before first fed h)))

-- the next line ends in the piece
pub extends_line : {R V : Type 0} (completes : R → Grammar V) (start now next : Progress R) (piece : List ℕ) (at : ℕ) (cut : Cut) → Extends completes start now (take at piece) → IsNextLine piece at cut → cut.end < length piece
    → is_one_line now.unended.items ≡ true → EndsLine completes now next (slice_range piece cut.begin cut.end) → next.unended.items ≡ [] → next.lines ≡ now.lines + 1
    → Extends completes start next (take cut.next piece)
extends_line completes start now next piece at cut before c lt one on none count first fed h =
    let line = slice_range piece cut.begin cut.end in
    let all : (fed ++ take at piece) ++ (line ++ 10 ∷ []) ≡ fed ++ take cut.next piece =
    append_assoc fed (take at piece) (line ++ 10 ∷ []) ∙ ap (λ (bs : List ℕ). fed ++ bs) (sym (piece_line piece at cut c lt)) in
    let ended = ends_line (completes first) (completes now.reader) (completes next.reader) (fed ++ take at piece) now.unended.items line now.lines (before first fed h) (one_line_of now.unended.items line one c.one_line) on in
    subst (λ (bs : List ℕ). StandsAt (completes first) (completes next.reader) (fed ++ take cut.next piece) bs next.lines) (sym none)
    (subst (λ (n : ℕ). StandsAt (completes first) (completes next.reader) (fed ++ take cut.next piece) [] n) (sym count)
    (subst (λ (bs : List ℕ). StandsAt (completes first) (completes next.reader) bs [] (now.lines + 1)) all ended))

-- WHERE A TEXT STOPS

-- the open line may not come, whatever stands after it
pub stops_at : {V : Type 0} (Start Now : Grammar V) (fed unended rest behind : List ℕ) (lines : ℕ) → StandsAt Start Now fed unended lines → is_one_line (unended ++ rest) ≡ true
    → LeadsNowhere Now ((unended ++ rest) ++ 10 ∷ []) → StopsAs (IsAdmitted Start) (fed ++ (rest ++ 10 ∷ behind)) (lines + 1)
stops_at Start Now fed unended rest behind lines h one nowhere =
    subst (λ (bs : List ℕ). StopsAs (IsAdmitted Start) bs (lines + 1)) (sym whole)
    (stops_at_line Start Now text (length before) lines (cut_from (length before) (length before + length line) (length before + length line + 1)) place (next_ended before line behind one) ended
    (subst (λ (bs : List ℕ). LeadsNowhere Now (bs ++ 10 ∷ [])) (sym (line_in before line (10 ∷ behind))) nowhere))
  where
    before : List ℕ
    before = concat h.taken

    line : List ℕ
    line = unended ++ rest

    text : List ℕ
    text = before ++ (line ++ 10 ∷ behind)

    joined : unended ++ (rest ++ 10 ∷ behind) ≡ line ++ 10 ∷ behind
    joined = sym (append_assoc unended rest (10 ∷ behind))

    whole : fed ++ (rest ++ 10 ∷ behind) ≡ text
    whole = fed_and Start Now fed unended (rest ++ 10 ∷ behind) lines h ∙ ap (λ (bs : List ℕ). before ++ bs) joined

    place : IsAt Start Now text (length before) lines
    place = subst (λ (bs : List ℕ). IsAt Start Now (before ++ bs) (length before) lines) joined (at_open Start Now fed unended (rest ++ 10 ∷ behind) lines h)

    ended : length before + length line < length text
    ended = omega (arith, length-append before (line ++ 10 ∷ behind), length-append line (10 ∷ behind))

-- at the end a line is open
pub stops_open : {V : Type 0} (Start Now : Grammar V) (fed unended : List ℕ) (lines : ℕ) → StandsAt Start Now fed unended lines → is_one_line unended ≡ true → 0 < length unended
    → StopsAs (IsAdmitted Start) fed (lines + 1)
stops_open Start Now fed unended lines h one some =
    subst (λ (bs : List ℕ). StopsAs (IsAdmitted Start) bs (lines + 1)) (sym (fed_and Start Now fed unended [] lines h) ∙ append-nil fed)
    (stops_unended Start Now (before ++ (unended ++ [])) (length before) lines (cut_from (length before) (length before + length unended) (length before + length unended))
    (at_open Start Now fed unended [] lines h) (omega (arith, size, some)) (next_unended before unended one) size)
  where
    before : List ℕ
    before = concat h.taken

    size : length before + length unended ≡ length (before ++ (unended ++ []))
    size = sym (length-append before (unended ++ []) ∙ ap (λ (bs : List ℕ). length before + length bs) (append-nil unended))

pub none_left : (xs : List ℕ) → length xs ≡ 0 → xs ≡ []
none_left [] e = refl
none_left (x ∷ xs) e = absurd (omega (arith, e))

-- at the end none is
at_end : {V : Type 0} (Start Now : Grammar V) (fed : List ℕ) (lines : ℕ) (h : StandsAt Start Now fed [] lines) → IsAt Start Now fed (length fed) lines
at_end Start Now fed lines h =
    let bare : concat h.taken ++ [] ≡ fed = sym h.bytes in
    let size : length (concat h.taken) ≡ length fed = ap length (sym (append-nil (concat h.taken)) ∙ bare) in
    subst (λ (n : ℕ). IsAt Start Now fed n lines) size (subst (λ (bs : List ℕ). IsAt Start Now bs (length (concat h.taken)) lines) bare (at_open Start Now fed [] [] lines h))

pub reads_whole : {V : Type 0} (Start Now : Grammar V) (fed : List ℕ) (lines : ℕ) (value : V) → StandsAt Start Now fed [] lines → Now value [] → IsReadBy Start fed value
reads_whole Start Now fed lines value h is = ends_whole Start Now fed (length fed) lines value (at_end Start Now fed lines h) refl is

pub stops_early : {V : Type 0} (Start Now : Grammar V) (fed : List ℕ) (lines : ℕ) → StandsAt Start Now fed [] lines → ((value : V) → Now value [] → ⊥) → StopsAs (IsAdmitted Start) fed (lines + 1)
stops_early Start Now fed lines h none = ends_early Start Now fed (length fed) lines (at_end Start Now fed lines h) refl none

-- the next line of a piece may not come
pub refuses_line : {R V : Type 0} (completes : R → Grammar V) (start now : Progress R) (piece : List ℕ) (at : ℕ) (cut : Cut) (stop : ReadStop) → Extends completes start now (take at piece) → IsNextLine piece at cut → cut.end < length piece
    → is_one_line now.unended.items ≡ true → RefusesLine completes now (slice_range piece cut.begin cut.end) stop → Refuses completes start piece stop
refuses_line completes start now piece at cut read.OutOfMemory before c lt one nowhere first fed h more = tt
refuses_line completes start now piece at cut (read.Line number) before c lt one nowhere first fed h more =
    let line = slice_range piece cut.begin cut.end in
    let behind = drop cut.next piece ++ more in
    let tail : (line ++ 10 ∷ drop cut.next piece) ++ more ≡ line ++ 10 ∷ behind = append_assoc line (10 ∷ drop cut.next piece) more in
    let all : (fed ++ take at piece) ++ (line ++ 10 ∷ behind) ≡ (fed ++ piece) ++ more =
    append_assoc fed (take at piece) (line ++ 10 ∷ behind)
    ∙ ap (λ (bs : List ℕ). fed ++ bs) (ap (λ (bs : List ℕ). take at piece ++ bs) (sym tail) ∙ sym (append_assoc (take at piece) (line ++ 10 ∷ drop cut.next piece) more)
    ∙ ap (λ (bs : List ℕ). bs ++ more) (sym (piece_parts piece at cut c lt)))
    ∙ sym (append_assoc fed piece more) in
    subst (λ (n : ℕ). StopsAs (IsAdmitted (completes first)) ((fed ++ piece) ++ more) n) (sym nowhere.0)
    (subst (λ (bs : List ℕ). StopsAs (IsAdmitted (completes first)) bs (now.lines + 1)) all
    (stops_at (completes first) (completes now.reader) (fed ++ take at piece) now.unended.items line behind now.lines (before first fed h) (one_line_of now.unended.items line one c.one_line) nowhere.1))

-- how many bytes a reader took
pub limit_taken : {R V : Type 0} (completes : R → Grammar V) (first : R) (fits : R → Type 0) (count : R → ℕ) (fed : List ℕ) (progress : Progress R) (r : Result (Unit {0}) ReadStop)
    → OnOk r (HasTaken completes first fed progress) → OnOk r (IsSound fits count progress) → OnOk r (length fed < 2 ^ 63)
limit_taken completes first fits count fed progress (Ok x) h s = omega (arith, h.size, s.limit)
limit_taken completes first fits count fed progress (Err e) h s = tt
