-- The first fault among the first bytes of a text does not depend on how the text goes on.
use Rattle.std.proofs.Common.{◌≡◌, ℕ, ◌+◌, ◌<◌, ◌≤◌, Bool, true, false, cond, ◌||◌, List, [], ◌∷◌, ◌++◌, length, Option, Some, None, refl, sym, ◌∙◌, ap, arith, inl, inr, length-append, nat_lt}
use Rattle.std.specs.List.{slice_split}
use Rattle.lk_model.specs.Limits.{max_vars, max_clauses}
use Rattle.lk_model.specs.Texts.Lines.{Piece, is_newline, placed_after, words_of, texts}
use Rattle.lk_model.specs.Texts.Dimacs.{stated_by}
use Rattle.lk_model.specs.declared.text_fault.Fault.{Fault}
use Rattle.lk_model.specs.declared.text_fault.FaultKind.TheVariants.{NoHeader, Limit}
use Rattle.dimacs_reader.specs.LineKinds.{LineKind, kind_by}
use Rattle.dimacs_reader.specs.FirstFaults.{or_behind, fault_among, fault_at_end, line_fault, fault_behind, problem_line_fault, first_line_fault, fault_from, text_fault}
use Rattle.dimacs_reader.proofs.Placing.{room, room_split}
use Rattle.dimacs_reader.proofs.LineSteps.{kind_placed}
use Rattle.dimacs_reader.proofs.Cuts.{piece}
use Rattle.dimacs_reader.proofs.NumberLemmas.{glue, split_part, split-append}
use Rattle.dimacs_reader.proofs.LateFaults.{late_fault, or_late, late_end, late_behind, late_from, late_problem_line, same_line, late_line, same_first, late_first}
use Rattle.dimacs_reader.proofs.LongerLines.{GoesOn, line_goes_on}
pub use Rattle.dimacs_reader.proofs.LateFaults.{within}

-- THE LAST LINE

-- the last line after a problem line, where it goes on and others follow
last_behind : (k vars clauses n end over over2 : ℕ) (earlier : List Piece) (line line2 : Piece) (later : List (List ℕ))
    → GoesOn k (words_of line) (words_of line2) end → k < over → k < n → n + room later ≤ over2
    → within k (fault_behind vars clauses earlier (line2 ∷ placed_after n later) over2) ≡ within k (fault_behind vars clauses earlier (line ∷ []) over)
last_behind k vars clauses n end over over2 earlier line line2 later g h i o =
    let here = fault_among vars clauses earlier (words_of line) in
    let here2 = fault_among vars clauses earlier (words_of line2) in
    let skipped = fault_at_end clauses earlier over in
    let skipped2 = fault_behind vars clauses earlier (placed_after n later) over2 in
    let taken = fault_at_end clauses (earlier ++ words_of line) over in
    let taken2 = fault_behind vars clauses (earlier ++ words_of line2) (placed_after n later) over2 in
    let late = late_end k clauses earlier over h in
    let late2 = late_behind k vars clauses n over2 earlier later i o in
    let numbers = or_late k here taken (late_end k clauses (earlier ++ words_of line) over h) in
    let numbers2 = or_late k here2 taken2 (late_behind k vars clauses n over2 (earlier ++ words_of line2) later i o) in
    elim g.kind [
      | inl e ↦
          ap (λ (kind : LineKind). within k (line_fault kind clauses earlier here2 skipped2 taken2)) e
          ∙ same_line k clauses earlier (kind_by (words_of line)) here here2 skipped skipped2 taken taken2 (late2 ∙ sym late) (numbers2 ∙ g.same vars clauses earlier ∙ sym numbers)
      | inr e ↦
          let none : within k here ≡ None = ap (λ (ws : List Piece). within k (fault_among vars clauses earlier ws)) e.0 in
          late_line k end clauses earlier (kind_by (words_of line2)) here2 skipped2 taken2 (kind_placed k (words_of line2) end e.1) late2 (numbers2 ∙ g.same vars clauses earlier ∙ none)
          ∙ sym (ap (λ (ws : List Piece). within k (line_fault (kind_by ws) clauses earlier here skipped taken)) e.0 ∙ late)
    ]

-- the same before the problem line
last_from : (k n end over over2 : ℕ) (line line2 : Piece) (later : List (List ℕ)) → GoesOn k (words_of line) (words_of line2) end
    → k < line.last → k < line2.last → k < over → k < n → n + room later ≤ over2
    → within k (fault_from (line2 ∷ placed_after n later) over2) ≡ within k (fault_from (line ∷ []) over)
last_from k n end over over2 line line2 later g a b h i o =
    let skipped = fault_from [] over in
    let skipped2 = fault_from (placed_after n later) over2 in
    let problem = problem_line_fault (stated_by (texts (words_of line))) line.last [] over in
    let problem2 = problem_line_fault (stated_by (texts (words_of line2))) line2.last (placed_after n later) over2 in
    let late = late_fault k (record { kind = NoHeader; place = over }) h in
    let late2 = late_from k n over2 later i o in
    let headed = late_problem_line k (stated_by (texts (words_of line))) line.last over over [] a h (omega arith) in
    let headed2 = late_problem_line k (stated_by (texts (words_of line2))) line2.last n over2 later b i o in
    elim g.kind [
      | inl e ↦
          ap (λ (kind : LineKind). within k (first_line_fault kind skipped2 problem2)) e
          ∙ same_first k (kind_by (words_of line)) skipped skipped2 problem problem2 (late2 ∙ sym late) (headed2 ∙ sym headed)
      | inr e ↦
          late_first k end (kind_by (words_of line2)) skipped2 problem2 (kind_placed k (words_of line2) end e.1) late2 headed2
          ∙ sym (ap (λ (ws : List Piece). within k (first_line_fault (kind_by ws) skipped problem)) e.0 ∙ late)
    ]

-- ALL LINES

-- the first fault after a problem line, where the last line goes on
same_behind : (k vars clauses n over over2 : ℕ) (parts : List (List ℕ)) (first : List ℕ) (later : List (List ℕ)) (earlier : List Piece)
    → k + 1 < n + room parts → n + room parts ≤ over → n + room (glue parts (first ∷ later)) ≤ over2
    → within k (fault_behind vars clauses earlier (placed_after n (glue parts (first ∷ later))) over2) ≡ within k (fault_behind vars clauses earlier (placed_after n parts) over)
unfolding glue
same_behind k vars clauses n over over2 [] first later earlier h o o2 =
    late_behind k vars clauses n over2 earlier (first ∷ later) (omega (arith, h)) o2 ∙ sym (late_end k clauses earlier over (omega (arith, h, o)))
same_behind k vars clauses n over over2 (run ∷ []) first later earlier h o o2 =
    let size = length-append run first in
    last_behind k vars clauses (n + length (run ++ first) + 1) (n + length (run ++ first)) over over2 earlier (piece run (n + length run)) (piece (run ++ first) (n + length (run ++ first))) later
    (line_goes_on k n run first (omega (arith, h))) (omega (arith, h, o)) (omega (arith, h, size)) (omega (arith, o2))
same_behind k vars clauses n over over2 (run ∷ next ∷ parts) first later earlier h o o2 =
    let words = words_of (piece run (n + length run)) in
    let here = fault_among vars clauses earlier words in
    let m = n + length run + 1 in
    let rest = placed_after m (next ∷ parts) in
    let rest2 = placed_after m (glue (next ∷ parts) (first ∷ later)) in
    same_line k clauses earlier (kind_by words) here here (fault_behind vars clauses earlier rest over) (fault_behind vars clauses earlier rest2 over2)
    (fault_behind vars clauses (earlier ++ words) rest over) (fault_behind vars clauses (earlier ++ words) rest2 over2)
    (same_behind k vars clauses m over over2 (next ∷ parts) first later earlier (omega (arith, h)) (omega (arith, o)) (omega (arith, o2)))
    (same_taken here (fault_behind vars clauses (earlier ++ words) rest over) (fault_behind vars clauses (earlier ++ words) rest2 over2)
    (same_behind k vars clauses m over over2 (next ∷ parts) first later (earlier ++ words) (omega (arith, h)) (omega (arith, o)) (omega (arith, o2))))
  where
    same_taken : (a b c : Option Fault) → within k c ≡ within k b → within k (or_behind a c) ≡ within k (or_behind a b)
    same_taken None b c e = e
    same_taken (Some f) b c e = refl

-- a problem line, where the last line after it goes on
same_problem_line : (k : ℕ) (stated : Option (ℕ × ℕ)) (last n over over2 : ℕ) (parts : List (List ℕ)) (first : List ℕ) (later : List (List ℕ))
    → k + 1 < n + room parts → n + room parts ≤ over → n + room (glue parts (first ∷ later)) ≤ over2
    → within k (problem_line_fault stated last (placed_after n (glue parts (first ∷ later))) over2) ≡ within k (problem_line_fault stated last (placed_after n parts) over)
same_problem_line k None last n over over2 parts first later h o o2 = refl
same_problem_line k (Some (vars, clauses)) last n over over2 parts first later h o o2 = by_test (nat_lt max_vars vars || nat_lt max_clauses clauses)
  where
    by_test : (b : Bool) → within k (cond b (Some (record { kind = Limit; place = last })) (fault_behind vars clauses [] (placed_after n (glue parts (first ∷ later))) over2))
        ≡ within k (cond b (Some (record { kind = Limit; place = last })) (fault_behind vars clauses [] (placed_after n parts) over))
    by_test true = refl
    by_test false = same_behind k vars clauses n over over2 parts first later [] h o o2

-- the first fault of lines, where the last one goes on
same_from : (k n over over2 : ℕ) (parts : List (List ℕ)) (first : List ℕ) (later : List (List ℕ))
    → k + 1 < n + room parts → n + room parts ≤ over → n + room (glue parts (first ∷ later)) ≤ over2
    → within k (fault_from (placed_after n (glue parts (first ∷ later))) over2) ≡ within k (fault_from (placed_after n parts) over)
unfolding glue
same_from k n over over2 [] first later h o o2 =
    late_from k n over2 (first ∷ later) (omega (arith, h)) o2 ∙ sym (late_fault k (record { kind = NoHeader; place = over }) (omega (arith, h, o)))
same_from k n over over2 (run ∷ []) first later h o o2 =
    let size = length-append run first in
    last_from k (n + length (run ++ first) + 1) (n + length (run ++ first)) over over2 (piece run (n + length run)) (piece (run ++ first) (n + length (run ++ first))) later
    (line_goes_on k n run first (omega (arith, h))) (omega (arith, h)) (omega (arith, h, size)) (omega (arith, h, o)) (omega (arith, h, size)) (omega (arith, o2))
same_from k n over over2 (run ∷ next ∷ parts) first later h o o2 =
    let words = words_of (piece run (n + length run)) in
    let stated = stated_by (texts words) in
    let last = n + length run in
    let rest = placed_after (last + 1) (next ∷ parts) in
    let rest2 = placed_after (last + 1) (glue (next ∷ parts) (first ∷ later)) in
    same_first k (kind_by words) (fault_from rest over) (fault_from rest2 over2) (problem_line_fault stated last rest over) (problem_line_fault stated last rest2 over2)
    (same_from k (last + 1) over over2 (next ∷ parts) first later (omega (arith, h)) (omega (arith, o)) (omega (arith, o2)))
    (same_problem_line k stated last (last + 1) over over2 (next ∷ parts) first later (omega (arith, h)) (omega (arith, o)) (omega (arith, o2)))

-- the first fault of a text, within the first k bytes, where more bytes follow
pub same_within : (k : ℕ) (text more : List ℕ) → k < length text → within k (text_fault (text ++ more)) ≡ within k (text_fault text)
same_within k text more h =
    let parts = slice_split is_newline text in
    let o = split_part is_newline more in
    let joined : slice_split is_newline (text ++ more) ≡ glue parts (o.0 ∷ o.1) = split-append is_newline text more ∙ ap (glue parts) o.2 in
    let room1 = room_split is_newline text in
    let room2 = room_split is_newline (text ++ more) in
    let room3 = ap room joined in
    ap (λ (ps : List (List ℕ)). within k (fault_from (placed_after 0 ps) (length (text ++ more) + 1))) joined
    ∙ same_from k 0 (length text + 1) (length (text ++ more) + 1) parts o.0 o.1 (omega (arith, h, room1)) (omega (arith, room1)) (omega (arith, room2, room3))
