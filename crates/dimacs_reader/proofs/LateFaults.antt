-- Faults after the first bytes of a text.
use Rattle.std.proofs.Common.{◌≡◌, ℕ, ◌+◌, ◌-◌, ◌<◌, ◌≤◌, Bool, true, false, cond, ◌||◌, List, [], length, Option, Some, None, refl, ap, arith, nat_lt}
use Rattle.std.specs.Prelude.{nat_le}
use Rattle.std.proofs.lemmas.Bool.{lt-leb}
use Rattle.lk_model.specs.Limits.{max_vars, max_clauses}
use Rattle.lk_model.specs.Texts.Lines.{Piece, placed_after}
use Rattle.lk_model.specs.Texts.Dimacs.{runs_of}
use Rattle.lk_model.specs.Texts.Fault.{numbers_of, least}
use Rattle.lk_model.specs.declared.text_fault.Fault.{Fault}
use Rattle.lk_model.specs.declared.text_fault.FaultKind.TheVariants.{NoHeader, BadHeader, SecondHeader, TooFewClauses, Limit}
use Rattle.dimacs_reader.specs.LineKinds.{LineKind, Skipped, EndMark, Problem, Numbers}
use Rattle.dimacs_reader.specs.FirstFaults.{or_behind, fault_at_end, line_fault, fault_behind, problem_line_fault, first_line_fault, fault_from}
use Rattle.dimacs_reader.proofs.Least.{Above, least_above}
use Rattle.dimacs_reader.proofs.Placing.{AreLines, room, placed, lines_placed}
use Rattle.dimacs_reader.proofs.LineSteps.{IsPlaced}
use Rattle.dimacs_reader.proofs.LineFaults.{all_behind, all_above, least_behind, all_faults, lines_above, least_lines}

-- the fault, if its place is one of the first k
abbrev pub within : ℕ → Option Fault → Option Fault
within k None = None
within k (Some f) = cond (nat_le f.place k) (Some f) None

-- LATE FAULTS

-- a fault after the first k bytes does not show among them
pub late_fault : (k : ℕ) (f : Fault) → k < f.place → within k (Some f) ≡ None
late_fault k f h = ap (λ (b : Bool). cond b (Some f) None) (lt-leb f.place k h)

-- the same of the least of faults that all stand after them
late_least : (k : ℕ) (fs : List Fault) (o : Option Fault) → Above k fs → least fs ≡ o → within k o ≡ None
late_least k fs None a e = refl
late_least k fs (Some f) a e = late_fault k f (least_above k fs f a e)

-- a late fault after another one does not matter
pub or_late : (k : ℕ) (a b : Option Fault) → within k b ≡ None → within k (or_behind a b) ≡ within k a
or_late k None b h = h
or_late k (Some f) b h = refl

-- too few clauses at a late end
pub late_end : (k clauses : ℕ) (words : List Piece) (end : ℕ) → k < end → within k (fault_at_end clauses words end) ≡ None
late_end k clauses words end h = by_test (nat_lt (length (runs_of (numbers_of words))) clauses)
  where
    by_test : (b : Bool) → within k (cond b (Some (record { kind = TooFewClauses; place = end })) None) ≡ None
    by_test true = late_fault k (record { kind = TooFewClauses; place = end }) h
    by_test false = refl

-- pieces that begin after the first k bytes are lines after them
late_lines : (k n over : ℕ) (parts : List (List ℕ)) → k < n → n + room parts ≤ over → AreLines k (placed_after n parts) (over - 1)
late_lines k n over parts h o =
    lines_placed k (placed_after n parts) (over - 1) (placed k n parts (over - 1) (omega (arith, h)) (omega (arith, h, o)) (omega (arith, h, o)))

-- late lines after a problem line
pub late_behind : (k vars clauses n over : ℕ) (earlier : List Piece) (parts : List (List ℕ)) → k < n → n + room parts ≤ over
    → within k (fault_behind vars clauses earlier (placed_after n parts) over) ≡ None
late_behind k vars clauses n over earlier parts h o =
    let lines = placed_after n parts in
    let stand = late_lines k n over parts h o in
    let before : over - 1 < over = omega (arith, h, o) in
    late_least k (all_behind vars clauses earlier lines over) (fault_behind vars clauses earlier lines over)
    (all_above vars clauses k lines (over - 1) over stand before earlier) (least_behind vars clauses k lines (over - 1) over stand before earlier)

-- late lines before a problem line
pub late_from : (k n over : ℕ) (parts : List (List ℕ)) → k < n → n + room parts ≤ over → within k (fault_from (placed_after n parts) over) ≡ None
late_from k n over parts h o =
    let lines = placed_after n parts in
    let stand = late_lines k n over parts h o in
    let before : over - 1 < over = omega (arith, h, o) in
    late_least k (all_faults lines over) (fault_from lines over) (lines_above k lines (over - 1) over stand before) (least_lines k lines (over - 1) over stand before)

-- a problem line that ends late
pub late_problem_line : (k : ℕ) (stated : Option (ℕ × ℕ)) (last n over : ℕ) (parts : List (List ℕ)) → k < last → k < n → n + room parts ≤ over
    → within k (problem_line_fault stated last (placed_after n parts) over) ≡ None
late_problem_line k None last n over parts h g o = late_fault k (record { kind = BadHeader; place = last }) h
late_problem_line k (Some (vars, clauses)) last n over parts h g o = by_test (nat_lt max_vars vars || nat_lt max_clauses clauses)
  where
    by_test : (b : Bool) → within k (cond b (Some (record { kind = Limit; place = last })) (fault_behind vars clauses [] (placed_after n parts) over)) ≡ None
    by_test true = late_fault k (record { kind = Limit; place = last }) h
    by_test false = late_behind k vars clauses n over [] parts g o

-- KINDS

-- two line faults of one kind that agree where the line is skipped, and where its words are taken
pub same_line : (k clauses : ℕ) (earlier : List Piece) (kind : LineKind) (here here2 skipped skipped2 taken taken2 : Option Fault)
    → within k skipped2 ≡ within k skipped → within k (or_behind here2 taken2) ≡ within k (or_behind here taken)
    → within k (line_fault kind clauses earlier here2 skipped2 taken2) ≡ within k (line_fault kind clauses earlier here skipped taken)
same_line k clauses earlier (EndMark first) here here2 skipped skipped2 taken taken2 s t = refl
same_line k clauses earlier Skipped here here2 skipped skipped2 taken taken2 s t = s
same_line k clauses earlier (Problem first) here here2 skipped skipped2 taken taken2 s t = refl
same_line k clauses earlier (Numbers first) here here2 skipped skipped2 taken taken2 s t = t

-- a line after the problem line whose first word is late
pub late_line : (k end clauses : ℕ) (earlier : List Piece) (kind : LineKind) (here skipped taken : Option Fault) → IsPlaced k kind end
    → within k skipped ≡ None → within k (or_behind here taken) ≡ None → within k (line_fault kind clauses earlier here skipped taken) ≡ None
late_line k end clauses earlier (EndMark first) here skipped taken p s t = late_end k clauses earlier first p.0
late_line k end clauses earlier Skipped here skipped taken p s t = s
late_line k end clauses earlier (Problem first) here skipped taken p s t = late_fault k (record { kind = SecondHeader; place = first }) p.0
late_line k end clauses earlier (Numbers first) here skipped taken p s t = t

-- the same of two line faults before the problem line
pub same_first : (k : ℕ) (kind : LineKind) (skipped skipped2 problem problem2 : Option Fault) → within k skipped2 ≡ within k skipped → within k problem2 ≡ within k problem
    → within k (first_line_fault kind skipped2 problem2) ≡ within k (first_line_fault kind skipped problem)
same_first k (EndMark first) skipped skipped2 problem problem2 s h = refl
same_first k Skipped skipped skipped2 problem problem2 s h = s
same_first k (Problem first) skipped skipped2 problem problem2 s h = h
same_first k (Numbers first) skipped skipped2 problem problem2 s h = refl

-- a line before the problem line whose first word is late
pub late_first : (k end : ℕ) (kind : LineKind) (skipped problem : Option Fault) → IsPlaced k kind end → within k skipped ≡ None → within k problem ≡ None
    → within k (first_line_fault kind skipped problem) ≡ None
late_first k end (EndMark first) skipped problem p s h = late_fault k (record { kind = NoHeader; place = first }) p.0
late_first k end Skipped skipped problem p s h = s
late_first k end (Problem first) skipped problem p s h = h
late_first k end (Numbers first) skipped problem p s h = late_fault k (record { kind = NoHeader; place = first }) p.0
