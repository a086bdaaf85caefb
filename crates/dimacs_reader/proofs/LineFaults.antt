-- The faults of lines after a problem line, and of all lines.
use Rattle.std.proofs.Common.{◌≡◌, ℕ, ◌<◌, Bool, true, false, not, cond, ◌||◌, List, [], ◌∷◌, ◌++◌, length, refl, ◌∙◌, ap, arith, Option, Some, None, nat_lt}
use Rattle.std.specs.Prelude.{filter, flat_map}
use Rattle.std.proofs.lemmas.List.{append-nil}
use Rattle.lk_model.specs.Limits.{max_vars, max_clauses}
use Rattle.lk_model.specs.Texts.Lines.{Piece, words_of, texts}
use Rattle.lk_model.specs.Texts.Dimacs.{is_problem, stated_by, runs_of}
use Rattle.lk_model.specs.Texts.Fault.{fault_if, first_of_line, numbers_of, problem_faults, content_faults, least}
use Rattle.lk_model.specs.declared.text_fault.Fault.{Fault}
use Rattle.lk_model.specs.declared.text_fault.FaultKind.{FaultKind}
use Rattle.lk_model.specs.declared.text_fault.FaultKind.TheVariants.{NoHeader, SecondHeader, TooFewClauses, Limit}
use Rattle.dimacs_reader.specs.LineKinds.{LineKind, Skipped, EndMark, Problem, Numbers, kind_by}
use Rattle.dimacs_reader.specs.FirstFaults.{or_behind, fault_among, fault_at_end, line_fault, fault_behind, problem_line_fault, first_line_fault, fault_from}
use Rattle.dimacs_reader.proofs.Least.{Above, above_append, above_less, above_at, at_fault_if, least_first}
use Rattle.dimacs_reader.proofs.Placing.{AreLines, words_order}
use Rattle.dimacs_reader.proofs.LineSteps.{counted_of, end_of, Adds, adds, IsPlaced, kind_placed}
use Rattle.dimacs_reader.proofs.WordFaults.{faults_of, faults_above, least_words}

-- AFTER A PROBLEM LINE

-- the faults of problem lines after the first one
abbrev pub seconds : List Piece → List Fault
seconds lines = flat_map (λ line. fault_if true SecondHeader (first_of_line line)) (filter is_problem lines)

-- the words of the other lines
abbrev pub number_words : List Piece → List Piece
number_words lines = flat_map words_of (filter (λ line. not (is_problem line)) lines)

-- a problem line is one more fault, and a line of numbers is none
seconds_problem : (line : Piece) (lines : List Piece) → is_problem line ≡ true
    → seconds (line ∷ lines) ≡ record { kind = SecondHeader; place = first_of_line line } ∷ seconds lines
seconds_problem line lines e =
    ap (λ (b : Bool). flat_map (λ l. fault_if true SecondHeader (first_of_line l)) (cond b (line ∷ filter is_problem lines) (filter is_problem lines))) e

seconds_numbers : (line : Piece) (lines : List Piece) → is_problem line ≡ false → seconds (line ∷ lines) ≡ seconds lines
seconds_numbers line lines e =
    ap (λ (b : Bool). flat_map (λ l. fault_if true SecondHeader (first_of_line l)) (cond b (line ∷ filter is_problem lines) (filter is_problem lines))) e

-- a problem line has no words of numbers, and a line of numbers has its words
words_problem : (line : Piece) (lines : List Piece) → is_problem line ≡ true → number_words (line ∷ lines) ≡ number_words lines
words_problem line lines e =
    ap (λ (b : Bool). flat_map words_of (cond (not b) (line ∷ filter (λ l. not (is_problem l)) lines) (filter (λ l. not (is_problem l)) lines))) e

words_numbers : (line : Piece) (lines : List Piece) → is_problem line ≡ false → number_words (line ∷ lines) ≡ words_of line ++ number_words lines
words_numbers line lines e =
    ap (λ (b : Bool). flat_map words_of (cond (not b) (line ∷ filter (λ l. not (is_problem l)) lines) (filter (λ l. not (is_problem l)) lines))) e

-- the faults of further problem lines stand after the place before the lines
pub seconds_above : (n : ℕ) (lines : List Piece) (last : ℕ) → AreLines n lines last → Above n (seconds (counted_of lines))
seconds_above n [] last a = tt
seconds_above n (line ∷ lines) last a =
    above_by (kind_by (words_of line)) (adds line lines 0) (kind_placed n (words_of line) line.last a.0)
    (above_less n line.last (seconds (counted_of lines)) (words_order n (words_of line) line.last a.0) (seconds_above line.last lines last a.1))
  where
    above_by : (kind : LineKind) → Adds kind line lines 0 → IsPlaced n kind line.last → Above n (seconds (counted_of lines)) → Above n (seconds (counted_of (line ∷ lines)))
    above_by (EndMark first) s p later = rw s.0 tt
    above_by Skipped s p later = rw s.0 later
    above_by (Problem first) s p later = rw (s.0, seconds_problem line (counted_of lines) s.2, s.3) (p.0, later)
    above_by (Numbers first) s p later = rw (s.0, seconds_numbers line (counted_of lines) s.2) later

-- the faults of words after earlier ones, and of their end
abbrev pub faults_behind : ℕ → ℕ → List Piece → List Piece → ℕ → List Fault
faults_behind vars clauses earlier lines over = faults_of vars clauses earlier (number_words (counted_of lines)) (end_of lines over)

-- the faults of words after earlier ones stand after the place before the lines
pub behind_above : (vars clauses n : ℕ) (lines : List Piece) (last over : ℕ) → AreLines n lines last → last < over
    → (earlier : List Piece) → Above n (faults_behind vars clauses earlier lines over)
behind_above vars clauses n [] last over a h earlier =
    let b = a in above_at n over (fault_if (nat_lt (length (runs_of (numbers_of (earlier ++ [])))) clauses) TooFewClauses over) (omega (arith, b, h)) (at_fault_if _ TooFewClauses over)
behind_above vars clauses n (line ∷ lines) last over a h earlier =
    above_by (kind_by (words_of line)) (adds line lines over) (kind_placed n (words_of line) line.last a.0) (behind_above vars clauses line.last lines last over a.1 h)
  where
    above_by : (kind : LineKind) → Adds kind line lines over → IsPlaced n kind line.last
        → ((earlier : List Piece) → Above line.last (faults_behind vars clauses earlier lines over)) → Above n (faults_behind vars clauses earlier (line ∷ lines) over)
    above_by (EndMark first) s p later =
        rw (s.0, s.1) (above_at n first (fault_if (nat_lt (length (runs_of (numbers_of (earlier ++ [])))) clauses) TooFewClauses first) p.0 (at_fault_if _ TooFewClauses first))
    above_by Skipped s p later = rw (s.0, s.1) (above_less n line.last (faults_behind vars clauses earlier lines over) p (later earlier))
    above_by (Problem first) s p later =
        rw (s.0, s.1, words_problem line (counted_of lines) s.2)
        (above_less n line.last (faults_behind vars clauses earlier lines over) (words_order n (words_of line) line.last a.0) (later earlier))
    above_by (Numbers first) s p later =
        rw (s.0, s.1, words_numbers line (counted_of lines) s.2)
        (faults_above vars clauses n (words_of line) line.last (number_words (counted_of lines)) (end_of lines over) a.0 later earlier)

-- the least of at most one fault
least_if : (b : Bool) (kind : FaultKind) (place : ℕ) → least (fault_if b kind place) ≡ cond b (Some (record { kind = kind; place = place })) None
least_if true kind place = refl
least_if false kind place = refl

-- the least fault at the end of the words
least_end : (clauses : ℕ) (earlier : List Piece) (end : ℕ)
    → least (fault_if (nat_lt (length (runs_of (numbers_of (earlier ++ [])))) clauses) TooFewClauses end) ≡ fault_at_end clauses earlier end
least_end clauses earlier end =
    ap (λ (ws : List Piece). least (fault_if (nat_lt (length (runs_of (numbers_of ws))) clauses) TooFewClauses end)) (append-nil earlier)
    ∙ least_if (nat_lt (length (runs_of (numbers_of earlier))) clauses) TooFewClauses end

-- all faults after a problem line
abbrev pub all_behind : ℕ → ℕ → List Piece → List Piece → ℕ → List Fault
all_behind vars clauses earlier lines over = seconds (counted_of lines) ++ faults_behind vars clauses earlier lines over

-- they stand after the place before the lines
pub all_above : (vars clauses n : ℕ) (lines : List Piece) (last over : ℕ) → AreLines n lines last → last < over
    → (earlier : List Piece) → Above n (all_behind vars clauses earlier lines over)
all_above vars clauses n lines last over a h earlier =
    above_append n (seconds (counted_of lines)) (faults_behind vars clauses earlier lines over) (seconds_above n lines last a) (behind_above vars clauses n lines last over a h earlier)

-- the least of the faults after a problem line is the first one
pub least_behind : (vars clauses n : ℕ) (lines : List Piece) (last over : ℕ) → AreLines n lines last → last < over
    → (earlier : List Piece) → least (all_behind vars clauses earlier lines over) ≡ fault_behind vars clauses earlier lines over
least_behind vars clauses n [] last over a h earlier = least_end clauses earlier over
least_behind vars clauses n (line ∷ lines) last over a h earlier =
    least_by (kind_by (words_of line)) (adds line lines over) (kind_placed n (words_of line) line.last a.0)
    (least_behind vars clauses line.last lines last over a.1 h earlier)
    (least_behind vars clauses line.last lines last over a.1 h (earlier ++ words_of line))
  where
    least_by : (kind : LineKind) → Adds kind line lines over → IsPlaced n kind line.last
        → least (all_behind vars clauses earlier lines over) ≡ fault_behind vars clauses earlier lines over
        → least (all_behind vars clauses (earlier ++ words_of line) lines over) ≡ fault_behind vars clauses (earlier ++ words_of line) lines over
        → least (all_behind vars clauses earlier (line ∷ lines) over)
        ≡ line_fault kind clauses earlier (fault_among vars clauses earlier (words_of line)) (fault_behind vars clauses earlier lines over)
        (fault_behind vars clauses (earlier ++ words_of line) lines over)
    least_by (EndMark first) s p skipped taken = rw (s.0, s.1) (least_end clauses earlier first)
    least_by Skipped s p skipped taken = rw (s.0, s.1) skipped
    least_by (Problem first) s p skipped taken =
        rw (s.0, s.1, seconds_problem line (counted_of lines) s.2, words_problem line (counted_of lines) s.2, s.3)
        (least_first (record { kind = SecondHeader; place = first }) (all_behind vars clauses earlier lines over)
        (above_less first line.last (all_behind vars clauses earlier lines over) p.1 (all_above vars clauses line.last lines last over a.1 h earlier)))
    least_by (Numbers first) s p skipped taken =
        rw (s.0, s.1, seconds_numbers line (counted_of lines) s.2, words_numbers line (counted_of lines) s.2)
        (least_words vars clauses n (seconds (counted_of lines)) (words_of line) line.last (number_words (counted_of lines)) (end_of lines over) a.0
        (seconds_above line.last lines last a.1) (behind_above vars clauses line.last lines last over a.1 h) earlier
        ∙ ap (or_behind (fault_among vars clauses earlier (words_of line))) taken)

-- ALL LINES

-- all faults of lines
abbrev pub all_faults : List Piece → ℕ → List Fault
all_faults lines over = content_faults (counted_of lines) (end_of lines over)

-- all faults of a problem line and of the lines after it
abbrev faults_of_problem_line : Option (ℕ × ℕ) → Piece → List Piece → ℕ → List Fault
faults_of_problem_line stated line lines over = problem_faults stated line (counted_of lines) (end_of lines over)

-- the faults of lines whose first one is a problem line, and of others
faults_problem_line : (line : Piece) (lines : List Piece) (end : ℕ) → is_problem line ≡ true
    → content_faults (line ∷ lines) end ≡ problem_faults (stated_by (texts (words_of line))) line lines end
faults_problem_line line lines end e =
    ap (λ (b : Bool). cond b (problem_faults (stated_by (texts (words_of line))) line lines end) (fault_if true NoHeader (first_of_line line))) e

faults_no_problem_line : (line : Piece) (lines : List Piece) (end : ℕ) → is_problem line ≡ false → content_faults (line ∷ lines) end ≡ fault_if true NoHeader (first_of_line line)
faults_no_problem_line line lines end e =
    ap (λ (b : Bool). cond b (problem_faults (stated_by (texts (words_of line))) line lines end) (fault_if true NoHeader (first_of_line line))) e

-- all faults of a problem line and of the lines after it stand after the place before the problem line
problem_line_above : (n : ℕ) (stated : Option (ℕ × ℕ)) (line : Piece) (lines : List Piece) (last over : ℕ) → n < line.last → AreLines line.last lines last → last < over
    → Above n (faults_of_problem_line stated line lines over)
problem_line_above n None line lines last over p a h = (p, tt)
problem_line_above n (Some (vars, clauses)) line lines last over p a h =
    above_append n (fault_if (nat_lt max_vars vars || nat_lt max_clauses clauses) Limit line.last) (all_behind vars clauses [] lines over)
    (above_at n line.last (fault_if (nat_lt max_vars vars || nat_lt max_clauses clauses) Limit line.last) p (at_fault_if _ Limit line.last))
    (above_less n line.last (all_behind vars clauses [] lines over) (omega (arith, p)) (all_above vars clauses line.last lines last over a h []))

-- all faults of lines stand after the place before the lines
pub lines_above : (n : ℕ) (lines : List Piece) (last over : ℕ) → AreLines n lines last → last < over → Above n (all_faults lines over)
lines_above n [] last over a h = let b = a in (omega (arith, b, h), tt)
lines_above n (line ∷ lines) last over a h =
    above_by (kind_by (words_of line)) (adds line lines over) (kind_placed n (words_of line) line.last a.0)
    (above_less n line.last (all_faults lines over) (words_order n (words_of line) line.last a.0) (lines_above line.last lines last over a.1 h))
  where
    above_by : (kind : LineKind) → Adds kind line lines over → IsPlaced n kind line.last → Above n (all_faults lines over) → Above n (all_faults (line ∷ lines) over)
    above_by (EndMark first) s p later = rw (s.0, s.1) (p.0, tt)
    above_by Skipped s p later = rw (s.0, s.1) later
    above_by (Problem first) s p later =
        let b = p in
        rw (s.0, s.1, faults_problem_line line (counted_of lines) (end_of lines over) s.2)
        (problem_line_above n (stated_by (texts (words_of line))) line lines last over (omega (arith, b)) a.1 h)
    above_by (Numbers first) s p later = rw (s.0, s.1, faults_no_problem_line line (counted_of lines) (end_of lines over) s.2, s.3) (p.0, tt)

-- the least fault of a problem line and of the lines after it is the first one
least_problem_line : (stated : Option (ℕ × ℕ)) (line : Piece) (lines : List Piece) (last over : ℕ) → AreLines line.last lines last → last < over
    → least (faults_of_problem_line stated line lines over) ≡ problem_line_fault stated line.last lines over
least_problem_line None line lines last over a h = refl
least_problem_line (Some (vars, clauses)) line lines last over a h = at_limit (nat_lt max_vars vars || nat_lt max_clauses clauses)
  where
    at_limit : (b : Bool) → least (fault_if b Limit line.last ++ all_behind vars clauses [] lines over)
        ≡ cond b (Some (record { kind = Limit; place = line.last })) (fault_behind vars clauses [] lines over)
    at_limit true =
        least_first (record { kind = Limit; place = line.last }) (all_behind vars clauses [] lines over) (all_above vars clauses line.last lines last over a h [])
    at_limit false = least_behind vars clauses line.last lines last over a h []

-- the least fault of lines is the first one
pub least_lines : (n : ℕ) (lines : List Piece) (last over : ℕ) → AreLines n lines last → last < over → least (all_faults lines over) ≡ fault_from lines over
least_lines n [] last over a h = refl
least_lines n (line ∷ lines) last over a h = least_by (kind_by (words_of line)) (adds line lines over) (least_lines line.last lines last over a.1 h)
  where
    least_by : (kind : LineKind) → Adds kind line lines over → least (all_faults lines over) ≡ fault_from lines over
        → least (all_faults (line ∷ lines) over)
        ≡ first_line_fault kind (fault_from lines over) (problem_line_fault (stated_by (texts (words_of line))) line.last lines over)
    least_by (EndMark first) s later = rw (s.0, s.1) refl
    least_by Skipped s later = rw (s.0, s.1) later
    least_by (Problem first) s later =
        rw (s.0, s.1, faults_problem_line line (counted_of lines) (end_of lines over) s.2) (least_problem_line (stated_by (texts (words_of line))) line lines last over a.1 h)
    least_by (Numbers first) s later = rw (s.0, s.1, faults_no_problem_line line (counted_of lines) (end_of lines over) s.2, s.3) refl
