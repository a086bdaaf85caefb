-- Where a text stands after the problem line, after one more byte.
use Rattle.std.proofs.Common.{◌≡◌, ◌≢◌, ℕ, ◌+◌, ◌∙◌, Bool, true, false, not, cond, ◌&&◌, List, [], ◌∷◌, ◌++◌, length, Some, refl, sym, ap, subst, arith, length-append, nat_lt}
use Rattle.std.specs.List.{slice_split}
use Rattle.std.proofs.lemmas.Bool.{and_from}
use Rattle.std.proofs.lemmas.List.{append-nil}
use Rattle.std.proofs.lemmas.List.Folds.{list_all-append}
use Rattle.lk_model.specs.Texts.Lines.{Piece, is_newline, is_blank, placed_after, line_number}
use Rattle.lk_model.specs.Texts.Dimacs.{runs_of}
use Rattle.lk_model.specs.Texts.Fault.{numbers_of}
use Rattle.lk_model.specs.declared.text_fault.Fault.{Fault}
use Rattle.lk_model.specs.declared.text_fault.FaultKind.TheVariants.{TooFewClauses}
use Rattle.dimacs_reader.specs.Outcomes.{Outcome, Faulty, Written, end_outcome, outcome_behind, text_outcome}
use Rattle.dimacs_reader.specs.ReadStates.{Leads, HasFault, fault_in, is_short_of}
use Rattle.dimacs_reader.specs.Faults.{ForFault}
use Rattle.dimacs_reader.specs.Words.{IsWordSoFar}
use Rattle.dimacs_reader.specs.declared.stop.Stop.{Stop}
use Rattle.dimacs_reader.specs.declared.stop.Stop.TheVariants as stop
use Rattle.dimacs_reader.specs.Stages.{IsInLine, IsNextPart, IsNumberPart, StandsInNumbers, IsMet}
use Rattle.dimacs_reader.specs.declared.clauses.ReadState.{ReadState}
use Rattle.dimacs_reader.specs.declared.numbers.NumberLine.{NumberLine}
use Rattle.dimacs_reader.specs.declared.numbers.NumberLine.TheVariants as numbers
use Rattle.dimacs_reader.specs.declared.word.WordSoFar.{WordSoFar}
use Rattle.dimacs_reader.proofs.Cuts.{piece}
use Rattle.dimacs_reader.proofs.HeadSteps.{next_rest}
use Rattle.dimacs_reader.proofs.HeadStands.{in_line, met_at}
use Rattle.dimacs_reader.proofs.WordFaults.{fault_place}
use Rattle.dimacs_reader.proofs.StateLemmas.{short_read}
use Rattle.dimacs_reader.proofs.NumberSteps.{number_rest, start_newline, start_blank, start_end, start_number, comment_newline, comment_other, gap_newline, gap_blank, gap_word, word_taken, word_at_fault, word_newline, word_blank, word_more}

-- the outcome of the bytes after so many, over what a state read
abbrev rest_in : ReadState → NumberLine → List Piece → List ℕ → ℕ → List ℕ → Outcome
rest_in state line earlier word = number_rest line state.formula.vars state.stated earlier word

-- a step from one place in a line to the next, where no word ends
steps : (fed : List ℕ) (b : ℕ) (state : ReadState) (line next : NumberLine) (word2 : List ℕ) (h : StandsInNumbers fed state line)
    → ((more : List ℕ) → rest_in state line h.earlier h.word (length fed) (b ∷ more) ≡ rest_in state next h.earlier word2 (length fed + 1) more)
    → IsNumberPart (fed ++ b ∷ []) next word2 → StandsInNumbers (fed ++ b ∷ []) state next
steps fed b state line next word2 h step is = record {
  earlier = h.earlier;
  word = word2;
  read = h.read;
  is_part = is;
  rest = next_rest fed b (rest_in state line h.earlier h.word) (rest_in state next h.earlier word2) h.rest step;
}

-- a word of one byte
one_byte : (fed : List ℕ) (b : ℕ) → is_newline b ≡ false → is_blank b ≡ false → IsNextPart (fed ++ b ∷ []) (b ∷ [])
one_byte fed b e h = record {
  some = omega arith;
  within = (let size = length-append fed (b ∷ []) in omega (arith, size));
  no_blank = ap (λ (t : Bool). not t && true) h;
  in_line = in_line fed b e;
}

-- THE START OF A LINE

pub number_begins : (fed : List ℕ) (b : ℕ) (state : ReadState) (w : WordSoFar) → is_newline b ≡ false → is_blank b ≡ false → b ≢ 99 → b ≢ 112 → b ≢ 37 → IsWordSoFar (b ∷ []) w
    → StandsInNumbers fed state numbers.Start → StandsInNumbers (fed ++ b ∷ []) state (numbers.Word w)
number_begins fed b state w e no_blank n1 n2 n3 so h =
    steps fed b state numbers.Start (numbers.Word w) (b ∷ []) h (λ more. start_number state.formula.vars state.stated h.earlier (length fed) b more w e no_blank n1 n2 n3) (so, one_byte fed b e no_blank)

-- words end with too few clauses, or with enough
short_end : (vars clauses : ℕ) (words : List Piece) (end : ℕ) → nat_lt (length (runs_of (numbers_of words))) clauses ≡ true → end_outcome vars clauses words end ≡ Faulty (record { kind = TooFewClauses; place = end })
short_end vars clauses words end e = ap (λ (t : Bool). cond t (Faulty (record { kind = TooFewClauses; place = end })) (Written vars clauses words)) e

whole_end : (vars clauses : ℕ) (words : List Piece) (end : ℕ) → nat_lt (length (runs_of (numbers_of words))) clauses ≡ false → end_outcome vars clauses words end ≡ Written vars clauses words
whole_end vars clauses words end e = ap (λ (t : Bool). cond t (Faulty (record { kind = TooFewClauses; place = end })) (Written vars clauses words)) e

pub mark_met : (fed : List ℕ) (b : ℕ) (state : ReadState) (f : Fault) → is_newline b ≡ false → is_blank b ≡ false → b ≡ 37 → f ≡ record { kind = TooFewClauses; place = length fed + 1 } → is_short_of state ≡ true
    → StandsInNumbers fed state numbers.Start → IsMet fed b f
mark_met fed b state f e no_blank c is short h =
    subst (λ (g : Fault). IsMet fed b g) (sym is)
    (met_at fed b (record { kind = TooFewClauses; place = length fed + 1 }) (rest_in state numbers.Start h.earlier h.word) refl h.rest
    (λ more. start_end state.formula.vars state.stated h.earlier (length fed) b more e no_blank c
    ∙ short_end state.formula.vars state.stated h.earlier (length fed + 1) (short_read h.earlier state h.read ∙ short)))

pub mark_passed : (fed : List ℕ) (b : ℕ) (state : ReadState) → is_newline b ≡ false → is_blank b ≡ false → b ≡ 37 → is_short_of state ≡ false
    → StandsInNumbers fed state numbers.Start → StandsInNumbers (fed ++ b ∷ []) state numbers.Ended
mark_passed fed b state e no_blank c whole h =
    steps fed b state numbers.Start numbers.Ended h.word h
    (λ more. start_end state.formula.vars state.stated h.earlier (length fed) b more e no_blank c
    ∙ whole_end state.formula.vars state.stated h.earlier (length fed + 1) (short_read h.earlier state h.read ∙ whole)
    ∙ sym (whole_end state.formula.vars state.stated h.earlier (length fed + 1 + length more + 1) (short_read h.earlier state h.read ∙ whole)))
    tt

-- OTHER PLACES

pub gap_begins : (fed : List ℕ) (b : ℕ) (state : ReadState) (w : WordSoFar) → is_newline b ≡ false → is_blank b ≡ false → IsWordSoFar (b ∷ []) w
    → StandsInNumbers fed state numbers.Gap → StandsInNumbers (fed ++ b ∷ []) state (numbers.Word w)
gap_begins fed b state w e no_blank so h =
    steps fed b state numbers.Gap (numbers.Word w) (b ∷ []) h (λ more. gap_word state.formula.vars state.stated h.earlier (length fed) b more h.word w e) (so, one_byte fed b e no_blank)

pub word_goes_on : (fed : List ℕ) (b : ℕ) (state : ReadState) (w v : WordSoFar) → is_newline b ≡ false → is_blank b ≡ false → ((bytes : List ℕ) → IsWordSoFar bytes w → IsWordSoFar (bytes ++ b ∷ []) v)
    → StandsInNumbers fed state (numbers.Word w) → StandsInNumbers (fed ++ b ∷ []) state (numbers.Word v)
word_goes_on fed b state w v e no_blank step h =
    let so = h.is_part in
    let part = so.1 in
    let size = length-append fed (b ∷ []) in
    let more = length-append h.word (b ∷ []) in
    let within = part.within in
    steps fed b state (numbers.Word w) (numbers.Word v) (h.word ++ b ∷ []) h (λ bs. word_more state.formula.vars state.stated h.earlier h.word (length fed) b bs w v e within) (
      step h.word so.0,
      record {
        some = omega (arith, more);
        within = omega (arith, more, size, within);
        no_blank = list_all-append (λ x. not (is_blank x)) h.word (b ∷ []) ∙ and_from _ _ part.no_blank (ap (λ (t : Bool). not t && true) no_blank);
        in_line = in_line fed b e;
      },
    )

-- after the end mark
pub end_stays : (fed : List ℕ) (b : ℕ) (state : ReadState) → StandsInNumbers fed state numbers.Ended → StandsInNumbers (fed ++ b ∷ []) state numbers.Ended
end_stays fed b state h =
    steps fed b state numbers.Ended numbers.Ended h.word h
    (λ more. ap (end_outcome state.formula.vars state.stated h.earlier) (let p : length fed + length (b ∷ more) + 1 ≡ length fed + 1 + length more + 1 = omega arith in p)) tt

-- where the byte of a word changes nothing
pub byte_stays : (line : NumberLine) → (line ≡ numbers.Start → ⊥) → (line ≡ numbers.Gap → ⊥) → ((w : WordSoFar) → line ≡ numbers.Word w → ⊥) → (fed : List ℕ) (b : ℕ) (state : ReadState) → is_newline b ≡ false
    → StandsInNumbers fed state line → StandsInNumbers (fed ++ b ∷ []) state line
byte_stays numbers.Start n1 n2 n3 fed b state e h = absurd (n1 refl)
byte_stays numbers.Comment n1 n2 n3 fed b state e h =
    steps fed b state numbers.Comment numbers.Comment h.word h (λ more. comment_other state.formula.vars state.stated h.earlier (length fed) b more h.word e) tt
byte_stays numbers.Gap n1 n2 n3 fed b state e h = absurd (n2 refl)
byte_stays (numbers.Word w) n1 n2 n3 fed b state e h = absurd (n3 w refl)
byte_stays numbers.Ended n1 n2 n3 fed b state e h = end_stays fed b state h

-- where a blank changes nothing
pub blank_stays : (line : NumberLine) → ((w : WordSoFar) → line ≡ numbers.Word w → ⊥) → (fed : List ℕ) (b : ℕ) (state : ReadState) → is_newline b ≡ false → is_blank b ≡ true
    → StandsInNumbers fed state line → StandsInNumbers (fed ++ b ∷ []) state line
blank_stays numbers.Start n fed b state e blank h = steps fed b state numbers.Start numbers.Start h.word h (λ more. start_blank state.formula.vars state.stated h.earlier (length fed) b more e blank) tt
blank_stays numbers.Comment n fed b state e blank h =
    steps fed b state numbers.Comment numbers.Comment h.word h (λ more. comment_other state.formula.vars state.stated h.earlier (length fed) b more h.word e) tt
blank_stays numbers.Gap n fed b state e blank h =
    steps fed b state numbers.Gap numbers.Gap h.word h (λ more. gap_blank state.formula.vars state.stated h.earlier (length fed) b more h.word e blank) tt
blank_stays (numbers.Word w) n fed b state e blank h = absurd (n w refl)
blank_stays numbers.Ended n fed b state e blank h = end_stays fed b state h

-- the end of a line without a word that ends there
pub line_ends : (line : NumberLine) → (line ≡ numbers.Ended → ⊥) → ((w : WordSoFar) → line ≡ numbers.Word w → ⊥) → (fed : List ℕ) (state : ReadState)
    → StandsInNumbers fed state line → StandsInNumbers (fed ++ 10 ∷ []) state numbers.Start
line_ends numbers.Start n1 n2 fed state h = steps fed 10 state numbers.Start numbers.Start h.word h (λ more. start_newline state.formula.vars state.stated h.earlier (length fed) 10 more refl) tt
line_ends numbers.Comment n1 n2 fed state h =
    steps fed 10 state numbers.Comment numbers.Start h.word h (λ more. comment_newline state.formula.vars state.stated h.earlier (length fed) 10 more h.word refl) tt
line_ends numbers.Gap n1 n2 fed state h =
    steps fed 10 state numbers.Gap numbers.Start h.word h (λ more. gap_newline state.formula.vars state.stated h.earlier (length fed) 10 more h.word refl) tt
line_ends (numbers.Word w) n1 n2 fed state h = absurd (n2 w refl)
line_ends numbers.Ended n1 n2 fed state h = absurd (n1 refl)

-- WORDS THAT END

-- over what the next state read
over_next : (state next : ReadState) (line : NumberLine) (earlier : List Piece) (n : ℕ) (more : List ℕ) → next.formula.vars ≡ state.formula.vars → next.stated ≡ state.stated
    → number_rest line state.formula.vars state.stated earlier [] n more ≡ rest_in next line earlier [] n more
over_next state next line earlier n more v s =
    ap (λ (x : ℕ). number_rest line x state.stated earlier [] n more) (sym v) ∙ ap (λ (x : ℕ). number_rest line next.formula.vars x earlier [] n more) (sym s)

pub word_ends_line : (fed : List ℕ) (state next : ReadState) (w : WordSoFar) → ((bytes : List ℕ) → IsWordSoFar bytes w → Leads (piece bytes (length fed) ∷ []) state next)
    → StandsInNumbers fed state (numbers.Word w) → StandsInNumbers (fed ++ 10 ∷ []) next numbers.Start
word_ends_line fed state next w leads h =
    let so = h.is_part in
    let part = so.1 in
    let n = length fed in
    let word = piece h.word n in
    let l = leads h.word so.0 in
    let later = h.earlier ++ word ∷ [] in
    record {
      earlier = later;
      word = [];
      read = l.goes_on h.earlier h.read;
      is_part = tt;
      rest = next_rest fed 10 (rest_in state (numbers.Word w) h.earlier h.word) (rest_in next numbers.Start later []) h.rest
          (λ more. word_newline state.formula.vars state.stated h.earlier h.word n 10 more w refl part.some part.within part.no_blank
          ∙ word_taken state.formula.vars state.stated h.earlier word [] (placed_after (n + 1) (slice_split is_newline more)) (n + 1 + length more + 1) (l.silent h.earlier h.read)
          ∙ ap (λ (ws : List Piece). outcome_behind state.formula.vars state.stated ws (placed_after (n + 1) (slice_split is_newline more)) (n + 1 + length more + 1)) (append-nil later)
          ∙ over_next state next numbers.Start later (n + 1) more l.vars l.stated);
    }

pub word_ends : (fed : List ℕ) (b : ℕ) (state next : ReadState) (w : WordSoFar) → is_newline b ≡ false → is_blank b ≡ true → ((bytes : List ℕ) → IsWordSoFar bytes w → Leads (piece bytes (length fed) ∷ []) state next)
    → StandsInNumbers fed state (numbers.Word w) → StandsInNumbers (fed ++ b ∷ []) next numbers.Gap
word_ends fed b state next w e blank leads h =
    let so = h.is_part in
    let part = so.1 in
    let n = length fed in
    let word = piece h.word n in
    let l = leads h.word so.0 in
    let later = h.earlier ++ word ∷ [] in
    record {
      earlier = later;
      word = [];
      read = l.goes_on h.earlier h.read;
      is_part = tt;
      rest = next_rest fed b (rest_in state (numbers.Word w) h.earlier h.word) (rest_in next numbers.Gap later []) h.rest
          (λ more. let a = word_blank state.formula.vars state.stated h.earlier h.word n b more w e blank part.some part.within part.no_blank in
          a.first ∙ word_taken state.formula.vars state.stated h.earlier word a.words a.lines a.over (l.silent h.earlier h.read) ∙ a.later later
          ∙ over_next state next numbers.Gap later (n + 1) more l.vars l.stated);
    }

-- a word that is at fault
word_met : (fed : List ℕ) (b : ℕ) (state : ReadState) (f : Fault) (word : List ℕ) (earlier : List Piece) → IsInLine fed → fault_in state earlier (piece word (length fed) ∷ []) ≡ Some f
    → ((more : List ℕ) → text_outcome (fed ++ b ∷ more) ≡ Faulty f) → IsMet fed b f
word_met fed b state f word earlier inside e outcome =
    let place : f.place ≡ length fed = fault_place state.formula.vars state.stated earlier (piece word (length fed)) f e in
    record {
      line = ap (line_number fed) place ∙ inside;
      place = omega (arith, place);
      outcome = outcome;
    }

pub fault_ends_line : (fed : List ℕ) (state : ReadState) (w : WordSoFar) (f : Fault) → ((bytes : List ℕ) → IsWordSoFar bytes w → HasFault (piece bytes (length fed) ∷ []) state f)
    → StandsInNumbers fed state (numbers.Word w) → IsMet fed 10 f
fault_ends_line fed state w f has h =
    let so = h.is_part in
    let part = so.1 in
    let n = length fed in
    let word = piece h.word n in
    let e = has h.word so.0 h.earlier h.read in
    word_met fed 10 state f h.word h.earlier part.in_line e
    (λ more. h.rest (10 ∷ more) ∙ word_newline state.formula.vars state.stated h.earlier h.word n 10 more w refl part.some part.within part.no_blank
    ∙ word_at_fault state.formula.vars state.stated h.earlier word [] (placed_after (n + 1) (slice_split is_newline more)) (n + 1 + length more + 1) f e)

pub fault_ends : (fed : List ℕ) (b : ℕ) (state : ReadState) (w : WordSoFar) (f : Fault) → is_newline b ≡ false → is_blank b ≡ true → ((bytes : List ℕ) → IsWordSoFar bytes w → HasFault (piece bytes (length fed) ∷ []) state f)
    → StandsInNumbers fed state (numbers.Word w) → IsMet fed b f
fault_ends fed b state w f e blank has h =
    let so = h.is_part in
    let part = so.1 in
    let n = length fed in
    let word = piece h.word n in
    let at = has h.word so.0 h.earlier h.read in
    word_met fed b state f h.word h.earlier part.in_line at
    (λ more. let a = word_blank state.formula.vars state.stated h.earlier h.word n b more w e blank part.some part.within part.no_blank in
    h.rest (b ∷ more) ∙ a.first ∙ word_at_fault state.formula.vars state.stated h.earlier word a.words a.lines a.over f at)

-- STOPS

-- a stop of a word that ends with a line, or before a blank
pub line_at_fault : (fed : List ℕ) (before : ℕ) (state : ReadState) (w : WordSoFar) (s : Stop) → length fed ≡ before
    → ((bytes : List ℕ) → IsWordSoFar bytes w → ForFault s (HasFault (piece bytes before ∷ []) state)) → StandsInNumbers fed state (numbers.Word w) → ForFault s (IsMet fed 10)
line_at_fault fed before state w (stop.Fault f) e has h =
    fault_ends_line fed state w f (λ bytes so. subst (λ (n : ℕ). HasFault (piece bytes n ∷ []) state f) (sym e) (has bytes so)) h
line_at_fault fed before state w stop.OutOfMemory e has h = tt

pub blank_at_fault : (fed : List ℕ) (b before : ℕ) (state : ReadState) (w : WordSoFar) (s : Stop) → is_newline b ≡ false → is_blank b ≡ true → length fed ≡ before
    → ((bytes : List ℕ) → IsWordSoFar bytes w → ForFault s (HasFault (piece bytes before ∷ []) state)) → StandsInNumbers fed state (numbers.Word w) → ForFault s (IsMet fed b)
blank_at_fault fed b before state w (stop.Fault f) e blank size has h =
    fault_ends fed b state w f e blank (λ bytes so. subst (λ (n : ℕ). HasFault (piece bytes n ∷ []) state f) (sym size) (has bytes so)) h
blank_at_fault fed b before state w stop.OutOfMemory e blank size has h = tt
