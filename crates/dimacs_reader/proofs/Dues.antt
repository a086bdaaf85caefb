-- No fault of a text that has not been reported must have been reported.
use Rattle.std.proofs.Common.{◌≡◌, ℕ, ◌+◌, ◌∙◌, Bool, true, false, cond, not, ◌||◌, ◌&&◌, List, [], ◌∷◌, ◌++◌, length, Option, Some, None, refl, sym, ap, subst, arith, ℤ, nat_lt, nat_le}
use Rattle.std.specs.Prelude.{count_by}
use Rattle.std.proofs.lemmas.Bool.{le-ltb, lt-leb}
use Rattle.lk_model.specs.Formulas.Literal.{variable}
use Rattle.lk_model.specs.Limits.{max_vars, max_clauses, max_literals}
use Rattle.lk_model.specs.Lists.{is_zero, is_nonzero}
use Rattle.lk_model.specs.Texts.Lines.{Piece}
use Rattle.lk_model.specs.Texts.NumberWords.{number}
use Rattle.lk_model.specs.Texts.Dimacs.{stated_by, runs_of}
use Rattle.lk_model.specs.Texts.Fault.{fault_if, number_faults, word_faults, numbers_of}
use Rattle.lk_model.specs.declared.text_fault.Fault.{Fault}
use Rattle.lk_model.specs.declared.text_fault.FaultKind.{FaultKind}
use Rattle.lk_model.specs.declared.text_fault.FaultKind.TheVariants.{NoHeader, BadHeader, BadToken, BeyondStated, TooManyClauses, TooFewClauses, Limit}
use Rattle.dimacs_reader.specs.Contents.{words_in}
use Rattle.dimacs_reader.specs.Faults.{is_due, shows_at_once}
use Rattle.dimacs_reader.specs.FirstFaults.{first_or}
use Rattle.dimacs_reader.specs.Outcomes.{Outcome, Faulty, Written, end_outcome, fault_or, outcome_behind, outcome_of_words, problem_outcome, text_outcome}
use Rattle.dimacs_reader.specs.Stages.{Stands, StandsInHead, StandsInNumbers}
use Rattle.dimacs_reader.specs.declared.clauses.ReadState.{ReadState}
use Rattle.dimacs_reader.specs.declared.head.HeadLine.{HeadLine}
use Rattle.dimacs_reader.specs.declared.head.HeadLine.TheVariants as head
use Rattle.dimacs_reader.specs.declared.numbers.NumberLine.{NumberLine}
use Rattle.dimacs_reader.specs.declared.numbers.NumberLine.TheVariants as numbers
use Rattle.dimacs_reader.specs.declared.reading.Stage.{Stage}
use Rattle.dimacs_reader.specs.declared.reading.Stage.TheVariants as stage
use Rattle.dimacs_reader.proofs.Cuts.{piece}
use Rattle.dimacs_reader.proofs.Endings.{head_end, problem_ended, no_word, in_word}

-- no fault of an outcome must have been reported when so many bytes were fed
abbrev pub NoneDue : ℕ → Outcome → Type 0
NoneDue size (Faulty f) = is_due size f ≡ false
NoneDue size (Written vars clauses words) = Unit {0}

-- a fault after the bytes
behind_all : (size : ℕ) (f : Fault) → f.place ≡ size + 1 → is_due size f ≡ false
behind_all size f e =
    let no_less : nat_lt f.place size ≡ false = le-ltb f.place size (omega (arith, e)) in
    let no_more : nat_le f.place size ≡ false = lt-leb f.place size (omega (arith, e)) in
    ap (λ (b : Bool). b || (shows_at_once f.kind && nat_le f.place size)) no_less ∙ ap (λ (b : Bool). shows_at_once f.kind && b) no_more ∙ none (shows_at_once f.kind)
  where
    none : (b : Bool) → (b && false) ≡ false
    none true = refl
    none false = refl

-- a fault at the last byte that does not show at once
at_last : (size : ℕ) (f : Fault) → f.place ≡ size → shows_at_once f.kind ≡ false → is_due size f ≡ false
at_last size f e s =
    let no_less : nat_lt f.place size ≡ false = le-ltb f.place size (omega (arith, e)) in
    ap (λ (b : Bool). b || (shows_at_once f.kind && nat_le f.place size)) no_less ∙ ap (λ (b : Bool). b && nat_le f.place size) s

end_due : (size vars clauses : ℕ) (words : List Piece) → NoneDue size (end_outcome vars clauses words (size + 1))
end_due size vars clauses words = by_test (nat_lt (length (runs_of (numbers_of words))) clauses)
  where
    few : Fault
    few = record { kind = TooFewClauses; place = size + 1 }

    by_test : (b : Bool) → NoneDue size (cond b (Faulty (record { kind = TooFewClauses; place = size + 1 })) (Written vars clauses words))
    by_test true = behind_all size (record { kind = TooFewClauses; place = size + 1 }) refl
    by_test false = tt

problem_due : (o : Option (ℕ × ℕ)) (size : ℕ) → NoneDue size (problem_outcome o size [] (size + 1))
problem_due None size = at_last size (record { kind = BadHeader; place = size }) refl refl
problem_due (Some (vars, clauses)) size = by_test (nat_lt max_vars vars || nat_lt max_clauses clauses)
  where
    by_test : (b : Bool) → NoneDue size (cond b (Faulty (record { kind = Limit; place = size })) (outcome_behind vars clauses [] [] (size + 1)))
    by_test true = at_last size (record { kind = Limit; place = size }) refl refl
    by_test false = end_due size vars clauses []

-- the first of some faults of a word, or else an outcome
abbrev AllLate : ℕ → List Fault → Type 0
AllLate size [] = Unit {0}
AllLate size (f ∷ fs) = (is_due size f ≡ false) × AllLate size fs

late_append : (size : ℕ) (fs gs : List Fault) → AllLate size fs → AllLate size gs → AllLate size (fs ++ gs)
late_append size [] gs a b = b
late_append size (f ∷ fs) gs a b = (a.0, late_append size fs gs a.1 b)

late_if : (b : Bool) (kind : FaultKind) (size : ℕ) → shows_at_once kind ≡ false → AllLate size (fault_if b kind size)
late_if true kind size s = (at_last size (record { kind = kind; place = size }) refl s, tt)
late_if false kind size s = tt

number_late : (vars clauses : ℕ) (earlier : List ℤ) (o : Option ℤ) (size : ℕ) → AllLate size (number_faults vars clauses earlier o size)
number_late vars clauses earlier None size = late_if true BadToken size refl
number_late vars clauses earlier (Some x) size =
    late_append size _ _
    (late_append size _ _ (late_if (nat_le clauses (count_by is_zero earlier)) TooManyClauses size refl) (late_if (nat_lt vars (variable x)) BeyondStated size refl))
    (late_if (not (is_zero x) && nat_le max_literals (count_by is_nonzero earlier)) Limit size refl)

first_due : (size : ℕ) (fs : List Fault) (behind : Outcome) → AllLate size fs → NoneDue size behind → NoneDue size (fault_or (first_or fs None) behind)
first_due size [] behind a b = b
first_due size (f ∷ fs) behind a b = a.0

word_due : (size vars clauses : ℕ) (earlier : List Piece) (word : List ℕ) → NoneDue size (outcome_of_words vars clauses earlier (piece word size ∷ []) [] (size + 1))
word_due size vars clauses earlier word =
    first_due size (word_faults vars clauses (earlier, piece word size)) (outcome_behind vars clauses (earlier ++ piece word size ∷ []) [] (size + 1))
    (number_late vars clauses (numbers_of earlier) (number word) size) (end_due size vars clauses (earlier ++ piece word size ∷ []))

-- STAGES

head_due : (fed : List ℕ) (line : HeadLine) → StandsInHead fed line → NoneDue (length fed) (text_outcome fed)
head_due fed head.Start h = subst (NoneDue (length fed)) (sym (head_end fed head.Start (λ p e. let f : ⊥ = cc in f) h)) (behind_all (length fed) (record { kind = NoHeader; place = length fed + 1 }) refl)
head_due fed head.Comment h = subst (NoneDue (length fed)) (sym (head_end fed head.Comment (λ p e. let f : ⊥ = cc in f) h)) (behind_all (length fed) (record { kind = NoHeader; place = length fed + 1 }) refl)
head_due fed (head.Problem p) h = subst (NoneDue (length fed)) (sym (problem_ended fed p h)) (problem_due (stated_by (words_in h.part)) (length fed))

other_due : (fed : List ℕ) (state : ReadState) (line : NumberLine) → ((w : _) → line ≡ numbers.Word w → ⊥) → StandsInNumbers fed state line → NoneDue (length fed) (text_outcome fed)
other_due fed state line other h =
    let e = no_word fed state line other h in
    subst (NoneDue (length fed)) (sym e.outcome) (end_due (length fed) state.formula.vars state.stated e.words)

numbers_due : (fed : List ℕ) (state : ReadState) (line : NumberLine) → StandsInNumbers fed state line → NoneDue (length fed) (text_outcome fed)
numbers_due fed state numbers.Start h = other_due fed state numbers.Start (λ w e. let f : ⊥ = cc in f) h
numbers_due fed state numbers.Comment h = other_due fed state numbers.Comment (λ w e. let f : ⊥ = cc in f) h
numbers_due fed state numbers.Gap h = other_due fed state numbers.Gap (λ w e. let f : ⊥ = cc in f) h
numbers_due fed state (numbers.Word w) h = subst (NoneDue (length fed)) (sym (in_word fed state w h)) (word_due (length fed) state.formula.vars state.stated h.earlier h.word)
numbers_due fed state numbers.Ended h = other_due fed state numbers.Ended (λ w e. let f : ⊥ = cc in f) h

pub stands_late : (fed : List ℕ) (s : Stage) → Stands fed s → NoneDue (length fed) (text_outcome fed)
stands_late fed (stage.Head line) h = head_due fed line h
stands_late fed (stage.Numbers state line) h = numbers_due fed state line h
