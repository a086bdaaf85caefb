-- Where a text ends.
use Rattle.std.proofs.Common.{◌≡◌, ℕ, ◌+◌, ◌≤◌, ◌∙◌, Bool, true, false, cond, List, [], ◌∷◌, ◌++◌, length, Some, None, refl, sym, ap, subst, arith, nat_lt}
use Rattle.std.specs.Prelude.{flat_map}
use Rattle.std.proofs.lemmas.List.{append-nil}
use Rattle.lk_model.specs.Limits.{max_vars, max_clauses, max_bytes}
use Rattle.lk_model.specs.Formulas.Formula.{Cnf}
use Rattle.lk_model.specs.Texts.Lines.{Piece, Word, line_number}
use Rattle.lk_model.specs.Texts.Dimacs.{Spells, stated_by, runs_of}
use Rattle.lk_model.specs.Texts.Fault.{numbers_of}
use Rattle.lk_model.specs.declared.text_fault.Fault.{Fault}
use Rattle.lk_model.specs.declared.text_fault.FaultKind.TheVariants.{NoHeader, TooFewClauses}
use Rattle.dimacs_reader.specs.Contents.{words_in, IsWritten}
use Rattle.dimacs_reader.specs.Faults.{ForFault}
use Rattle.dimacs_reader.specs.FirstFaults.{fault_at_end}
use Rattle.dimacs_reader.specs.Outcomes.{Outcome, Faulty, Written, end_outcome, outcome_of_words, problem_outcome, text_outcome}
use Rattle.dimacs_reader.specs.ProblemLines.{IsLineSoFar, problem_line_kind}
use Rattle.dimacs_reader.specs.ReadStates.{HasRead, Leads, HasFault, Writes, HasFaultAtEnd, fault_in}
use Rattle.dimacs_reader.specs.Stages.{StandsInHead, StandsInNumbers, EndsAs, IsMetAtEnd}
use Rattle.dimacs_reader.specs.Words.{IsWordSoFar}
use Rattle.dimacs_reader.specs.declared.clauses.ReadState.{ReadState}
use Rattle.dimacs_reader.specs.declared.head.HeadLine.{HeadLine}
use Rattle.dimacs_reader.specs.declared.head.HeadLine.TheVariants as head
use Rattle.dimacs_reader.specs.declared.numbers.NumberLine.{NumberLine}
use Rattle.dimacs_reader.specs.declared.numbers.NumberLine.TheVariants as numbers
use Rattle.dimacs_reader.specs.declared.problem.ProblemLine.{ProblemLine}
use Rattle.dimacs_reader.specs.declared.stop.Stop.{Stop}
use Rattle.dimacs_reader.specs.declared.stop.Stop.TheVariants as stop
use Rattle.dimacs_reader.specs.declared.word.WordSoFar.{WordSoFar}
use Rattle.dimacs_reader.proofs.Cuts.{piece}
use Rattle.dimacs_reader.proofs.HeadSteps.{head_rest, problem_end, problem_at_fault, problem_passes}
use Rattle.dimacs_reader.proofs.HeadStands.{next_line}
use Rattle.dimacs_reader.proofs.NumberSteps.{number_rest, word_end, word_taken, word_at_fault}
use Rattle.dimacs_reader.proofs.OutcomeLaws.{text_written}
use Rattle.dimacs_reader.proofs.Spelling.{spells}
use Rattle.dimacs_reader.proofs.WordFaults.{fault_place}

-- a text, by what the rest of it comes to where there is none
pub at_end : (fed : List ℕ) (rest : ℕ → List ℕ → Outcome) → ((more : List ℕ) → text_outcome (fed ++ more) ≡ rest (length fed) more) → text_outcome fed ≡ rest (length fed) []
at_end fed rest h = ap text_outcome (sym (append-nil fed)) ∙ h []

-- BEFORE THE NUMBERS

pub head_end : (fed : List ℕ) (line : HeadLine) → ((p : ProblemLine) → line ≡ head.Problem p → ⊥) → StandsInHead fed line → text_outcome fed ≡ Faulty (record { kind = NoHeader; place = length fed + 1 })
head_end fed head.Start other h =
    at_end fed (head_rest head.Start h.part) h.rest ∙ ap (λ (n : ℕ). Faulty (record { kind = NoHeader; place = n })) (let p : length fed + 0 + 1 ≡ length fed + 1 = omega arith in p)
head_end fed head.Comment other h =
    at_end fed (head_rest head.Comment h.part) h.rest ∙ ap (λ (n : ℕ). Faulty (record { kind = NoHeader; place = n })) (let p : length fed + 0 + 1 ≡ length fed + 1 = omega arith in p)
head_end fed (head.Problem p) other h = absurd (other p refl)

pub no_problem_line : (fed : List ℕ) (line : HeadLine) (last : ℕ) (f : Fault) → ((p : ProblemLine) → line ≡ head.Problem p → ⊥) → length fed ≡ last → f ≡ record { kind = NoHeader; place = last + 1 }
    → StandsInHead fed line → IsMetAtEnd fed f
no_problem_line fed line last f other size is h =
    let same : f ≡ record { kind = NoHeader; place = length fed + 1 } = is ∙ ap (λ (n : ℕ). let g : Fault = record { kind = NoHeader; place = n + 1 } in g) (sym size) in
    record {
      line = ap (λ (g : Fault). line_number fed g.place) same ∙ next_line fed;
      outcome = head_end fed line other h ∙ ap Faulty (sym same);
    }

pub problem_ended : (fed : List ℕ) (p : ProblemLine) (h : StandsInHead fed (head.Problem p)) → text_outcome fed ≡ problem_outcome (stated_by (words_in h.part)) (length fed) [] (length fed + 1)
problem_ended fed p h = at_end fed (head_rest (head.Problem p) h.part) h.rest ∙ problem_end (length fed) h.part p

pub problem_fault_at_end : (fed : List ℕ) (p : ProblemLine) (last : ℕ) (f : Fault) → length fed ≡ last
    → ((bytes : List ℕ) → IsLineSoFar bytes p → (problem_line_kind (stated_by (words_in bytes)) ≡ Some f.kind) × (f.place ≡ last)) → StandsInHead fed (head.Problem p) → IsMetAtEnd fed f
problem_fault_at_end fed p last f size states h =
    let so = h.is_part in
    let is = states h.part so.0 in
    let place : f.place ≡ length fed = is.1 ∙ sym size in
    record {
      line = ap (line_number fed) place ∙ so.1;
      outcome = problem_ended fed p h ∙ problem_at_fault (stated_by (words_in h.part)) f.kind (length fed) [] (length fed + 1) is.0 ∙ ap (λ (n : ℕ). Faulty (record { kind = f.kind; place = n })) (sym place);
    }

pub problem_at_end : (fed : List ℕ) (p : ProblemLine) (vars clauses : ℕ) (state : ReadState) → vars ≤ max_vars → clauses ≤ max_clauses → HasRead [] state → state.formula.vars ≡ vars → state.stated ≡ clauses
    → ((bytes : List ℕ) → IsLineSoFar bytes p → stated_by (words_in bytes) ≡ Some (vars, clauses)) → StandsInHead fed (head.Problem p) → EndsAs fed state
problem_at_end fed p vars clauses state v c r sv sc states h =
    let so = h.is_part in
    record {
      words = [];
      read = r;
      outcome = problem_ended fed p h ∙ problem_passes (stated_by (words_in h.part)) vars clauses (length fed) [] (length fed + 1) (states h.part so.0) v c
          ∙ ap (λ (n : ℕ). end_outcome n clauses [] (length fed + 1)) (sym sv) ∙ ap (λ (n : ℕ). end_outcome state.formula.vars n [] (length fed + 1)) (sym sc);
    }

-- AFTER THE PROBLEM LINE

-- the places where no word ends
pub no_word : (fed : List ℕ) (state : ReadState) (line : NumberLine) → ((w : WordSoFar) → line ≡ numbers.Word w → ⊥) → StandsInNumbers fed state line → EndsAs fed state
no_word fed state numbers.Start other h = record {
  words = h.earlier;
  read = h.read;
  outcome = at_end fed (number_rest numbers.Start state.formula.vars state.stated h.earlier h.word) h.rest ∙ ap (end_outcome state.formula.vars state.stated h.earlier) (let p : length fed + 0 + 1 ≡ length fed + 1 = omega arith in p);
}
no_word fed state numbers.Comment other h = record {
  words = h.earlier;
  read = h.read;
  outcome = at_end fed (number_rest numbers.Comment state.formula.vars state.stated h.earlier h.word) h.rest ∙ ap (end_outcome state.formula.vars state.stated h.earlier) (let p : length fed + 0 + 1 ≡ length fed + 1 = omega arith in p);
}
no_word fed state numbers.Gap other h = record {
  words = h.earlier;
  read = h.read;
  outcome = at_end fed (number_rest numbers.Gap state.formula.vars state.stated h.earlier h.word) h.rest
      ∙ ap (λ (ws : List Piece). end_outcome state.formula.vars state.stated ws (length fed + 0 + 1)) (append-nil h.earlier)
      ∙ ap (end_outcome state.formula.vars state.stated h.earlier) (let p : length fed + 0 + 1 ≡ length fed + 1 = omega arith in p);
}
no_word fed state (numbers.Word w) other h = absurd (other w refl)
no_word fed state numbers.Ended other h = record {
  words = h.earlier;
  read = h.read;
  outcome = at_end fed (number_rest numbers.Ended state.formula.vars state.stated h.earlier h.word) h.rest ∙ ap (end_outcome state.formula.vars state.stated h.earlier) (let p : length fed + 0 + 1 ≡ length fed + 1 = omega arith in p);
}

-- a text that ends in a word
pub in_word : (fed : List ℕ) (state : ReadState) (w : WordSoFar) (h : StandsInNumbers fed state (numbers.Word w))
    → text_outcome fed ≡ outcome_of_words state.formula.vars state.stated h.earlier (piece h.word (length fed) ∷ []) [] (length fed + 1)
in_word fed state w h =
    let so = h.is_part in
    let part = so.1 in
    at_end fed (number_rest (numbers.Word w) state.formula.vars state.stated h.earlier h.word) h.rest ∙ word_end state.formula.vars state.stated h.earlier h.word (length fed) w part.some part.within part.no_blank

pub word_at_end : (fed : List ℕ) (state next : ReadState) (w : WordSoFar) (last : ℕ) → length fed ≡ last → ((bytes : List ℕ) → IsWordSoFar bytes w → Leads (piece bytes last ∷ []) state next)
    → StandsInNumbers fed state (numbers.Word w) → EndsAs fed next
word_at_end fed state next w last size leads h =
    let so = h.is_part in
    let n = length fed in
    let word = piece h.word n in
    let later = h.earlier ++ word ∷ [] in
    let l : Leads (word ∷ []) state next = subst (λ (m : ℕ). Leads (piece h.word m ∷ []) state next) (sym size) (leads h.word so.0) in
    record {
      words = later;
      read = l.goes_on h.earlier h.read;
      outcome = in_word fed state w h
          ∙ word_taken state.formula.vars state.stated h.earlier word [] [] (n + 1) (l.silent h.earlier h.read)
          ∙ ap (λ (ws : List Piece). end_outcome state.formula.vars state.stated ws (n + 1)) (append-nil later)
          ∙ ap (λ (m : ℕ). end_outcome m state.stated later (n + 1)) (sym l.vars) ∙ ap (λ (m : ℕ). end_outcome next.formula.vars m later (n + 1)) (sym l.stated);
    }

pub word_fault_at_end : (fed : List ℕ) (state : ReadState) (w : WordSoFar) (last : ℕ) (s : Stop) → length fed ≡ last → ((bytes : List ℕ) → IsWordSoFar bytes w → ForFault s (HasFault (piece bytes last ∷ []) state))
    → StandsInNumbers fed state (numbers.Word w) → ForFault s (IsMetAtEnd fed)
word_fault_at_end fed state w last stop.OutOfMemory size has h = tt
word_fault_at_end fed state w last (stop.Fault f) size has h =
    let so = h.is_part in
    let part = so.1 in
    let n = length fed in
    let word = piece h.word n in
    let e : fault_in state h.earlier (word ∷ []) ≡ Some f = subst (λ (m : ℕ). HasFault (piece h.word m ∷ []) state f) (sym size) (has h.word so.0) h.earlier h.read in
    let place : f.place ≡ n = fault_place state.formula.vars state.stated h.earlier word f e in
    record {
      line = ap (line_number fed) place ∙ part.in_line;
      outcome = in_word fed state w h ∙ word_at_fault state.formula.vars state.stated h.earlier word [] [] (n + 1) f e;
    }

-- THE FORMULA

-- too few clauses at a place
abbrev few : ℕ → Fault
few end = record { kind = TooFewClauses; place = end }

-- words that end with enough clauses, or with too few
end_written : (vars clauses : ℕ) (words : List Piece) (end : ℕ) → fault_at_end clauses words end ≡ None → end_outcome vars clauses words end ≡ Written vars clauses words
end_written vars clauses words end e = by_test (nat_lt (length (runs_of (numbers_of words))) clauses) e
  where
    by_test : (b : Bool) → cond b (Some (few end)) None ≡ None → cond b (Faulty (few end)) (Written vars clauses words) ≡ Written vars clauses words
    by_test true h = absurd (let f : ⊥ = cc in f)
    by_test false h = refl

end_at_fault : (vars clauses : ℕ) (words : List Piece) (end : ℕ) (f : Fault) → fault_at_end clauses words end ≡ Some f → (end_outcome vars clauses words end ≡ Faulty f) × (f.place ≡ end)
end_at_fault vars clauses words end f e = by_test (nat_lt (length (runs_of (numbers_of words))) clauses) e
  where
    by_test : (b : Bool) → cond b (Some (few end)) None ≡ Some f → (cond b (Faulty (few end)) (Written vars clauses words) ≡ Faulty f) × (f.place ≡ end)
    by_test true h = let same : few end ≡ f = cc in (ap Faulty same, ap (λ (g : Fault). g.place) (sym same))
    by_test false h = absurd (let g : ⊥ = cc in g)

pub spelled : (fed : List ℕ) (state : ReadState) (end : ℕ) (F : Cnf) → length fed + 1 ≡ end → length fed ≤ max_bytes → EndsAs fed state → Writes state end F → Spells fed F
spelled fed state end F size short e w =
    let silent = w.silent e.words e.read in
    let written = w.written e.words e.read in
    let outcome : text_outcome fed ≡ Written state.formula.vars state.stated e.words =
    e.outcome ∙ end_written state.formula.vars state.stated e.words (length fed + 1) (ap (fault_at_end state.stated e.words) size ∙ silent) in
    let t = text_written fed state.formula.vars state.stated e.words outcome in
    let vars = written.vars in
    spells fed t.problem t.rest F t.first
    record {
      stated = t.stated ∙ ap (λ (n : ℕ). Some (n, state.stated)) (sym vars) ∙ ap (λ (n : ℕ). Some (F.vars, n)) (sym w.whole);
      written = subst (λ (n : ℕ). IsWritten n (flat_map words_in t.rest) F) (sym vars) (subst (λ (ws : List Word). IsWritten state.formula.vars ws F) (sym t.words_are) written);
      small = subst (λ (n : ℕ). n ≤ max_vars) (sym vars) t.small;
    }
    short

pub fault_at_the_end : (fed : List ℕ) (state : ReadState) (end : ℕ) (s : Stop) → length fed + 1 ≡ end → EndsAs fed state → ForFault s (HasFaultAtEnd state end) → ForFault s (IsMetAtEnd fed)
fault_at_the_end fed state end stop.OutOfMemory size e has = tt
fault_at_the_end fed state end (stop.Fault f) size e has =
    let is = end_at_fault state.formula.vars state.stated e.words (length fed + 1) f (ap (fault_at_end state.stated e.words) size ∙ has e.words e.read) in
    record {
      line = ap (line_number fed) is.1 ∙ next_line fed;
      outcome = e.outcome ∙ is.0;
    }
