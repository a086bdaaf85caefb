-- What was read, one word after the other.
use Rattle.std.proofs.Common.{◌≡◌, ℕ, ◌+◌, ◌<◌, ◌≤◌, ◌∙◌, Bool, true, false, not, cond, ◌&&◌, List, [], ◌∷◌, ◌++◌, length, map, refl, sym, ap, arith, ℤ, pos, Option, Some, None, sum_by}
use Rattle.std.specs.Prelude.{count_by, nat_le, nat_lt, nat_eq}
use Rattle.std.specs.List.{list_all}
use Rattle.std.proofs.lemmas.Bool.{le-leb, lt-leb, le-ltb, leb-true, leb-false, lt-ltb, and_from, eqb-true}
use Rattle.std.proofs.lemmas.List.{append-nil, length-append, length-map, map-append}
use Rattle.std.proofs.lemmas.List.Sums.{sum_by-cons, sum_by-append}
use Rattle.std.proofs.lemmas.List.Folds.{list_all-append}
use Rattle.lk_model.specs.Lists.{is_empty, is_zero, is_nonzero}
use Rattle.lk_model.specs.Limits.{max_literals}
use Rattle.lk_model.specs.Formulas.Literal.{variable, contains, is_literal}
use Rattle.lk_model.specs.Formulas.Formula.{Cnf}
use Rattle.lk_model.specs.Texts.Lines.{Piece, texts}
use Rattle.lk_model.specs.Texts.NumberWords.{number}
use Rattle.lk_model.specs.Texts.Dimacs.{runs_of, without_repeats, without_empty_last}
use Rattle.lk_model.specs.Texts.Fault.{fault_if, number_faults, numbers_of}
use Rattle.lk_model.specs.declared.text_fault.Fault.{Fault}
use Rattle.lk_model.specs.declared.text_fault.FaultKind.TheVariants.{BeyondStated, TooManyClauses, Limit}
use Rattle.lk_model.proofs.FaultConverse.{numbers_read}
use Rattle.dimacs_reader.specs.Contents.{IsWritten}
use Rattle.dimacs_reader.specs.FirstFaults.{first_or}
use Rattle.dimacs_reader.specs.Numbers.{IsNumber}
use Rattle.dimacs_reader.specs.ReadStates.{HasRead, Fits, Leads, HasFault, Closes, fault_in, closed, with_literal, is_short_of}
use Rattle.dimacs_reader.specs.declared.clauses.ReadState.{ReadState}
use Rattle.dimacs_reader.specs.declared.word.Number.{Number}
use Rattle.dimacs_reader.specs.declared.word.Number.TheVariants.{Zero, Literal, Past}
use Rattle.dimacs_reader.proofs.NumberLemmas.{split-zero, split-other, split_count, runs-last, repeats-more, contains-repeats, repeats-empty}
use Rattle.dimacs_reader.proofs.WordKinds.{literal_nonzero, literal_fits}

-- a literal counts for 1
abbrev weight : ℤ → ℕ
weight x = cond (is_nonzero x) 1 0

zero_weight : weight (pos 0) ≡ 0
zero_weight = refl

other_weight : (x : ℤ) → is_zero x ≡ false → weight x ≡ 1
other_weight x e = ap (λ (b : Bool). cond (not b) 1 0) e

-- ONE WORD MORE

read_more : (earlier : List Piece) (word : Piece) (numbers : List ℤ) (x : ℤ) → map number (texts earlier) ≡ map Some numbers → number word.bytes ≡ Some x → map number (texts (earlier ++ word ∷ [])) ≡ map Some (numbers ++ x ∷ [])
read_more earlier word numbers x h w =
    ap (map number) (map-append (λ (p : Piece). p.bytes) earlier (word ∷ []))
    ∙ map-append number (texts earlier) (word.bytes ∷ []) ∙ ap (λ (ws : List (Option ℤ)). ws ++ number word.bytes ∷ []) h ∙ ap (λ (o : Option ℤ). map Some numbers ++ o ∷ []) w ∙ sym (map-append Some numbers (x ∷ []))

count_more : (numbers : List ℤ) (x : ℤ) → count_by is_nonzero (numbers ++ x ∷ []) ≡ count_by is_nonzero numbers + weight x
count_more numbers x =
    let one = sum_by-append weight numbers (x ∷ []) in
    let two = sum_by-cons weight x [] in
    let none : sum_by weight [] ≡ 0 = refl in
    omega (arith, one, two, none)

all_more : (n : ℕ) (numbers : List ℤ) (x : ℤ) → list_all (λ l. nat_le (variable l) n) numbers ≡ true → nat_le (variable x) n ≡ true → list_all (λ l. nat_le (variable l) n) (numbers ++ x ∷ []) ≡ true
all_more n numbers x h v = list_all-append (λ l. nat_le (variable l) n) numbers (x ∷ []) ∙ and_from _ _ h (and_from _ _ v refl)

-- COUNTS

-- the zeros that were read closed the clauses
zeros_read : (words : List Piece) (state : ReadState) → HasRead words state → count_by is_zero (numbers_of words) ≡ length state.formula.clauses
zeros_read words state h =
    let same = ap (count_by is_zero) (numbers_read (texts words) h.numbers h.read) in
    let runs = ap length h.split in
    let cs : length state.formula.clauses ≡ length h.runs = ap (λ (rs : List (List ℤ)). length rs) h.closed ∙ length-map h.runs without_repeats in
    omega (arith, same, runs, cs, split_count h.numbers, length-append h.runs (h.last ∷ []))

written_read : (words : List Piece) (state : ReadState) → HasRead words state → count_by is_nonzero (numbers_of words) ≡ state.written
written_read words state h = ap (count_by is_nonzero) (numbers_read (texts words) h.numbers h.read) ∙ sym h.written

-- FAULTS OF A WORD

-- the faults of a number by how many zeros and other numbers were read
abbrev faults_by : ℕ → ℕ → ℕ → ℕ → ℤ → ℕ → List Fault
faults_by vars clauses zeros others x place =
    fault_if (nat_le clauses zeros) TooManyClauses place
    ++ fault_if (nat_lt vars (variable x)) BeyondStated place
    ++ fault_if (not (is_zero x) && nat_le max_literals others) Limit place

by_number : (words : List Piece) (word : Piece) (state : ReadState) (x : ℤ) → HasRead words state → number word.bytes ≡ Some x
    → fault_in state words (word ∷ []) ≡ first_or (faults_by state.formula.vars state.stated (length state.formula.clauses) state.written x word.last) None
by_number words word state x h e =
    ap (λ (o : Option ℤ). first_or (number_faults state.formula.vars state.stated (numbers_of words) o word.last) None) e
    ∙ ap (λ (n : ℕ). first_or (faults_by state.formula.vars state.stated n (count_by is_nonzero (numbers_of words)) x word.last) None) (zeros_read words state h)
    ∙ ap (λ (n : ℕ). first_or (faults_by state.formula.vars state.stated (length state.formula.clauses) n x word.last) None) (written_read words state h)

-- the number after what a word is
number_behind : (n : ℕ) (o : Option ℤ) (num : Number) → IsNumber n o num → (x : ℤ) × (o ≡ Some x)
number_behind n o Zero h = (pos 0, h)
number_behind n o (Literal l) h = (l, h.0)
number_behind n None Past h = absurd h
number_behind n (Some x) Past h = (x, refl)

pub too_many : (word : Piece) (state : ReadState) (n : ℕ) (num : Number) → IsNumber n (number word.bytes) num → state.stated ≤ length state.formula.clauses
    → HasFault (word ∷ []) state (record { kind = TooManyClauses; place = word.last })
too_many word state n num is full earlier h =
    let x = number_behind n (number word.bytes) num is in
    by_number earlier word state x.0 h x.1 ∙ rw (le-leb state.stated (length state.formula.clauses) full) refl

-- the number of a word whose variable is past
past_number : (n : ℕ) (o : Option ℤ) → IsNumber n o Past → (x : ℤ) × (o ≡ Some x) × (nat_le (variable x) n ≡ false)
past_number n None h = absurd h
past_number n (Some x) h = (x, refl, h)

pub beyond : (word : Piece) (state : ReadState) (n : ℕ) → IsNumber n (number word.bytes) Past → n ≡ state.formula.vars → length state.formula.clauses < state.stated
    → HasFault (word ∷ []) state (record { kind = BeyondStated; place = word.last })
beyond word state n is same more earlier h =
    let x = past_number n (number word.bytes) is in
    let far : state.formula.vars < variable x.0 = omega (arith, leb-false (variable x.0) n x.2, same) in
    by_number earlier word state x.0 h x.1 ∙ rw (lt-leb state.stated (length state.formula.clauses) more, lt-ltb state.formula.vars (variable x.0) far) refl

-- a literal over the variables is near and no 0
record Near (state : ReadState) (l : ℤ) : Type 0 where
  near : nat_lt state.formula.vars (variable l) ≡ false
  fits : nat_le (variable l) state.formula.vars ≡ true
  other : is_zero l ≡ false

near_literal : (n : ℕ) (state : ReadState) (l : ℤ) → is_literal n l ≡ true → n ≡ state.formula.vars → Near state l
near_literal n state l is same =
    let fits : nat_le (variable l) state.formula.vars ≡ true = ap (nat_le (variable l)) (sym same) ∙ literal_fits n l is in
    record {
      near = le-ltb state.formula.vars (variable l) (leb-true (variable l) state.formula.vars fits);
      fits = fits;
      other = literal_nonzero n l is;
    }

pub past_written : (word : Piece) (state : ReadState) (n : ℕ) (l : ℤ) → IsNumber n (number word.bytes) (Literal l) → n ≡ state.formula.vars → length state.formula.clauses < state.stated → max_literals ≤ state.written
    → HasFault (word ∷ []) state (record { kind = Limit; place = word.last })
past_written word state n l is same more full earlier h =
    let near = near_literal n state l is.1 same in
    by_number earlier word state l h is.0 ∙ rw (lt-leb state.stated (length state.formula.clauses) more, near.near, near.other, le-leb max_literals state.written full) refl

-- STATES

pub closed_fits : (state : ReadState) → Fits state → length state.formula.clauses < state.stated → Fits (closed state)
closed_fits state f more = record {
  one_size = f.one_size;
  stated = f.stated;
  clauses = omega (arith, length-append state.formula.clauses (state.growing.literals ∷ []), more);
  open_clause = λ none. absurd (omega (arith, none));
  literals = (
      let parts = sum_by-append length state.formula.clauses (state.growing.literals ∷ []) in
      let one = sum_by-cons length state.growing.literals [] in
      let none : sum_by {X = List ℤ} length [] ≡ 0 = refl in
      omega (arith, parts, one, none, f.literals)
      );
  written = f.written;
}

pub literal_fits_in : (state : ReadState) (l : ℤ) → Fits state → length state.formula.clauses < state.stated → state.written < max_literals → Fits (with_literal l state)
literal_fits_in state l f more room = record {
  one_size = f.one_size;
  stated = f.stated;
  clauses = f.clauses;
  open_clause = λ some. more;
  literals = omega (arith, grown (contains state.growing.literals l), f.literals);
  written = omega (arith, room);
}
  where
    grown : (b : Bool) → length (cond b state.growing.literals (state.growing.literals ++ l ∷ [])) ≤ length state.growing.literals + 1
    grown true = omega arith
    grown false = omega (arith, length-append state.growing.literals (l ∷ []))

-- a 0 closes the open clause
pub zero_leads : (word : Piece) (state : ReadState) (n : ℕ) → IsNumber n (number word.bytes) Zero → Fits state → length state.formula.clauses < state.stated → Leads (word ∷ []) state (closed state)
zero_leads word state n w f more = record {
  vars = refl;
  stated = refl;
  fits = closed_fits state f more;
  goes_on = λ earlier h. record {
    numbers = h.numbers ++ pos 0 ∷ [];
    runs = h.runs ++ h.last ∷ [];
    last = [];
    read = read_more earlier word h.numbers (pos 0) h.read w;
    split = split-zero h.numbers (pos 0) h.runs h.last h.split refl;
    closed = ap (λ (cs : List (List ℤ)). cs ++ state.growing.literals ∷ []) h.closed ∙ ap (λ (c : List ℤ). map without_repeats h.runs ++ c ∷ []) h.growing ∙ sym (map-append without_repeats h.runs (h.last ∷ []));
    growing = refl;
    variables = all_more state.formula.vars h.numbers (pos 0) h.variables (le-leb 0 state.formula.vars (omega arith));
    written = omega (arith, count_more h.numbers (pos 0), zero_weight, h.written);
  };
  silent = λ earlier h. by_number earlier word state (pos 0) h w ∙ rw (lt-leb state.stated (length state.formula.clauses) more, le-ltb state.formula.vars 0 (omega arith)) refl;
}

-- another number is a literal more
pub literal_leads : (word : Piece) (l : ℤ) (state : ReadState) (n : ℕ) → IsNumber n (number word.bytes) (Literal l) → n ≡ state.formula.vars → Fits state → length state.formula.clauses < state.stated → state.written < max_literals → Leads (word ∷ []) state (with_literal l state)
literal_leads word l state n is same f more room =
    let near = near_literal n state l is.1 same in
    record {
      vars = refl;
      stated = refl;
      fits = literal_fits_in state l f more room;
      goes_on = λ earlier h. record {
        numbers = h.numbers ++ l ∷ [];
        runs = h.runs;
        last = h.last ++ l ∷ [];
        read = read_more earlier word h.numbers l h.read is.0;
        split = split-other h.numbers l h.runs h.last h.split near.other;
        closed = h.closed;
        growing = grown state.growing.literals h.last l h.growing;
        variables = all_more state.formula.vars h.numbers l h.variables near.fits;
        written = omega (arith, count_more h.numbers l, other_weight l near.other, h.written);
      };
      silent = λ earlier h. by_number earlier word state l h is.0 ∙ rw (lt-leb state.stated (length state.formula.clauses) more, near.near, near.other, lt-leb max_literals state.written room) refl;
    }
  where
    grown : (held last : List ℤ) (x : ℤ) → held ≡ without_repeats last → cond (contains held x) held (held ++ x ∷ []) ≡ without_repeats (last ++ x ∷ [])
    grown held last x e =
        ap (λ (c : List ℤ). cond (contains c x) c (c ++ x ∷ [])) e
        ∙ ap (λ (b : Bool). cond b (without_repeats last) (without_repeats last ++ x ∷ [])) (contains-repeats last x)
        ∙ sym (repeats-more last x)

-- the formula without a clause
pub at_first : (state : ReadState) → state.formula.clauses ≡ [] → state.growing.literals ≡ [] → state.written ≡ 0 → HasRead [] state
at_first state cs ls z = record {
  numbers = [];
  runs = [];
  last = [];
  read = refl;
  split = refl;
  closed = cs;
  growing = ls;
  variables = refl;
  written = z;
}

-- THE END

-- the runs of what was read
runs_read : (words : List Piece) (state : ReadState) (h : HasRead words state) → runs_of h.numbers ≡ h.runs ++ cond (is_empty state.growing.literals) [] (h.last ∷ [])
runs_read words state h =
    let open_empty : is_empty h.last ≡ is_empty state.growing.literals = sym (repeats-empty h.last) ∙ ap (λ (ls : List ℤ). is_empty ls) (sym h.growing) in
    ap without_empty_last h.split ∙ runs-last h.runs h.last ∙ ap (λ (b : Bool). h.runs ++ cond b [] (h.last ∷ [])) open_empty

-- what was read writes a formula of so many clauses
writes : (words : List Piece) (state : ReadState) (F : Cnf) (h : HasRead words state) → Fits state → F.vars ≡ state.formula.vars → length F.clauses ≤ state.stated → F.clauses ≡ map without_repeats (runs_of h.numbers) → IsWritten state.formula.vars (texts words) F
writes words state F h f vars few clauses = record {
  numbers = h.numbers;
  vars = vars;
  read = h.read;
  clauses = clauses;
  variables = h.variables;
  few_clauses = omega (arith, few, f.stated);
  few_literals = omega (arith, h.written, f.written);
}

-- as many runs as clauses
as_many : (words : List Piece) (state : ReadState) (F : Cnf) (h : HasRead words state) → F.clauses ≡ map without_repeats (runs_of h.numbers) → length (runs_of (numbers_of words)) ≡ length F.clauses
as_many words state F h e =
    ap (λ (ns : List ℤ). length (runs_of ns)) (numbers_read (texts words) h.numbers h.read) ∙ sym (length-map (runs_of h.numbers) without_repeats) ∙ sym (ap (λ (cs : List (List ℤ)). length cs) e)

-- a list that is not empty
some_length : {X : Type 0} (xs : List X) → is_empty xs ≡ false → 0 < length xs
some_length [] e = absurd (let g : ⊥ = cc in g)
some_length (x ∷ xs) e = omega arith

pub closes_open : (state : ReadState) → Fits state → is_empty state.growing.literals ≡ false → Closes state (closed state).formula
closes_open state f some = record {
  few = few;
  runs = λ words h. as_many words state (closed state).formula h (clauses words h);
  written = λ words h. writes words state (closed state).formula h f refl few (clauses words h);
}
  where
    few : length (closed state).formula.clauses ≤ state.stated
    few = let more = f.open_clause (some_length state.growing.literals some) in omega (arith, length-append state.formula.clauses (state.growing.literals ∷ []), more)

    clauses : (words : List Piece) (h : HasRead words state) → (closed state).formula.clauses ≡ map without_repeats (runs_of h.numbers)
    clauses words h =
        ap (λ (cs : List (List ℤ)). cs ++ state.growing.literals ∷ []) h.closed ∙ ap (λ (c : List ℤ). map without_repeats h.runs ++ c ∷ []) h.growing
        ∙ sym (map-append without_repeats h.runs (h.last ∷ []))
        ∙ ap (map without_repeats) (sym (runs_read words state h ∙ ap (λ (b : Bool). h.runs ++ cond b [] (h.last ∷ [])) some))

pub closes_whole : (state : ReadState) → Fits state → is_empty state.growing.literals ≡ true → Closes state state.formula
closes_whole state f none = record {
  few = f.clauses;
  runs = λ words h. as_many words state state.formula h (clauses words h);
  written = λ words h. writes words state state.formula h f refl f.clauses (clauses words h);
}
  where
    clauses : (words : List Piece) (h : HasRead words state) → state.formula.clauses ≡ map without_repeats (runs_of h.numbers)
    clauses words h = h.closed ∙ ap (map without_repeats) (sym (runs_read words state h ∙ ap (λ (b : Bool). h.runs ++ cond b [] (h.last ∷ [])) none ∙ append-nil h.runs))

-- whether there are fewer clauses than are stated
pub short_read : (words : List Piece) (state : ReadState) → HasRead words state → nat_lt (length (runs_of (numbers_of words))) state.stated ≡ is_short_of state
short_read words state h =
    ap (λ (ns : List ℤ). nat_lt (length (runs_of ns)) state.stated) (numbers_read (texts words) h.numbers h.read)
    ∙ ap (λ (rs : List (List ℤ)). nat_lt (length rs) state.stated) (runs_read words state h)
    ∙ ap (λ (n : ℕ). nat_lt n state.stated) (by_test (is_empty state.growing.literals))
  where
    whole : length state.formula.clauses ≡ length h.runs
    whole = ap (λ (rs : List (List ℤ)). length rs) h.closed ∙ length-map h.runs without_repeats

    by_test : (b : Bool) → length (h.runs ++ cond b [] (h.last ∷ [])) ≡ length state.formula.clauses + cond b 0 1
    by_test true = let w = whole in let a = length-append h.runs [] in omega (arith, w, a)
    by_test false = let w = whole in let a = length-append h.runs (h.last ∷ []) in omega (arith, w, a)

-- whether there is a literal
pub empty_test : {X : Type 0} (xs : List X) (b : Bool) → b ≡ nat_eq (length xs) 0 → b ≡ true → is_empty xs ≡ true
empty_test [] b e t = refl
empty_test (x ∷ xs) b e t =
    let zero : length (x ∷ xs) ≡ 0 = eqb-true (length (x ∷ xs)) 0 (sym e ∙ t) in
    absurd (omega (arith, zero))

pub some_test : {X : Type 0} (xs : List X) (b : Bool) → b ≡ nat_eq (length xs) 0 → b ≡ false → is_empty xs ≡ false
some_test [] b e t = absurd (cc (e, t))
some_test (x ∷ xs) b e t = refl
