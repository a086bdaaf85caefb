-- What a round reaches backwards, and its marks.
use Rattle.std.proofs.Common.{◌≡◌, ◌∙◌, ℕ, zero, suc, ◌+◌, ◌-◌, ◌<◌, ◌≤◌, Bool, true, false, cond, ◌&&◌, ◌||◌, ◌==◌, List, [], ◌∷◌, ◌++◌, length, get_or, map, take, drop, refl, sym, ap, subst, arith, ℤ, inl, inr, slice_index, get_or-set_same, get_or-set_other}
use Rattle.std.specs.Prelude.{replicate, slice_set, nat_le}
use Rattle.std.specs.List.{list_all}
use Rattle.std.proofs.lemmas.Bool.{cases_Bool, cases_eq, eqb-true, eq-eqb, ne_eqb, leb-true}
use Rattle.std.proofs.lemmas.List.{get_or-replicate, length-replicate, length-set, drop_more, drop_all, take_more, map_push, get_or_default}
use Rattle.std.proofs.lemmas.List.Folds.{list_all-append}
use Rattle.lk_model.specs.Lists.{among, is_between, is_empty}
use Rattle.lk_model.specs.Laws.{last_number}
use Rattle.lk_model.specs.Formulas.Literal.{mentions, is_literal}
use Rattle.lk_model.specs.Formulas.Formula.{Cnf, clause_at, variable_occurs, positions_of}
use Rattle.lk_model.specs.Chains.Chain.{names_of}
use Rattle.lk_model.specs.Chains.Rounds.{reached, is_refutation, used_positions}
use Rattle.lk_model.specs.Documents.Form.{counts_from, is_step, is_turn, are_steps}
use Rattle.lk_model.specs.Documents.Documents.{steps_of}
use Rattle.lk_model.specs.declared.document.Step.{Step}
use Rattle.lk_model.specs.declared.document.Turn.{Turn}
use Rattle.lk_model.specs.declared.document.Round.{Round}
use Rattle.lk_model.proofs.Booleans.{and_true, same_tests}
use Rattle.lk_model.proofs.Counting.{among-range, in_filter, from_filter}
use Rattle.lk_model.proofs.Lists.{among_here, among_append as among_both}
use Rattle.lk_model.proofs.ListTests.{all_at}
use Rattle.lk_model.proofs.Variables.{occurs, position_with}
use Rattle.lk_model.proofs.Clauses.{clause_past}
use Rattle.general_laws.proofs.PartLaws.{is_position}
use Rattle.lk_model.proofs.Flags.{or_yes}
use Rattle.check_places.specs.Places.{is_reached}
use Rattle.check_rounds.specs.Blocking.{AreMarked, AreRoundSteps, BlocksClause, BlocksRound, first_number}

-- NUMBERS

abbrev pub number_of : Step → ℕ
number_of s = s.number

-- the number of the step at a place
pub number_at : (first : ℕ) (steps : List Step) (i : ℕ) (s : Step) → counts_from first (map (λ (t : Step). t.number) steps) ≡ true → i < length steps → s ≡ get_or steps i s → s.number ≡ first + i
number_at first [] i s counts lt is = absurd (omega (arith, lt))
number_at first (t ∷ steps) zero s counts lt is =
    let both = and_true (t.number == first) (counts_from (first + 1) (map (λ (u : Step). u.number) steps)) counts in
    ap number_of is ∙ eqb-true t.number first both.0 ∙ omega arith
number_at first (t ∷ steps) (suc i) s counts lt is =
    let both = and_true (t.number == first) (counts_from (first + 1) (map (λ (u : Step). u.number) steps)) counts in
    number_at (first + 1) steps i s both.1 (omega (arith, lt)) is ∙ omega arith

-- the number of the first one, and of the last one
pub first_is : (first : ℕ) (steps : List Step) → counts_from first (map (λ (t : Step). t.number) steps) ≡ true → 0 < length steps → first_number steps ≡ first
first_is first [] counts some = absurd (omega (arith, some))
first_is first (s ∷ steps) counts some = eqb-true s.number first (and_true (s.number == first) (counts_from (first + 1) (map (λ (u : Step). u.number) steps)) counts).0

pub last_is : (first : ℕ) (steps : List Step) → counts_from first (map (λ (t : Step). t.number) steps) ≡ true → 0 < length steps → last_number steps ≡ first + (length steps - 1)
last_is first [] counts some = absurd (omega (arith, some))
last_is first (s ∷ []) counts some = eqb-true s.number first (and_true (s.number == first) true counts).0 ∙ omega arith
last_is first (s ∷ t ∷ later) counts some =
    let both = and_true (s.number == first) (counts_from (first + 1) (map (λ (u : Step). u.number) (t ∷ later))) counts in
    last_is (first + 1) (t ∷ later) both.1 (omega arith) ∙ omega arith

-- counting goes on behind some of the numbers
pub counts_split : (next : ℕ) (steps more : List Step) → counts_from next (map (λ (t : Step). t.number) (steps ++ more)) ≡ true
    → (counts_from next (map (λ (t : Step). t.number) steps) ≡ true) × (counts_from (next + length steps) (map (λ (t : Step). t.number) more) ≡ true)
counts_split next [] more counts = (refl, subst (λ (k : ℕ). counts_from k (map (λ (t : Step). t.number) more) ≡ true) (omega arith) counts)
counts_split next (s ∷ steps) more counts =
    let both = and_true (s.number == next) (counts_from (next + 1) (map (λ (t : Step). t.number) (steps ++ more))) counts in
    let rest = counts_split (next + 1) steps more both.1 in
    (rw (both.0) (rest.0), subst (λ (k : ℕ). counts_from k (map (λ (t : Step). t.number) more) ≡ true) (omega arith) rest.1)

all_split : (t : Step → Bool) (steps more : List Step) → list_all t (steps ++ more) ≡ true → (list_all t steps ≡ true) × (list_all t more ≡ true)
all_split t steps more all = and_true (list_all t steps) (list_all t more) (sym (list_all-append t steps more) ∙ all)

-- so the steps of each round are numbered one after another
rounds_from : (n m next : ℕ) (rounds : List Round) (i : ℕ) (r : Round) → m < next → counts_from next (map (λ (t : Step). t.number) (steps_of rounds)) ≡ true
    → list_all (is_step n) (steps_of rounds) ≡ true → i < length rounds → r ≡ get_or rounds i r → AreRoundSteps n m r.steps
rounds_from n m next [] i r past counts form lt is = absurd (omega (arith, lt))
rounds_from n m next (r ∷ rounds) zero r' past counts form lt is =
    let numbers = counts_split next r.steps (steps_of rounds) counts in
    let forms = all_split (is_step n) r.steps (steps_of rounds) form in
    subst (λ (q : Round). AreRoundSteps n m q.steps) (sym is) (record { first = next; past = past; numbered = numbers.0; form = forms.0 })
rounds_from n m next (r ∷ rounds) (suc i) r' past counts form lt is =
    let numbers = counts_split next r.steps (steps_of rounds) counts in
    let forms = all_split (is_step n) r.steps (steps_of rounds) form in
    rounds_from n m (next + length r.steps) rounds i r' (omega (arith, past)) numbers.1 forms.1 (omega (arith, lt)) is

pub round_steps : (n m : ℕ) (rounds : List Round) (i : ℕ) (r : Round) → are_steps n m (steps_of rounds) ≡ true → i < length rounds → r ≡ get_or rounds i r → AreRoundSteps n m r.steps
round_steps n m rounds i r form lt is =
    let both = and_true (counts_from (m + 1) (map (λ (t : Step). t.number) (steps_of rounds))) (list_all (is_step n) (steps_of rounds)) form in
    rounds_from n m (m + 1) rounds i r (omega arith) both.0 both.1 lt is

-- a round refutes where the clause of its last step is empty
pub refutes_last : (steps : List Step) (s : Step) → 0 < length steps → s ≡ get_or steps (length steps - 1) s → is_refutation steps ≡ is_empty s.clause
refutes_last [] s some is = absurd (omega (arith, some))
refutes_last (t ∷ []) s some is = ap (λ (u : Step). is_empty u.clause) (sym is)
refutes_last (t ∷ u ∷ later) s some is =
    refutes_last (u ∷ later) s (omega arith) (is ∙ (let at : length (t ∷ u ∷ later) - 1 ≡ suc (length (u ∷ later) - 1) = omega arith in rw at refl))

pub refutes_some : (steps : List Step) → is_refutation steps ≡ true → 0 < length steps
refutes_some [] e = absurd (let f : ⊥ = cc in f)
refutes_some (s ∷ steps) e = omega arith

pub empty_is : (c : List ℤ) → (length c == 0) ≡ is_empty c
empty_is [] = refl
empty_is (l ∷ c) = ne_eqb (length (l ∷ c)) 0 (λ e. omega (arith, e))

-- WHAT IS REACHED

-- what is reached backwards through steps, where a number is reached at first
abbrev pub reached_from : ℕ → List Step → List ℕ
reached_from last [] = last ∷ []
reached_from last (s ∷ later) = let known = reached_from last later in cond (among known s.number) (names_of s ++ known) known

-- from the last number on, that is what the steps reach
pub same_reached : (s : Step) (later : List Step) (k : ℕ) → among (reached_from (last_number (s ∷ later)) (s ∷ later)) k ≡ among (reached (s ∷ later)) k
unfolding reached
same_reached s [] k = rw (among_here s.number []) (among_both (names_of s) (s.number ∷ []) k ∙ turned (among (names_of s) k) (s.number == k))
  where
    turned : (a b : Bool) → (a || (b || false)) ≡ (b || a)
    turned true true = refl
    turned true false = refl
    turned false true = refl
    turned false false = refl
same_reached s (t ∷ later) k =
    let from : List ℕ = reached_from (last_number (t ∷ later)) (t ∷ later) in
    let known : List ℕ = reached (t ∷ later) in
    let test : among from s.number ≡ among known s.number = same_reached t later s.number in
    elim (cases_Bool (among known s.number)) [
      | inl y ↦
          rw (test ∙ y, y) (among_both (names_of s) from k ∙ ap (λ (b : Bool). among (names_of s) k || b) (same_reached t later k) ∙ sym (among_both (names_of s) known k))
      | inr n ↦ rw (test ∙ n, n) (same_reached t later k)
    ]

-- the variables of what is reached are those of the used positions
used_same : (F : Cnf) (r : Round) (known : List ℕ) (v : ℕ) → ((k : ℕ) → among known k ≡ among (reached r.steps) k)
    → variable_occurs F known v ≡ variable_occurs F (used_positions F r) v
used_same F r known v same = same_tests (variable_occurs F known v) (variable_occurs F (used_positions F r) v)
    (λ e.
    let at = position_with F known v e in
    let range = and_true (nat_le 1 at.0) (nat_le at.0 (length F.clauses)) (is_position F at.0 v at.2) in
    let first : 1 ≤ at.0 = leb-true 1 at.0 range.0 in
    let last : at.0 ≤ length F.clauses = leb-true at.0 (length F.clauses) range.1 in
    occurs F (used_positions F r) at.0 v
    (in_filter (among (reached r.steps)) (positions_of F) at.0 (sym (same at.0) ∙ at.1) (among-range 1 (length F.clauses) at.0 first (omega (arith, last)))) at.2)
    (λ e.
    let at = position_with F (used_positions F r) v e in
    occurs F known at.0 v (same at.0 ∙ (from_filter (among (reached r.steps)) (positions_of F) at.0 at.1).0) at.2)

-- MARKS

-- a number that is known past the positions, where the marks tell of it
past_marked : (F : Cnf) (k first count number : ℕ) (known before : List ℕ) (marks after : List Bool) (table : List ℕ) → length F.clauses < number
    → length after ≡ length marks → ((i : ℕ) → i < count → is_reached after i ≡ ((number == first + i) || among known (first + i)))
    → AreMarked F k first count known before marks table → AreMarked F k first count (number ∷ known) before after table
past_marked F k first count number known before marks after table past size told h = record {
  marks_size = size ∙ h.marks_size;
  table_size = h.table_size;
  marked = told;
  blocked = λ v least most.
      h.blocked v least most
      ∙ ap (λ (c : List ℤ). cond (mentions c v || variable_occurs F known v) k (slice_index before (v - 1))) (sym (clause_past F number past));
}

-- a step more
pub step_marked : (F : Cnf) (k first count number : ℕ) (known before : List ℕ) (marks : List Bool) (table : List ℕ) → length F.clauses < number → first ≤ number → number < first + count
    → AreMarked F k first count known before marks table → AreMarked F k first count (number ∷ known) before (slice_set marks (number - first) true) table
step_marked F k first count number known before marks table past low high h =
    past_marked F k first count number known before marks (slice_set marks (number - first) true) table past (length-set marks (number - first) true) (λ i lt. elim (cases_eq i (number - first)) [
      | inl same ↦
          ap (λ (b : Bool). (i + 1 == length (slice_set marks (number - first) true)) || b)
          (ap (λ (j : ℕ). get_or (slice_set marks (number - first) true) j false) same ∙ get_or-set_same marks (number - first) true false (omega (arith, low, high, h.marks_size)))
          ∙ or_yes (i + 1 == length (slice_set marks (number - first) true))
          ∙ ap (λ (b : Bool). b || among known (first + i)) (sym (eq-eqb number (first + i) (omega (arith, same, low))))
      | inr other ↦
          (λ j. (i + 1 == length-set marks (number - first) true j) || get_or-set_other marks (number - first) i true false other j) ∙ h.marked i lt
          ∙ ap (λ (b : Bool). b || among known (first + i)) (sym (ne_eqb number (first + i) (λ e. other (omega (arith, e)))))
    ]) h

-- a number for which nothing stands
pub nothing_marked : (F : Cnf) (k first count number : ℕ) (known before : List ℕ) (marks : List Bool) (table : List ℕ) → length F.clauses < number → number < first
    → AreMarked F k first count known before marks table → AreMarked F k first count (number ∷ known) before marks table
nothing_marked F k first count number known before marks table past low h =
    past_marked F k first count number known before marks marks table past refl
    (λ i lt. h.marked i lt ∙ ap (λ (b : Bool). b || among known (first + i)) (sym (ne_eqb number (first + i) (λ e. omega (arith, e, low))))) h

-- the clause at a position
pub clause_marked : (F : Cnf) (k first count number : ℕ) (known before : List ℕ) (marks : List Bool) (table after : List ℕ) → number ≤ length F.clauses → length F.clauses < first
    → BlocksClause F.vars k (clause_at F number) table after → AreMarked F k first count known before marks table → AreMarked F k first count (number ∷ known) before marks after
clause_marked F k first count number known before marks table after inside past b h = record {
  marks_size = h.marks_size;
  table_size = b.size ∙ h.table_size;
  marked = λ i lt. h.marked i lt ∙ ap (λ (t : Bool). t || among known (first + i)) (sym (ne_eqb number (first + i) (λ e. omega (arith, e, inside, past))));
  blocked = λ v least most.
      b.told v least most
      ∙ either (mentions (clause_at F number) v) (variable_occurs F known v) (slice_index table (v - 1)) (slice_index before (v - 1)) (h.blocked v least most);
}
  where
    either : (m o : Bool) (x y : ℕ) → x ≡ cond o k y → cond m k x ≡ cond (m || o) k y
    either true o x y e = refl
    either false o x y e = e

-- the same numbers are known
pub known_same : (F : Cnf) (k first count : ℕ) (known others before : List ℕ) (marks : List Bool) (table : List ℕ) → ((j : ℕ) → among known j ≡ among others j)
    → AreMarked F k first count known before marks table → AreMarked F k first count others before marks table
known_same F k first count known others before marks table same h = record {
  marks_size = h.marks_size;
  table_size = h.table_size;
  marked = λ i lt. h.marked i lt ∙ same (first + i);
  blocked = λ v least most.
      h.blocked v least most ∙ ap (λ (b : Bool). cond b k (slice_index before (v - 1))) (same_tests (variable_occurs F known v) (variable_occurs F others v)
      (λ e. let at = position_with F known v e in occurs F others at.0 v (sym (same at.0) ∙ at.1) at.2)
      (λ e. let at = position_with F others v e in occurs F known at.0 v (same at.0 ∙ at.1) at.2));
}

-- WHAT THE CHAIN OF A STEP NAMES

pub first_bounds : (n : ℕ) (s : Step) → is_step n s ≡ true → (1 ≤ s.first) × (s.first ≤ s.number - 1)
first_bounds n s form =
    let a = and_true _ (list_all (is_turn n s.number) s.turns) form in
    let b = and_true _ (is_between 1 (s.number - 1) s.first) a.0 in
    let c = and_true (nat_le 1 s.first) (nat_le s.first (s.number - 1)) b.1 in
    (leb-true 1 s.first c.0, leb-true s.first (s.number - 1) c.1)

pub turn_bounds : (n : ℕ) (s : Step) (i : ℕ) (t : Turn) → is_step n s ≡ true → i < length s.turns → t ≡ get_or s.turns i t → (1 ≤ t.with) × (t.with ≤ s.number - 1)
turn_bounds n s i t form lt is =
    let a = and_true _ (list_all (is_turn n s.number) s.turns) form in
    let turn : is_turn n s.number t ≡ true = ap (is_turn n s.number) is ∙ all_at (is_turn n s.number) s.turns i t a.1 lt in
    let b = and_true _ (is_between 1 (s.number - 1) t.with) turn in
    let c = and_true (nat_le 1 t.with) (nat_le t.with (s.number - 1)) b.1 in
    (leb-true 1 t.with c.0, leb-true t.with (s.number - 1) c.1)

-- the literal of a turn
pub turn_literal : (n : ℕ) (s : Step) (i : ℕ) (t : Turn) → is_step n s ≡ true → i < length s.turns → t ≡ get_or s.turns i t → is_literal n t.lit ≡ true
turn_literal n s i t form lt is =
    let a = and_true _ (list_all (is_turn n s.number) s.turns) form in
    let turn : is_turn n s.number t ≡ true = ap (is_turn n s.number) is ∙ all_at (is_turn n s.number) s.turns i t a.1 lt in
    (and_true (is_literal n t.lit) (is_between 1 (s.number - 1) t.with) turn).0

-- one turn more is marked
pub turn_marked : (F : Cnf) (k first count name : ℕ) (turns : List Turn) (i : ℕ) (t : Turn) (known before : List ℕ) (marks : List Bool) (table : List ℕ) → i < length turns → t ≡ get_or turns i t
    → AreMarked F k first count (t.with ∷ ((name ∷ map (λ (u : Turn). u.with) (take i turns)) ++ known)) before marks table
    → AreMarked F k first count ((name ∷ map (λ (u : Turn). u.with) (take (i + 1) turns)) ++ known) before marks table
turn_marked F k first count name turns i t known before marks table lt is h =
    known_same F k first count _ _ before marks table (λ j.
    let ns : List ℕ = map (λ (u : Turn). u.with) (take i turns) in
    let more : map (λ (u : Turn). u.with) (take (i + 1) turns) ≡ ns ++ t.with ∷ [] = with_more turns i t lt is in
    moved (t.with == j) (name == j) (among ns j) (among known j) (among_both ns known j)
    (ap (λ (ms : List ℕ). among (ms ++ known) j) more ∙ among_both (ns ++ t.with ∷ []) known j ∙ ap (λ (b : Bool). b || among known j) (among_both ns (t.with ∷ []) j))) h
  where
    moved : {x y : Bool} (a b c d : Bool) → x ≡ (c || d) → y ≡ ((c || (a || false)) || d) → (a || (b || x)) ≡ (b || y)
    moved true true c d e f = refl
    moved true false true d e f = sym f
    moved true false false d e f = sym f
    moved false true c d e f = refl
    moved false false true d e f = e ∙ sym f
    moved false false false d e f = e ∙ sym f

    with_more : (us : List Turn) (n : ℕ) (u : Turn) → n < length us → u ≡ get_or us n u → map (λ (w : Turn). w.with) (take (n + 1) us) ≡ map (λ (w : Turn). w.with) (take n us) ++ u.with ∷ []
    with_more us n u within is =
        ap (map (λ (w : Turn). w.with)) (take_more us n u within ∙ ap (λ (w : Turn). take n us ++ w ∷ []) (sym is)) ∙ map_push (λ (w : Turn). w.with) (take n us) u

-- THE LOOP

-- at first the last step alone is reached
pub last_reached : (F : Cnf) (k first : ℕ) (steps : List Step) (before : List ℕ) (marks : List Bool) → length F.clauses < first → counts_from first (map (λ (t : Step). t.number) steps) ≡ true → 0 < length steps
    → length before ≡ F.vars → marks ≡ replicate (length steps) false
    → AreMarked F k (first_number steps) (length steps) (reached_from (last_number steps) (drop (length steps) steps)) before marks before
last_reached F k first steps before marks past counts some size is =
    let last = last_is first steps counts some in
    let none : AreMarked F k first (length steps) (last_number steps ∷ []) before (replicate (length steps) false) before = record {
      marks_size = length-replicate (length steps) false;
      table_size = size;
      marked = λ i lt.
          (λ j. (i + 1 == length-replicate (length steps) false j) || get_or-replicate (length steps) i false false lt j)
          ∙ ap (λ (b : Bool). b || false) (same_end i (length steps) (last_number steps) first some last);
      blocked = λ v least most.
          sym (ap (λ (c : List ℤ). cond (mentions c v || false) k (slice_index before (v - 1))) (clause_past F (last_number steps) (omega (arith, last, past))));
    } in
    rw (first_is first steps counts some, drop_all (length steps) steps (omega arith), is) none
  where
    same_end : (i n last first : ℕ) → 0 < n → last ≡ first + (n - 1) → (i + 1 == n) ≡ (last == first + i)
    same_end i n last first some e = elim (cases_eq (i + 1) n) [
      | inl y ↦ eq-eqb (i + 1) n y ∙ sym (eq-eqb last (first + i) (omega (arith, y, e)))
      | inr o ↦ ne_eqb (i + 1) n o ∙ sym (ne_eqb last (first + i) (λ x. o (omega (arith, x, e, some))))
    ]

-- before a step
reached_more : (last : ℕ) (steps : List Step) (i j : ℕ) (s : Step) → j ≡ i + 1 → i < length steps → s ≡ get_or steps i s
    → reached_from last (drop i steps) ≡ cond (among (reached_from last (drop j steps)) s.number) (names_of s ++ reached_from last (drop j steps)) (reached_from last (drop j steps))
reached_more last steps i j s next lt is =
    ap (reached_from last) (drop_more steps i s lt ∙ (λ m. sym is m ∷ drop (sym next m) steps))

-- with a mark: what its chain names is marked too
pub names_marked : (F : Cnf) (k first : ℕ) (steps : List Step) (i j : ℕ) (s : Step) (before : List ℕ) (marks after : List Bool) (table later : List ℕ) → counts_from first (map (λ (t : Step). t.number) steps) ≡ true
    → j ≡ i + 1 → i < length steps → s ≡ get_or steps i s → is_reached marks i ≡ true
    → AreMarked F k (first_number steps) (length steps) (reached_from (last_number steps) (drop j steps)) before marks table
    → ((known : List ℕ) → AreMarked F k (first_number steps) (length steps) known before marks table → AreMarked F k (first_number steps) (length steps) (names_of s ++ known) before after later)
    → AreMarked F k (first_number steps) (length steps) (reached_from (last_number steps) (drop i steps)) before after later
names_marked F k first steps i j s before marks after table later counts next lt is marked h step =
    let number : s.number ≡ first_number steps + i = number_at first steps i s counts lt is ∙ ap (λ (n : ℕ). n + i) (sym (first_is first steps counts (omega (arith, lt)))) in
    let known : among (reached_from (last_number steps) (drop j steps)) s.number ≡ true = ap (among (reached_from (last_number steps) (drop j steps))) number ∙ sym (h.marked i lt) ∙ marked in
    rw (reached_more (last_number steps) steps i j s next lt is, known) (step (reached_from (last_number steps) (drop j steps)) h)

-- marking, told of other names for the numbers and marks
pub names_as : (F : Cnf) (k f g m n : ℕ) (names known before : List ℕ) (xs ys after : List Bool) (table later : List ℕ) → f ≡ g → m ≡ n → xs ≡ ys
    → (AreMarked F k f m known before xs table → AreMarked F k f m (names ++ known) before after later)
    → AreMarked F k g n known before ys table → AreMarked F k g n (names ++ known) before after later
names_as F k f g m n names known before xs ys after table later e d x step h =
    subst (λ (q : ℕ). AreMarked F k q n (names ++ known) before after later) e
    (subst (λ (q : ℕ). AreMarked F k f q (names ++ known) before after later) d
    (step (subst (λ (q : ℕ). AreMarked F k q m known before xs table) (sym e) (subst (λ (q : ℕ). AreMarked F k g q known before xs table) (sym d)
    (subst (λ (q : List Bool). AreMarked F k g n known before q table) (sym x) h)))))

-- and without one
pub none_marked : (F : Cnf) (k first : ℕ) (steps : List Step) (i j : ℕ) (s : Step) (before : List ℕ) (marks : List Bool) (table : List ℕ) → counts_from first (map (λ (t : Step). t.number) steps) ≡ true
    → j ≡ i + 1 → i < length steps → is_reached marks i ≡ false
    → AreMarked F k (first_number steps) (length steps) (reached_from (last_number steps) (drop j steps)) before marks table
    → AreMarked F k (first_number steps) (length steps) (reached_from (last_number steps) (drop i steps)) before marks table
none_marked F k first steps i j d before marks table counts next lt marked h =
    let s : Step = get_or steps i d in
    let is : s ≡ get_or steps i s = get_or_default steps i d s lt in
    let number : s.number ≡ first_number steps + i = number_at first steps i s counts lt is ∙ ap (λ (n : ℕ). n + i) (sym (first_is first steps counts (omega (arith, lt)))) in
    let known : among (reached_from (last_number steps) (drop j steps)) s.number ≡ false = ap (among (reached_from (last_number steps) (drop j steps))) number ∙ sym (h.marked i lt) ∙ marked in
    rw (reached_more (last_number steps) steps i j s next lt is, known) h

-- so in the end the table tells what the round blocks
pub round_marked : (F : Cnf) (k first : ℕ) (steps : List Step) (before : List ℕ) (marks : List Bool) (table : List ℕ) → is_refutation steps ≡ true → length before ≡ F.vars
    → AreMarked F k first (length steps) (reached_from (last_number steps) steps) before marks table → BlocksRound F k (record { steps = steps }) before table
round_marked F k first [] before marks table whole size h = absurd (let f : ⊥ = cc in f)
round_marked F k first (s ∷ later) before marks table whole size h = record {
  size = h.table_size ∙ sym size;
  told = λ v least most.
      h.blocked v least most ∙ ap (λ (b : Bool). cond b k (slice_index before (v - 1)))
      (used_same F (record { steps = s ∷ later }) (reached_from (last_number (s ∷ later)) (s ∷ later)) v (same_reached s later)
      ∙ ap (λ (b : Bool). b && variable_occurs F (used_positions F (record { steps = s ∷ later })) v) (sym whole));
}
