-- What holds of the literals of a pure run, and of the positions that they leave untouched.
use Rattle.std.proofs.Common.{◌≡◌, ℕ, ◌∙◌, Bool, true, false, not, ◌&&◌, ◌||◌, ◌==◌, List, [], ◌∷◌, ◌++◌, append_assoc, refl, sym, ap, subst, ℤ, Some, None, inl, inr}
use Rattle.std.specs.List.{list_any, list_all}
use Rattle.std.proofs.lemmas.Bool.{both_ways, cases_Bool, not-true, eq-eqb, eqb-true, false_from_ne_true}
use Rattle.std.proofs.lemmas.List.{append-nil}
use Rattle.std.proofs.lemmas.List.Folds.{list_any-append}
use Rattle.std.proofs.Math.Bool.{or-false, and-true}
use Rattle.lk_model.specs.Lists.{among}
use Rattle.lk_model.specs.Formulas.Literal.{variable, complement, contains, mentions, is_literal}
use Rattle.lk_model.specs.Formulas.Formula.{Cnf, clause_at, positions_of, literal_occurs}
use Rattle.lk_model.specs.Formulas.Assignment.{assignment_of, touches}
use Rattle.lk_model.specs.Formulas.Autarky.{HasEarlier, IsPureAutarky}
use Rattle.lk_model.specs.Formulas.Lean.{are_positions, all_of}
use Rattle.lk_model.specs.Formulas.PureRun.{untouched, least_pure, RunsOn, IsPureRun}
use Rattle.lk_model.proofs.Booleans.{and_true, or_true, or_left, or_right}
use Rattle.lk_model.proofs.Founds.{filtered_rise}
use Rattle.lk_model.proofs.Counting.{among-filter}
use Rattle.lk_model.proofs.ListTests.{passes_one, passing}
use Rattle.kernel_laws.proofs.Occurrences.{in_positions}
use Rattle.kernel_laws.proofs.ApartLiterals.{AreApart, distinct, true_is}
use Rattle.pure_laws.proofs.PureLiterals.{least_literal, least_is_pure, no_complement, touches_is, touches_more, touches_none, mentions_is}

-- WHAT IS UNTOUCHED

-- a position of the formula is among the untouched ones where no literal touches its clause
untouched_is : (F : Cnf) (order : List ℤ) (p : ℕ) → all_of F p ≡ true → among (untouched F order) p ≡ not (touches (assignment_of order) (clause_at F p))
untouched_is F order p within =
    among-filter (λ q. not (touches (assignment_of order) (clause_at F q))) (positions_of F) p
    ∙ ap (λ (b : Bool). not (touches (assignment_of order) (clause_at F p)) && b) (in_positions F p within)
    ∙ and-true (not (touches (assignment_of order) (clause_at F p)))

-- the order touches exactly the other clauses
pub touched_is : (F : Cnf) (order : List ℤ) (p : ℕ) → all_of F p ≡ true → touches (assignment_of order) (clause_at F p) ≡ not (among (untouched F order) p)
touched_is F order p within = sym (ap not (untouched_is F order p within) ∙ not_not (touches (assignment_of order) (clause_at F p)))
  where
    not_not : (b : Bool) → not (not b) ≡ b
    not_not true = refl
    not_not false = refl

-- no literal of the order touches a clause that is among the untouched ones
not_touched : (F : Cnf) (order : List ℤ) (p : ℕ) → among (untouched F order) p ≡ true → touches (assignment_of order) (clause_at F p) ≡ false
not_touched F order p there =
    not-true _ (and_true (not (touches (assignment_of order) (clause_at F p))) (among (positions_of F) p)
    (sym (among-filter (λ q. not (touches (assignment_of order) (clause_at F q))) (positions_of F) p) ∙ there)).0

-- the untouched positions are positions
pub untouched_rise : (F : Cnf) (order : List ℤ) → are_positions F (untouched F order) ≡ true
untouched_rise F order = filtered_rise _ (λ p. not (touches (assignment_of order) (clause_at F p)))

-- a run leaves no pure literal
pub run_leaves : (F : Cnf) (done order : List ℤ) → RunsOn F done order → least_pure F (untouched F (done ++ order)) ≡ None
run_leaves F done [] h = subst (λ (ls : List ℤ). least_pure F (untouched F ls) ≡ None) (sym (append-nil done)) h
run_leaves F done (l ∷ order) h =
    subst (λ (ls : List ℤ). least_pure F (untouched F ls) ≡ None) (append_assoc done (l ∷ []) order) (run_leaves F (done ++ l ∷ []) order h.1)

-- THE NEXT LITERAL

-- a test over a list with one more at its end
any_more : (t : ℤ → Bool) (ls : List ℤ) (l : ℤ) → list_any t (ls ++ l ∷ []) ≡ (list_any t ls || t l)
any_more t ls l = list_any-append t ls (l ∷ []) ∙ ap (λ (b : Bool). list_any t ls || b) (or-false (t l))

-- an untouched clause of the formula does not contain the complement of the next literal
next_alone : (F : Cnf) (done : List ℤ) (l : ℤ) (p : ℕ) → least_pure F (untouched F done) ≡ Some l → all_of F p ≡ true → touches (assignment_of done) (clause_at F p) ≡ false
    → contains (clause_at F p) (complement l) ≡ false
next_alone F done l p e within free = no_complement F (untouched F done) l p (least_is_pure F (untouched F done) l e) (untouched_is F done p within ∙ ap not free)

-- the variable of the next literal is not set yet
fresh : (F : Cnf) (done : List ℤ) (l : ℤ) → least_pure F (untouched F done) ≡ Some l → mentions done (variable l) ≡ false
fresh F done l e =
    let some = and_true (literal_occurs F (untouched F done) l) _ (least_is_pure F (untouched F done) l e) in
    let w = passing (λ p. contains (clause_at F p) l) (untouched F done) some.0 in
    let none = sym (touches_is done (clause_at F w.0)) ∙ not_touched F done w.0 w.1 in
    false_from_ne_true (mentions done (variable l)) (λ m.
    both_ways (list_any (λ k. mentions done (variable k)) (clause_at F w.0)) none (passes_one (λ k. mentions done (variable k)) (clause_at F w.0) l w.2 m))

-- no literal of the rest of the run is of a variable that is set
later_fresh : (F : Cnf) (done order : List ℤ) → RunsOn F done order → (v : ℕ) → mentions done v ≡ true → mentions order v ≡ false
later_fresh F done [] run v set = refl
later_fresh F done (l ∷ order) run v set = elim (cases_Bool (variable l == v)) [
  | inl y ↦ absurd (both_ways (mentions done v) (subst (λ (n : ℕ). mentions done n ≡ false) (eqb-true (variable l) v y) (fresh F done l run.0)) set)
  | inr y ↦
      let more : mentions (done ++ l ∷ []) v ≡ true = any_more (λ k. variable k == v) done l ∙ or_left (mentions done v) (variable l == v) set in
      rw (y, later_fresh F (done ++ l ∷ []) order run.1 v more) refl
]

-- the run has each variable once
apart_from : (F : Cnf) (done order : List ℤ) → RunsOn F done order → AreApart order
apart_from F done [] run = tt
apart_from F done (l ∷ order) run =
    let set : mentions (done ++ l ∷ []) (variable l) ≡ true = any_more (λ k. variable k == variable l) done l ∙ or_right (mentions done (variable l)) (variable l == variable l) (eq-eqb (variable l) (variable l) refl) in
    (later_fresh F (done ++ l ∷ []) order run.1 (variable l) set, apart_from F (done ++ l ∷ []) order run.1)

pub run_apart : (F : Cnf) (order : List ℤ) → IsPureRun F order → AreApart order
run_apart F order run = apart_from F [] order run

-- each literal is one over the variables
literals_from : (F : Cnf) (done order : List ℤ) → RunsOn F done order → list_all (is_literal F.vars) order ≡ true
literals_from F done [] run = refl
literals_from F done (l ∷ order) run = rw (least_literal F (untouched F done) l run.0, literals_from F (done ++ l ∷ []) order run.1) refl

pub run_literals : (F : Cnf) (order : List ℤ) → IsPureRun F order → list_all (is_literal F.vars) order ≡ true
run_literals F order run = literals_from F [] order run

-- WHAT IS TOUCHED CONTAINS A LITERAL OF THE RUN

-- each clause that the literals touch contains one of them
AreSatisfying : Cnf → List ℤ → Type 0
AreSatisfying F ls = (p : ℕ) → all_of F p ≡ true → touches (assignment_of ls) (clause_at F p) ≡ true → list_any (contains (clause_at F p)) ls ≡ true

-- at first nothing is touched
none_satisfying : (F : Cnf) → AreSatisfying F []
unfolding AreSatisfying
none_satisfying F p within t = absurd (both_ways (touches (assignment_of []) (clause_at F p)) (touches_none (clause_at F p)) t)

-- it stays so with the next literal
more_satisfying : (F : Cnf) (done : List ℤ) (l : ℤ) → least_pure F (untouched F done) ≡ Some l → AreSatisfying F done → AreSatisfying F (done ++ l ∷ [])
unfolding AreSatisfying
more_satisfying F done l e h p within t =
    let c = clause_at F p in
    any_more (contains c) done l
    ∙ elim (cases_Bool (touches (assignment_of done) c)) [
      | inl y ↦ or_left (list_any (contains c) done) (contains c l) (h p within y)
      | inr y ↦
          let there : mentions c (variable l) ≡ true = sym (touches_more done c l ∙ ap (λ (b : Bool). b || mentions c (variable l)) y) ∙ t in
          or_right (list_any (contains c) done) (contains c l) (sym (mentions_is c l (next_alone F done l p e within y)) ∙ there)
    ]

-- what passes among the literals of done passes among the earlier ones
AreAmong : List ℤ → List ℤ → Type 0
AreAmong done earlier = (t : ℤ → Bool) → list_any t done ≡ true → list_any t earlier ≡ true

-- so does what passes with the next literal
more_among : (done earlier : List ℤ) (l : ℤ) → AreAmong done earlier → AreAmong (done ++ l ∷ []) (l ∷ earlier)
unfolding AreAmong
more_among done earlier l h t e = elim (or_true (list_any t done) (t l) (sym (any_more t done l) ∙ e)) [
  | inl y ↦ or_right (t l) (list_any t earlier) (h t y)
  | inr y ↦ or_left (t l) (list_any t earlier) y
]

-- each clause with the complement of a literal of the run contains an earlier one
has_earlier : (F : Cnf) (done earlier order : List ℤ) → RunsOn F done order → AreSatisfying F done → AreAmong done earlier → HasEarlier F (all_of F) earlier order
unfolding AreSatisfying AreAmong
has_earlier F done earlier [] run h a = tt
has_earlier F done earlier (l ∷ order) run h a = (
  λ p within other. elim (cases_Bool (touches (assignment_of done) (clause_at F p))) [
    | inl y ↦ a (contains (clause_at F p)) (h p within y)
    | inr y ↦ absurd (both_ways (contains (clause_at F p) (complement l)) (next_alone F done l p run.0 within y) other)
  ],
  has_earlier F (done ++ l ∷ []) (l ∷ earlier) order run.1 (more_satisfying F done l run.0 h) (more_among done earlier l a),
)

pub run_earlier : (F : Cnf) (order : List ℤ) → IsPureRun F order → HasEarlier F (all_of F) [] order
unfolding AreAmong
run_earlier F order run = has_earlier F [] [] order run (none_satisfying F) (λ t e. e)

-- so its literals are a pure autarky of the formula
pub run_autarky : (F : Cnf) (order : List ℤ) → IsPureRun F order → IsPureAutarky F (all_of F) (assignment_of order)
run_autarky F order run =
    let a = run_apart F order run in
    record {
      order = order;
      once = distinct order a;
      true_literals = λ l. (λ e. true_is order l a ∙ e, λ e. sym (true_is order l a) ∙ e);
      earlier = run_earlier F order run;
    }
