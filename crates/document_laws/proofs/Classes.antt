-- The checks of the classes, under P and on the formula without P.
use Rattle.std.proofs.Common.{◌≡◌, ℕ, Bool, true, false, not, ◌&&◌, ◌||◌, ◌==◌, cond, List, map, refl, sym, ◌∙◌, ap, inl, inr, ℤ, pos, Option, Some, None}
use Rattle.std.specs.Prelude.{nat_lt, int_lt, ◌-ℤ◌, ◌*ℤ◌}
use Rattle.std.specs.List.{list_any}
use Rattle.std.specs.Ordering.{int_eq}
use Rattle.std.proofs.lemmas.Bool.{cases_Bool, not-true}
use Rattle.lk_model.specs.Lists.{among, sum_of, is_zero, is_nonzero}
use Rattle.lk_model.specs.Formulas.Literal.{variable, complement, contains, mentions}
use Rattle.lk_model.specs.Formulas.Formula.{Cnf, clause_at, variables_to, variable_occurs}
use Rattle.lk_model.specs.Formulas.Crossed.{Variables, no_variable, formula_without}
use Rattle.lk_model.specs.Formulas.Balance.{balance_in}
use Rattle.lk_model.specs.Formulas.Assignment.{assignment_of, makes_true}
use Rattle.lk_model.specs.Documents.Documents.{pair_of, own_of, row_of, dual_of, unit_of, duals_at, shares_at}
use Rattle.lk_model.specs.Checks.Check.{fails, line_fails, is_kept_with}
use Rattle.lk_model.specs.Checks.PureChecks.{bad_pair}
use Rattle.lk_model.specs.Checks.MatchingChecks.{bad_owner, bad_row}
use Rattle.lk_model.specs.Checks.LinearChecks.{bad_dual, bad_balance, bad_unit}
use Rattle.lk_model.specs.declared.document.Pair.{Pair}
use Rattle.lk_model.specs.declared.document.Own.{Own}
use Rattle.lk_model.specs.declared.document.MatchRow.{MatchRow}
use Rattle.lk_model.specs.declared.document.Dual.{Dual}
use Rattle.lk_model.specs.declared.document.Share.{Share}
use Rattle.lk_model.specs.declared.document.Unit.{Unit}
use Rattle.lk_model.specs.declared.document.DoneDocument.{DoneDocument}
use Rattle.lk_model.specs.declared.verdict.Kind.TheVariants.{BadOwner, BadPair, BadRow, BadDual, BadBalance, BadUnit}
use Rattle.lk_model.specs.Formulas.Protected.{SetsNone}
use Rattle.lk_model.specs.Formulas.PureRun.{occurs_outside}
use Rattle.lk_model.proofs.Booleans.{and_true}
use Rattle.lk_model.proofs.Literals.{variable_complement}
use Rattle.kernel_laws.proofs.Crossing.{same_positions, clause_without, mentions_crossed, occurs_without}
use Rattle.kernel_laws.proofs.Tests.{any_same}
use Rattle.document_laws.specs.Without.{document_without}
use Rattle.document_laws.proofs.Autarkies.{owns_crossed, held_crossed}

-- LINES

-- a line that is wanted or not fails in the same way where it does if it is wanted
line_same : {X : Type 0} (wanted : Bool) (o : Option X) (a b : X → Bool) → (wanted ≡ true → (x : X) → a x ≡ b x) → line_fails wanted o a ≡ line_fails wanted o b
line_same wanted None a b h = refl
line_same true (Some x) a b h = h refl x
line_same false (Some x) a b h = refl

-- so at a variable, where it is wanted for those outside P that occur
line_without : {X : Type 0} (F : Cnf) (P : Variables) (kept : List ℕ) (v : ℕ) (o : Option X) (a b : X → Bool)
    → (P v ≡ false → variable_occurs F kept v ≡ true → (x : X) → a x ≡ b x)
    → line_fails (occurs_outside P F kept v) o a ≡ line_fails (variable_occurs (formula_without F P) kept v) o b
line_without F P kept v o a b h =
    line_same (occurs_outside P F kept v) o a b (λ e. let both = and_true (not (P v)) (variable_occurs F kept v) e in h (not-true (P v) both.0) both.1)
    ∙ ap (λ (w : Bool). line_fails w o b) (sym (occurs_without F P kept v))

-- a clause contains a literal outside P where it does without P
held_without : (F : Cnf) (P : Variables) (p : ℕ) (l : ℤ) → P (variable l) ≡ false → contains (clause_at F p) l ≡ contains (clause_at (formula_without F P) p) l
held_without F P p l n = sym (ap (λ (c : List ℤ). contains c l) (clause_without F P p) ∙ held_crossed P (clause_at F p) l n)

-- and its complement
complement_held : (F : Cnf) (P : Variables) (p v : ℕ) → P v ≡ false → contains (clause_at F p) (complement (pos v)) ≡ contains (clause_at (formula_without F P) p) (complement (pos v))
complement_held F P p v n = let is : variable (complement (pos v)) ≡ v = variable_complement (pos v) in held_without F P p (complement (pos v)) (ap P is ∙ n)

-- and it mentions a variable outside P where it does without P
mentioned_without : (F : Cnf) (P : Variables) (p v : ℕ) → P v ≡ false → mentions (clause_at F p) v ≡ mentions (clause_at (formula_without F P) p) v
mentioned_without F P p v n =
    sym (ap (λ (c : List ℤ). mentions c v) (clause_without F P p) ∙ mentions_crossed P (clause_at F p) v ∙ ap (λ (b : Bool). not b && mentions (clause_at F p) v) n)

-- PAIRS, OWN LINES AND ROWS

pub pair_same : (F : Cnf) (P : Variables) (d : DoneDocument) (pairs : List Pair) → bad_pair P F d pairs ≡ bad_pair no_variable (formula_without F P) (document_without d P) pairs
unfolding bad_pair
pair_same F P d pairs = λ i. fails BadPair (variables_to F.vars) (λ v. at_variable v i)
  where
    at_variable : (v : ℕ) → line_fails (occurs_outside P F d.kept v) (pair_of pairs v) (λ q.
        not (is_kept_with F d.kept q.with (λ c. contains c (pos v))) || not (is_kept_with F d.kept q.against (λ c. contains c (complement (pos v)))))
        ≡ line_fails (variable_occurs (formula_without F P) d.kept v) (pair_of pairs v) (λ q.
        not (is_kept_with (formula_without F P) d.kept q.with (λ c. contains c (pos v))) || not (is_kept_with (formula_without F P) d.kept q.against (λ c. contains c (complement (pos v)))))
    at_variable v = line_without F P d.kept v (pair_of pairs v) _ _ (λ n there q. λ i.
        not (among d.kept q.with && held_without F P q.with (pos v) n i) || not (among d.kept q.against && complement_held F P q.against v n i))

pub owner_same : (F : Cnf) (P : Variables) (d : DoneDocument) (own : List Own) → SetsNone P (assignment_of d.set)
    → bad_owner F d own ≡ bad_owner (formula_without F P) (document_without d P) own
unfolding bad_owner
owner_same F P d own none = λ i. fails BadOwner (sym (same_positions F P) i) (λ p. line_fails (not (among d.kept p)) (own_of own p) (λ o.
    not (owned p o.var i) || list_any (λ (earlier : Own). nat_lt earlier.pos p && earlier.var == o.var) own))
  where
    owned : (p v : ℕ) → list_any (λ l. makes_true (assignment_of d.set) l && (variable l == v)) (clause_at F p)
        ≡ list_any (λ l. makes_true (assignment_of d.set) l && (variable l == v)) (clause_at (formula_without F P) p)
    owned p v = sym (ap (λ (c : List ℤ). list_any (λ l. makes_true (assignment_of d.set) l && (variable l == v)) c) (clause_without F P p)
        ∙ owns_crossed P (assignment_of d.set) none (clause_at F p) v)

pub row_same : (F : Cnf) (P : Variables) (d : DoneDocument) (rows : List MatchRow) → bad_row P F d rows ≡ bad_row no_variable (formula_without F P) (document_without d P) rows
unfolding bad_row
row_same F P d rows = λ i. fails BadRow (variables_to F.vars) (λ v. at_variable v i)
  where
    at_variable : (v : ℕ) → line_fails (occurs_outside P F d.kept v) (row_of rows v) (λ r.
        not (is_kept_with F d.kept r.own (λ c. mentions c v))
        || not (is_kept_with F d.kept r.escape (λ c. mentions c v))
        || list_any (λ (earlier : MatchRow). nat_lt earlier.var v && earlier.own == r.own) rows
        || list_any (λ (w : MatchRow). w.own == r.escape && not (nat_lt w.rank r.rank)) rows)
        ≡ line_fails (variable_occurs (formula_without F P) d.kept v) (row_of rows v) (λ r.
        not (is_kept_with (formula_without F P) d.kept r.own (λ c. mentions c v))
        || not (is_kept_with (formula_without F P) d.kept r.escape (λ c. mentions c v))
        || list_any (λ (earlier : MatchRow). nat_lt earlier.var v && earlier.own == r.own) rows
        || list_any (λ (w : MatchRow). w.own == r.escape && not (nat_lt w.rank r.rank)) rows)
    at_variable v = line_without F P d.kept v (row_of rows v) _ _ (λ n there r. λ i.
        not (among d.kept r.own && mentioned_without F P r.own v n i)
        || not (among d.kept r.escape && mentioned_without F P r.escape v n i)
        || list_any (λ (earlier : MatchRow). nat_lt earlier.var v && earlier.own == r.own) rows
        || list_any (λ (w : MatchRow). w.own == r.escape && not (nat_lt w.rank r.rank)) rows)

-- DUALS AND UNITS

pub dual_same : (F : Cnf) (P : Variables) (d : DoneDocument) (dual : List Dual) → bad_dual F d dual ≡ bad_dual (formula_without F P) (document_without d P) dual
unfolding bad_dual
dual_same F P d dual = λ i. fails BadDual (sym (same_positions F P) i) (λ p. line_fails (among d.kept p) (dual_of dual p) (λ y. int_lt y.y (pos 1)))

-- outside P the balances are the same
balance_same : (F : Cnf) (P : Variables) (ys : List (ℕ × ℤ)) (v : ℕ) → P v ≡ false → balance_in F ys v ≡ balance_in (formula_without F P) ys v
balance_same F P ys v n = λ i. sum_of (map (λ (p, y). y *ℤ (cond (held_without F P p (pos v) n i) (pos 1) (pos 0) -ℤ cond (complement_held F P p v n i) (pos 1) (pos 0))) ys)

pub balanced_same : (F : Cnf) (P : Variables) (d : DoneDocument) (dual : List Dual) → bad_balance P F d dual ≡ bad_balance no_variable (formula_without F P) (document_without d P) dual
unfolding bad_balance
balanced_same F P d dual = λ i. fails BadBalance (variables_to F.vars) (λ v. at_variable v i)
  where
    at_variable : (v : ℕ) → (occurs_outside P F d.kept v && is_nonzero (balance_in F (duals_at dual) v))
        ≡ (variable_occurs (formula_without F P) d.kept v && is_nonzero (balance_in (formula_without F P) (duals_at dual) v))
    at_variable v = elim (cases_Bool (P v)) [
      | inl y ↦ rw (occurs_without F P d.kept v, y) refl
      | inr n ↦ ap (λ z. occurs_outside P F d.kept v && is_nonzero z) (balance_same F P (duals_at dual) v n)
          ∙ ap (λ (b : Bool). b && is_nonzero (balance_in (formula_without F P) (duals_at dual) v)) (sym (occurs_without F P d.kept v))
    ]

-- the balance of a unit in a variable that occurs is not the wanted one
abbrev unit_off : Variables → Cnf → List ℕ → Unit → ℕ → ℕ → Bool
unit_off P F kept u v w = occurs_outside P F kept w && not (int_eq (balance_in F (shares_at u) w) (cond (w == v) u.d (pos 0)))

-- it is the same without P
unit_at : (F : Cnf) (P : Variables) (kept : List ℕ) (u : Unit) (v w : ℕ) → unit_off P F kept u v w ≡ unit_off no_variable (formula_without F P) kept u v w
unit_at F P kept u v w = elim (cases_Bool (P w)) [
  | inl y ↦ rw (occurs_without F P kept w, y) refl
  | inr n ↦ (λ i. sym (occurs_without F P kept w) i && not (int_eq (balance_same F P (shares_at u) w n i) (cond (w == v) u.d (pos 0))))
]

pub unit_same : (F : Cnf) (P : Variables) (d : DoneDocument) (units : List Unit) → bad_unit P F d units ≡ bad_unit no_variable (formula_without F P) (document_without d P) units
unfolding bad_unit
unit_same F P d units = λ i. fails BadUnit (variables_to F.vars) (λ v. at_variable v i)
  where
    at_variable : (v : ℕ) → line_fails (occurs_outside P F d.kept v) (unit_of units v) (λ u.
        is_zero u.d || list_any (λ (s : Share). not (among d.kept s.pos)) u.shares || list_any (λ w. unit_off P F d.kept u v w) (variables_to F.vars))
        ≡ line_fails (variable_occurs (formula_without F P) d.kept v) (unit_of units v) (λ u.
        is_zero u.d || list_any (λ (s : Share). not (among d.kept s.pos)) u.shares || list_any (λ w. unit_off no_variable (formula_without F P) d.kept u v w) (variables_to F.vars))
    at_variable v = line_without F P d.kept v (unit_of units v) _ _ (λ n there u.
        ap (λ (b : Bool). is_zero u.d || list_any (λ (s : Share). not (among d.kept s.pos)) u.shares || b)
        (any_same (λ w. unit_off P F d.kept u v w) (λ w. unit_off no_variable (formula_without F P) d.kept u v w) (variables_to F.vars) (unit_at F P d.kept u v)))
