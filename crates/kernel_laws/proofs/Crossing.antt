-- Clauses without the literals on variables of a set.
use Rattle.std.proofs.Common.{◌≡◌, ℕ, zero, suc, Bool, true, false, not, ◌&&◌, ◌||◌, ◌==◌, List, [], ◌∷◌, length, map, refl, ◌∙◌, ap, inl, inr, ℤ, slice_index_or, sym}
use Rattle.std.specs.List.{list_any}
use Rattle.std.proofs.lemmas.List.{length-map}
use Rattle.std.proofs.lemmas.Bool.{cases_Bool, eqb-true}
use Rattle.std.proofs.lemmas.Map.Views.{any-filter_same}
use Rattle.std.proofs.Math.Bool.{and-or_distrib_left, and-false}
use Rattle.lk_model.specs.Lists.{up_to}
use Rattle.lk_model.specs.Formulas.Literal.{variable, mentions}
use Rattle.lk_model.specs.Formulas.Formula.{Cnf, clause_at, positions_of, variable_occurs}
use Rattle.lk_model.specs.Formulas.Crossed.{Variables, crossed_out, formula_without}
use Rattle.lk_model.specs.Formulas.PureRun.{occurs_outside}
use Rattle.kernel_laws.proofs.Tests.{any_same}

-- the formula has as many clauses
pub same_count : (F : Cnf) (P : Variables) → length (formula_without F P).clauses ≡ length F.clauses
same_count F P = length-map F.clauses (crossed_out P)

-- and so the same positions
pub same_positions : (F : Cnf) (P : Variables) → positions_of (formula_without F P) ≡ positions_of F
same_positions F P = ap up_to (same_count F P)

-- its clause at a position is the crossed one
pub clause_without : (F : Cnf) (P : Variables) (p : ℕ) → clause_at (formula_without F P) p ≡ crossed_out P (clause_at F p)
clause_without F P zero = refl
clause_without F P (suc k) = at_index F.clauses k
  where
    at_index : (cs : List (List ℤ)) (i : ℕ) → slice_index_or (map (crossed_out P) cs) i [] ≡ crossed_out P (slice_index_or cs i [])
    at_index [] i = refl
    at_index (c ∷ cs) zero = refl
    at_index (c ∷ cs) (suc i) = at_index cs i

-- one of the literals left passes where one outside P does
pub any_crossed : (t : ℤ → Bool) (P : Variables) (c : List ℤ) → list_any t (crossed_out P c) ≡ list_any (λ l. not (P (variable l)) && t l) c
any_crossed t P [] = refl
any_crossed t P (l ∷ c) = elim (cases_Bool (P (variable l))) [
  | inl y ↦ rw y (any_crossed t P c)
  | inr n ↦ rw n (ap (λ (b : Bool). t l || b) (any_crossed t P c))
]

-- a test that fails on P is not changed by the crossing
pub any_kept : (t : ℤ → Bool) (P : Variables) (c : List ℤ) → ((l : ℤ) → P (variable l) ≡ true → t l ≡ false) → list_any t (crossed_out P c) ≡ list_any t c
any_kept t P c h = any_crossed t P c ∙ any_same (λ l. not (P (variable l)) && t l) t c (λ l. at_literal l)
  where
    at_literal : (l : ℤ) → (not (P (variable l)) && t l) ≡ t l
    at_literal l = elim (cases_Bool (P (variable l))) [
      | inl y ↦ rw (y, h l y) refl
      | inr n ↦ rw n refl
    ]

-- the variables left are those outside P
pub mentions_crossed : (P : Variables) (c : List ℤ) (v : ℕ) → mentions (crossed_out P c) v ≡ (not (P v) && mentions c v)
mentions_crossed P c v =
    any-filter_same (λ l. variable l == v) (λ l. not (P (variable l))) (not (P v)) (λ l e. ap (λ u. not (P u)) (eqb-true (variable l) v e)) c

-- a variable occurs there where it is one outside P that occurs
pub occurs_without : (F : Cnf) (P : Variables) (ps : List ℕ) (v : ℕ) → variable_occurs (formula_without F P) ps v ≡ occurs_outside P F ps v
occurs_without F P [] v = sym (and-false (not (P v)))
occurs_without F P (p ∷ ps) v =
    ap (λ (c : List ℤ). mentions c v || variable_occurs (formula_without F P) ps v) (clause_without F P p)
    ∙ ap (λ (b : Bool). b || variable_occurs (formula_without F P) ps v) (mentions_crossed P (clause_at F p) v)
    ∙ ap (λ (b : Bool). (not (P v) && mentions (clause_at F p) v) || b) (occurs_without F P ps v)
    ∙ sym (and-or_distrib_left (not (P v)) (mentions (clause_at F p) v) (variable_occurs F ps v))
