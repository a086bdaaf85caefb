-- Clauses over protected variables, beside the kept clauses and beside the formula.
use Rattle.std.proofs.Common.{◌≡◌, ◌∙◌, ℕ, zero, suc, ◌<◌, Bool, true, false, not, ◌&&◌, List, [], ◌∷◌, length, map, Option, Some, None, refl, ap, sym, ℤ, pos, negsuc, inl, inr, arith}
use Rattle.std.specs.Prelude.{◌↔◌, IsTrue, IsNone, nat_le, slice_index_or, unwrap_or}
use Rattle.std.specs.List.{list_all}
use Rattle.std.proofs.lemmas.Bool.{and_from, le-leb}
use Rattle.std.proofs.lemmas.List.Folds.{list_all-append, list_all-map}
use Rattle.lk_model.specs.Lists.{among, is_between}
use Rattle.lk_model.specs.Formulas.Literal.{variable, is_literal}
use Rattle.lk_model.specs.Formulas.Formula.{Cnf, clause_at, clauses_at}
use Rattle.lk_model.specs.Formulas.Assignment.{Assignment, makes_true, satisfies, IsModel, extended, extended_value}
use Rattle.lk_model.specs.Formulas.Crossed.{Variables}
use Rattle.lk_model.specs.Formulas.Lean.{all_of}
use Rattle.lk_model.specs.Formulas.Protected.{ReducesBy}
use Rattle.lk_model.specs.declared.class.Class.{Class}
use Rattle.lk_model.proofs.Booleans.{and_true, or_true, or_left, or_right}
use Rattle.lk_model.proofs.ListTests.{all_at, one_number, each_number}
use Rattle.lk_model.proofs.Rising.{bounded}
use Rattle.command_endings.specs.Commands.Solve.{HasModel}
use Rattle.workbench.specs.Headline.{with_clauses, AreOver}

-- MODELS BY THE LIST OF CLAUSES

all_from : (t : List ℤ → Bool) (cs : List (List ℤ)) → ((k : ℕ) → k < length cs → t (slice_index_or cs k []) ≡ true) → list_all t cs ≡ true
all_from t [] h = refl
all_from t (c ∷ cs) h = and_from (t c) (list_all t cs) (h 0 (omega arith)) (all_from t cs (λ k lt. h (suc k) (omega (arith, lt))))

position : (F : Cnf) (p : ℕ) → 0 < p → nat_le p (length F.clauses) ≡ true → all_of F p ≡ true
position F p some least = and_from (nat_le 1 p) (nat_le p (length F.clauses)) (le-leb 1 p (omega (arith, some))) least

listed : (F : Cnf) (φ : Assignment) → IsModel F (all_of F) φ → list_all (satisfies φ) F.clauses ≡ true
listed F φ m = all_from (satisfies φ) F.clauses (λ k lt. m (suc k) (position F (suc k) (omega arith) (le-leb (suc k) (length F.clauses) (omega (arith, lt)))))

from_list : (F : Cnf) (φ : Assignment) → list_all (satisfies φ) F.clauses ≡ true → IsModel F (all_of F) φ
from_list F φ all zero there = absurd (let f : ⊥ = cc there in f)
from_list F φ all (suc k) there = all_at (satisfies φ) F.clauses k [] all (let most = (and_true (nat_le 1 (suc k)) (nat_le (suc k) (length F.clauses)) there).1 in grind (arith, most))

-- of the clauses at positions
abbrev at_each : Cnf → Assignment → ℕ → Bool
at_each F φ p = satisfies φ (clause_at F p)

kept_listed : (F : Cnf) (kept : List ℕ) (φ : Assignment) → IsModel F (among kept) φ → list_all (satisfies φ) (map (clause_at F) kept) ≡ true
kept_listed F kept φ m = list_all-map (satisfies φ) (clause_at F) kept ∙ each_number (at_each F φ) kept m

from_kept : (F : Cnf) (kept : List ℕ) (φ : Assignment) → list_all (satisfies φ) (map (clause_at F) kept) ≡ true → IsModel F (among kept) φ
from_kept F kept φ all p there = one_number (at_each F φ) kept p (sym (list_all-map (satisfies φ) (clause_at F) kept) ∙ all) there

-- a model of both is one of each
both_listed : (F : Cnf) (more : List (List ℤ)) (φ : Assignment) → IsModel (with_clauses F more) (all_of (with_clauses F more)) φ → (list_all (satisfies φ) F.clauses ≡ true) × (list_all (satisfies φ) more ≡ true)
both_listed F more φ m =
    and_true (list_all (satisfies φ) F.clauses) (list_all (satisfies φ) more)
    (sym (list_all-append (satisfies φ) F.clauses more) ∙ listed (with_clauses F more) φ m)

from_both : (F : Cnf) (more : List (List ℤ)) (φ : Assignment) → list_all (satisfies φ) F.clauses ≡ true → list_all (satisfies φ) more ≡ true → IsModel (with_clauses F more) (all_of (with_clauses F more)) φ
from_both F more φ of_formula of_more =
    from_list (with_clauses F more) φ
    (list_all-append (satisfies φ) F.clauses more ∙ and_from (list_all (satisfies φ) F.clauses) (list_all (satisfies φ) more) of_formula of_more)

-- WHERE PROTECTED VARIABLES HAVE THEIR VALUES

-- the variables of the set have the value that the one assignment gives, or false
module _ (P : Variables) (n : ℕ) (ψ χ : Assignment) (same : (v : ℕ) → P v ≡ true → is_between 1 n v ≡ true → χ v ≡ Some (unwrap_or (ψ v) false)) where
  abbrev is_over : ℤ → Bool
  is_over l = is_literal n l && P (variable l)

  falsified : (o : Option Bool) → not (unwrap_or o true) ≡ true → not (unwrap_or o false) ≡ true
  falsified None e = absurd (let f : ⊥ = cc e in f)
  falsified (Some b) e = e

  still_true : (l : ℤ) → is_over l ≡ true → makes_true ψ l ≡ true → makes_true χ l ≡ true
  still_true (pos v) over h = let o = and_true (is_between 1 n v) (P v) over in rw (same v o.1 o.0) h
  still_true (negsuc k) over h = let o = and_true (is_between 1 n (suc k)) (P (suc k)) over in rw (same (suc k) o.1 o.0) (falsified (ψ (suc k)) h)

  still_satisfied : (c : List ℤ) → list_all is_over c ≡ true → satisfies ψ c ≡ true → satisfies χ c ≡ true
  still_satisfied [] over h = absurd (let f : ⊥ = cc h in f)
  still_satisfied (l ∷ c) over h =
      let o = and_true (is_over l) (list_all is_over c) over in
      elim (or_true (makes_true ψ l) (satisfies ψ c) h) [
        | inl here ↦ or_left (makes_true χ l) (satisfies χ c) (still_true l o.0 here)
        | inr later ↦ or_right (makes_true χ l) (satisfies χ c) (still_satisfied c o.1 later)
      ]

  pub all_still : (cs : List (List ℤ)) → AreOver P n cs → list_all (satisfies ψ) cs ≡ true → list_all (satisfies χ) cs ≡ true
  all_still [] over h = refl
  all_still (c ∷ cs) over h =
      let o = and_true (list_all is_over c) (list_all (λ c. list_all is_over c) cs) over in
      let s = and_true (satisfies ψ c) (list_all (satisfies ψ) cs) h in
      and_from (satisfies χ c) (list_all (satisfies χ) cs) (still_satisfied c o.0 s.0) (all_still cs o.1 s.1)

-- an extended assignment that is a model satisfies these clauses too
pub carried : (P : Variables) (F K : Cnf) (φ ψ : Assignment) (more : List (List ℤ)) → ((v : ℕ) → IsTrue (P v) → extended_value φ ψ v ≡ unwrap_or (ψ v) false) → IsModel F (all_of F) (extended φ ψ F.vars) → AreOver P F.vars more
    → IsModel (with_clauses K more) (all_of (with_clauses K more)) ψ → IsModel (with_clauses F more) (all_of (with_clauses F more)) (extended φ ψ F.vars)
carried P F K φ ψ more keep model over m =
    from_both F more (extended φ ψ F.vars) (listed F (extended φ ψ F.vars) model)
    (all_still P F.vars ψ (extended φ ψ F.vars) (λ v there inside. rw inside (ap (λ (b : Bool). Some b) (keep v there))) more over (both_listed K more ψ m).1)

-- where φ sets no variable of the set, these keep their values
unset_value : (φ ψ : Assignment) (v : ℕ) → IsNone (φ v) → extended_value φ ψ v ≡ unwrap_or (ψ v) false
unset_value φ ψ v none = rw none refl

pub same_models : (P : Variables) (class : Class) (F : Cnf) (kept : List ℕ) (φ : Assignment) (more : List (List ℤ)) → ReducesBy P class F kept φ → AreOver P F.vars more
    → HasModel (with_clauses (clauses_at F kept) more) ↔ HasModel (with_clauses F more)
same_models P class F kept φ more r over = (
  λ m.
      let k = both_listed (clauses_at F kept) more m.0 m.1 in (
        extended φ m.0 F.vars,
        carried P F (clauses_at F kept) φ m.0 more (λ v there. unset_value φ m.0 v (r.autarky.0 v there)) (r.models m.0 (from_kept F kept m.0 k.0)) over m.1,
      ),
  λ m.
      let f = both_listed F more m.0 m.1 in
      let inside : IsModel F (among kept) m.0 = λ p there.
      let b = bounded 0 (length F.clauses) kept p r.kernel.positions there in
      from_list F m.0 f.0 p (position F p b.0 (le-leb p (length F.clauses) b.1)) in (
        m.0,
        from_both (clauses_at F kept) more m.0 (kept_listed F kept m.0 inside) f.1,
      ),
)
