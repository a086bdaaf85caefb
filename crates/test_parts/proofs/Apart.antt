-- Literals on different variables are joinable.
use Rattle.std.proofs.Common.{◌≡◌, ℕ, zero, suc, ◌<◌, Bool, true, false, not, ◌&&◌, nat_lt, List, [], ◌∷◌, ap, sym, ◌∙◌, subst, arith, ℤ, Contains}
use Rattle.std.proofs.lemmas.Bool.{both_ways, ltb-true}
use Rattle.lk_model.specs.Formulas.Literal.{variable, mentions}
use Rattle.lk_model.proofs.Booleans.{and_true}
use Rattle.kernel_laws.proofs.Clauses.{mentions_of}
use Rattle.autarky_compose.specs.Tables.{AreDistinct}
use Rattle.autarky_compose.proofs.GeneralItems.{literal_contains}
use Rattle.test_parts.specs.Apart.{are_apart}

-- the first of the literals, and the others
record Apart (l : ℤ) (ls : List ℤ) : Type 0 where
  positive : 0 < variable l
  alone : mentions ls (variable l) ≡ false
  more : are_apart ls ≡ true

apart : (l : ℤ) (ls : List ℤ) → are_apart (l ∷ ls) ≡ true → Apart l ls
apart l ls e =
    let outer = and_true (nat_lt 0 (variable l) && not (mentions ls (variable l))) (are_apart ls) e in
    let inner = and_true (nat_lt 0 (variable l)) (not (mentions ls (variable l))) outer.0 in
    record { positive = ltb-true 0 (variable l) inner.0; alone = unless (mentions ls (variable l)) inner.1; more = outer.1 }
  where
    unless : (b : Bool) → not b ≡ true → b ≡ false
    unless false h = cc
    unless true h = absurd (let f : ⊥ = cc in f)

pub apart_positive : (ls : List ℤ) (l : ℤ) → are_apart ls ≡ true → Contains ls l → 0 < variable l
apart_positive [] l e (k, lt, is) = absurd (omega (arith, lt))
apart_positive (k ∷ ls) l e (zero, lt, is) = subst (λ (j : ℤ). 0 < variable j) is (apart k ls e).positive
apart_positive (k ∷ ls) l e (suc n, lt, is) = apart_positive ls l (apart k ls e).more (n, omega (arith, lt), is)

-- a literal of the others is on another variable
other : (l k : ℤ) (ls : List ℤ) → Apart l ls → Contains ls k → variable l ≡ variable k → ⊥
other l k ls a c e = both_ways (mentions ls (variable l)) a.alone
    (subst (λ (v : ℕ). mentions ls v ≡ true) (sym e) (mentions_of ls k (literal_contains ls k c)))

pub apart_distinct : (ls : List ℤ) → are_apart ls ≡ true → AreDistinct variable ls
apart_distinct [] e l k (i, lt, is) c same = absurd (omega (arith, lt))
apart_distinct (j ∷ ls) e l k (zero, lt, is) (zero, lt', is') same = sym is ∙ is'
apart_distinct (j ∷ ls) e l k (zero, lt, is) (suc n, lt', is') same =
    absurd (other j k ls (apart j ls e) (n, omega (arith, lt'), is') (ap variable is ∙ same))
apart_distinct (j ∷ ls) e l k (suc i, lt, is) (zero, lt', is') same =
    absurd (other j l ls (apart j ls e) (i, omega (arith, lt), is) (ap variable is' ∙ sym same))
apart_distinct (j ∷ ls) e l k (suc i, lt, is) (suc n, lt', is') same =
    apart_distinct ls (apart j ls e).more l k (i, omega (arith, lt), is) (n, omega (arith, lt'), is') same
