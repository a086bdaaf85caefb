-- The lists of clauses, by one pair and by one drawn clause more; a clause, by one literal more.
use Rattle.std.proofs.Common.{◌≡◌, ◌∙◌, ℕ, suc, ◌+◌, ◌++◌, ◌∷◌, [], List, false, ◌==◌, IsTrue, ap, refl, arith}
use Rattle.std.specs.Prelude.{flat_map, ℤ}
use Rattle.std.proofs.lemmas.Bool.{both_ways, eq-eqb, false_from_ne_true}
use Rattle.std.proofs.lemmas.Grind.{flat_map-append}
use Rattle.lk_model.specs.Lists.{up_to}
use Rattle.lk_model.specs.Formulas.Literal.{contains, mentions, variable, is_clause, is_literal}
use Rattle.lk_model.proofs.Counting.{range_more}
use Rattle.lk_model.proofs.ListTests.{passes_one}
use Rattle.lk_model.proofs.Literals.{clause-more}
use Rattle.rand_pcg.specs.Lcg.{Lcg}
use Rattle.demo_formula.specs.Demo.{clauses_of_pair, first_clauses, drawn_clause, drawn_clauses, after_clause}

pub first_none : first_clauses 0 ≡ []
unfolding first_clauses
first_none = refl

pub first_more : (pairs : ℕ) → first_clauses (pairs + 1) ≡ first_clauses pairs ++ clauses_of_pair (pairs + 1)
unfolding first_clauses
first_more pairs =
    let more : pairs + 1 ≡ suc pairs = omega arith in
    let last : 1 + pairs ≡ pairs + 1 = omega arith in
    let split : flat_map clauses_of_pair (up_to (pairs + 1)) ≡ flat_map clauses_of_pair (up_to pairs) ++ flat_map clauses_of_pair ((1 + pairs) ∷ []) =
    ap (λ (n : ℕ). flat_map clauses_of_pair (up_to n)) more ∙ ap (flat_map clauses_of_pair) (range_more 1 pairs)
    ∙ flat_map-append clauses_of_pair (up_to pairs) ((1 + pairs) ∷ []) in
    split ∙ ap (λ (n : ℕ). flat_map clauses_of_pair (up_to pairs) ++ clauses_of_pair n) last

pub drawn_none : (g : Lcg) → drawn_clauses 0 g ≡ []
unfolding drawn_clauses
drawn_none g = refl

pub drawn_more : (m n : ℕ) (g : Lcg) → m ≡ suc n → drawn_clauses m g ≡ drawn_clause g ∷ drawn_clauses n (after_clause g)
unfolding drawn_clauses
drawn_more m n g e = ap (λ (k : ℕ). drawn_clauses k g) e

-- a literal on a variable that the clause has none of is not in it
pub absent : (c : List ℤ) (l : ℤ) → mentions c (variable l) ≡ false → contains c l ≡ false
absent c l e = false_from_ne_true (contains c l) (λ m. both_ways (mentions c (variable l)) e (passes_one (λ k. variable k == variable l) c l m (eq-eqb (variable l) (variable l) refl)))

pub with_another : (c : List ℤ) (l : ℤ) → IsTrue (is_clause 2200 c) → IsTrue (is_literal 2200 l) → mentions c (variable l) ≡ false
    → IsTrue (is_clause 2200 (c ++ l ∷ []))
with_another c l h k e = clause-more 2200 c l h k (absent c l e)
