-- A clause contains no crossed clause where none that shares a literal with it is contained.
use Rattle.std.proofs.Common.{◌≡◌, ◌∙◌, ℕ, ◌&&◌, Bool, true, cond, not, List, [], ◌∷◌, ℤ, length, filter, refl, sym, ap, subst, arith, inl, inr}
use Rattle.std.specs.Prelude.{slice_index_or}
use Rattle.std.specs.List.{list_all}
use Rattle.std.proofs.lemmas.Bool.{cases_Bool, both_ways, false_from_ne_true, not-true, le-leb}
use Rattle.lk_model.specs.Lists.{among, is_empty, is_between, rises_within}
use Rattle.lk_model.specs.Formulas.Literal.{variable, contains, is_literal, is_within, rank_of}
use Rattle.lk_model.specs.Formulas.Formula.{Cnf, clause_at, positions_of}
use Rattle.lk_model.specs.Formulas.Crossed.{Variables, crossed_out}
use Rattle.lk_model.specs.Held.VariableSets.{IsCrossed, is_in}
use Rattle.lk_model.specs.declared.crossed.Crossed.{Crossed}
use Rattle.lk_model.proofs.Booleans.{and_true}
use Rattle.lk_model.proofs.Counting.{in_filter, among-range}
use Rattle.lk_model.proofs.Crossings.{contains_crossed}
use Rattle.lk_model.proofs.ListTests.{passes_each, passing, one_number as each_number}
use Rattle.lk_model.proofs.Literals.{some_literal}
use Rattle.lk_model.proofs.Founds.{filtered_rise}
use Rattle.lk_model.proofs.Rising.{rises, bounded}
use Rattle.occurrence_lists.specs.Occurrences.{AreOccurrences}
use Rattle.unit_refutations.specs.Chains.{clause_over}
use Rattle.unit_refutations.specs.Standing.{are_between}
use Rattle.unit_refutations.specs.Contained.{contains_none, is_within_but, none_within_but}

-- where the crossed clause is contained, each literal stands in the other clause or is on a variable of the set
crossed_within : (vars : Variables) (c d : List ℤ) → is_within (crossed_out vars c) d ≡ true → is_within_but vars c d ≡ true
crossed_within vars [] d h = refl
crossed_within vars (l ∷ c) d h = elim (cases_Bool (vars (variable l))) [
  | inl y ↦
      rw y (crossed_within vars c d (subst (λ (b : Bool). is_within (cond (not b) (l ∷ crossed_out vars c) (crossed_out vars c)) d ≡ true) y h))
  | inr n ↦
      (let left : is_within (l ∷ crossed_out vars c) d ≡ true =
      subst (λ (b : Bool). is_within (cond (not b) (l ∷ crossed_out vars c) (crossed_out vars c)) d ≡ true) n h in
      let both = and_true (contains d l) (is_within (crossed_out vars c) d) left in
      rw (n, both.0) (crossed_within vars c d both.1))
]

-- the positions at which a literal stands are positions
between : (low high : ℕ) (ps : List ℕ) → rises_within low high ps ≡ true → list_all (is_between 1 high) ps ≡ true
between low high [] h = refl
between low high (p ∷ ps) h =
    let r = rises low high p ps h in
    let above = r.above in
    rw (le-leb 1 p (omega (arith, above)), le-leb p high r.within) (between p high ps r.more)

pub listed_between : (F : Cnf) (lists : List (List ℕ)) (l : ℤ) → AreOccurrences F lists → is_literal F.vars l ≡ true → are_between F (slice_index_or lists (rank_of l) []) ≡ true
listed_between F lists l occur lit =
    ap (are_between F) (occur.held l lit)
    ∙ between 0 (length F.clauses) (filter (λ p. contains (clause_at F p) l) (positions_of F)) (filtered_rise (length F.clauses) (λ p. contains (clause_at F p) l))

-- what is tested at one literal of the clause
abbrev pub none_at : Crossed → List (List ℕ) → List ℤ → ℤ → Bool
none_at over lists c l = none_within_but over.formula.now (is_in over.blocked.now) c (slice_index_or lists (rank_of l) [])

pub none_contained : (over : Crossed) (lists : List (List ℕ)) (c : List ℤ) → IsCrossed over → AreOccurrences over.formula.now lists
    → list_all (is_literal over.formula.now.vars) c ≡ true → list_all (none_at over lists c) c ≡ true → contains_none over c ≡ true
none_contained over lists c crossed occur literals none = ap not (false_from_ne_true _ (λ e.
    let w = passing contained over.part.now e in
    let both = and_true (not (is_empty (clause_over over w.0))) (is_within (clause_over over w.0) c) w.2 in
    let l = some_literal (clause_over over w.0) (not-true (is_empty (clause_over over w.0)) both.0) in
    let in_c = passes_each (contains c) (clause_over over w.0) l.0 both.1 l.1 in
    let in_clause = (and_true (not (vars (variable l.0))) (contains (clause_at F w.0) l.0) (sym (contains_crossed vars (clause_at F w.0) l.0) ∙ l.1)).1 in
    let lit = passes_each (is_literal F.vars) c l.0 literals in_c in
    let bounds = bounded 0 _ over.part.now w.0 crossed.part w.1 in
    let last = bounds.1 in
    let there = in_filter (λ p. contains (clause_at F p) l.0) (positions_of F) w.0 in_clause (among-range 1 _ w.0 bounds.0 (omega (arith, last))) in
    let listed : among (slice_index_or lists (rank_of l.0) []) w.0 ≡ true = ap (λ (ps : List ℕ). among ps w.0) (occur.held l.0 lit) ∙ there in
    let not_within = each_number (λ p. not (is_within_but vars (clause_at F p) c)) (slice_index_or lists (rank_of l.0) []) w.0
    (passes_each (none_at over lists c) c l.0 none in_c) listed in
    both_ways (is_within_but vars (clause_at F w.0) c) (not-true (is_within_but vars (clause_at F w.0) c) not_within) (crossed_within vars (clause_at F w.0) c both.1)))
  where
    F : Cnf
    F = over.formula.now

    vars : Variables
    vars = is_in over.blocked.now

    contained : ℕ → Bool
    contained p = not (is_empty (clause_over over p)) && is_within (clause_over over p) c
