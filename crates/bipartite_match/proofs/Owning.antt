-- What follows when a clause of a matching takes a free variable of it.
use Rattle.std.proofs.Common.{◌≡◌, ◌≢◌, ℕ, ◌+◌, ◌-◌, ◌<◌, ◌≤◌, Bool, true, false, cond, not, ◌==◌, List, length, get_or, refl, sym, ◌∙◌, ap, subst, arith, ◌⊎◌, inl, inr, count_by, IsTrue, get_or-set_same, get_or-set_other}
use Rattle.std.proofs.Math.ListN.{set}
use Rattle.std.proofs.lemmas.Bool.{eqb-true, eq-eqb, both_ways, cases_eq}
use Rattle.std.proofs.lemmas.List.{length-set}
use Rattle.std.proofs.lemmas.List.Sums.{sum_by-set}
use Rattle.lk_model.specs.Formulas.Formula.{Cnf, is_formula}
use Rattle.lk_model.specs.Formulas.Lean.{are_positions}
use Rattle.lk_model.proofs.Variables.{variable_bound}
use Rattle.bipartite_match.specs.declared.matching.Matching.{Matching}
use Rattle.bipartite_match.specs.Matchings.{joins, IsMatching, pair_count}
use Rattle.bipartite_match.specs.Visiting.{with_own}
use Rattle.bipartite_match.proofs.Numbers.{within, rising_once}
use Rattle.bipartite_match.proofs.Literals.{position_in}
use Rattle.bipartite_match.proofs.AugmentedWalks.{weight, weight_none, weight_some}

-- the clause at an index may take a free variable of it
pub record CanOwn (F : Cnf) (part : List ℕ) (m : Matching) (i v : ℕ) : Type 0 where
  pub formula : IsTrue (is_formula F)
  pub part_rises : are_positions F part ≡ true
  pub matching : IsMatching F part m
  pub index : i < length part
  pub holds : IsTrue (joins F part i v)
  pub free : get_or m.of_var (v - 1) 0 ≡ 0

-- the positions of variables, once the clause has given its variable up
freed : Matching → ℕ → List ℕ
freed m i = cond (get_or m.of_clause i 0 == 0) m.of_var (set m.of_var (get_or m.of_clause i 0 - 1) 0)

record IsFreed (m : Matching) (i : ℕ) (vs : List ℕ) : Type 0 where
  long : length vs ≡ length m.of_var
  gone : get_or m.of_clause i 0 ≢ 0 → get_or vs (get_or m.of_clause i 0 - 1) 0 ≡ 0
  others : (k : ℕ) → (get_or m.of_clause i 0 ≡ 0) ⊎ (k ≢ get_or m.of_clause i 0 - 1) → get_or vs k 0 ≡ get_or m.of_var k 0

-- a position of the part is no 0
pub some_position : (F : Cnf) (part : List ℕ) (i : ℕ) → are_positions F part ≡ true → i < length part → get_or part i 0 ≢ 0
some_position F part i r h z = let b = (position_in F part i r h).0 in omega (arith, b, z)

-- a clause with a variable is one of the part
pub index_within : (F : Cnf) (part : List ℕ) (m : Matching) (i : ℕ) → IsMatching F part m → get_or m.of_clause i 0 ≢ 0 → i < length part
index_within F part m i p n = subst (λ k. i < k) p.clauses (within m.of_clause i n)

is_freed : (F : Cnf) (part : List ℕ) (m : Matching) (i : ℕ) → are_positions F part ≡ true → IsMatching F part m → IsFreed m i (freed m i)
unfolding freed
is_freed F part m i r p = at_test (get_or m.of_clause i 0 == 0) refl
  where
    at_test : (b : Bool) → (get_or m.of_clause i 0 == 0) ≡ b → IsFreed m i (cond b m.of_var (set m.of_var (get_or m.of_clause i 0 - 1) 0))
    at_test true e =
        let none = eqb-true (get_or m.of_clause i 0) 0 e in
        record { long = refl; gone = λ n. absurd (n none); others = λ k h. refl }
    at_test false e =
        let some : get_or m.of_clause i 0 ≢ 0 = λ s. both_ways _ e (eq-eqb (get_or m.of_clause i 0) 0 s) in
        let back = p.paired i some in
        let lt : get_or m.of_clause i 0 - 1 < length m.of_var =
        within m.of_var (get_or m.of_clause i 0 - 1) (λ z. some_position F part i r (index_within F part m i p some) (sym back ∙ z)) in
        record {
          long = length-set m.of_var (get_or m.of_clause i 0 - 1) 0;
          gone = λ n. get_or-set_same m.of_var (get_or m.of_clause i 0 - 1) 0 0 lt;
          others = λ k h. elim h [
            | inl z ↦ absurd (some z)
            | inr ne ↦ get_or-set_other m.of_var (get_or m.of_clause i 0 - 1) k 0 0 ne
          ];
        }

pub record Owns (F : Cnf) (part : List ℕ) (m : Matching) (i v : ℕ) (after : Matching) : Type 0 where
  pub matching : IsMatching F part after
  pub here : get_or after.of_clause i 0 ≡ v
  pub at : get_or after.of_var (v - 1) 0 ≡ get_or part i 0
  pub gone : get_or m.of_clause i 0 ≢ 0 → get_or after.of_var (get_or m.of_clause i 0 - 1) 0 ≡ 0
  pub more : get_or m.of_clause i 0 ≡ 0 → pair_count after ≡ pair_count m + 1
  pub same : get_or m.of_clause i 0 ≢ 0 → pair_count after ≡ pair_count m
  pub others : (j : ℕ) → j ≢ i → get_or after.of_clause j 0 ≡ get_or m.of_clause j 0
  pub vars : (k : ℕ) → k ≢ v - 1 → (get_or m.of_clause i 0 ≡ 0) ⊎ (k ≢ get_or m.of_clause i 0 - 1) → get_or after.of_var k 0 ≡ get_or m.of_var k 0

pub owns : (F : Cnf) (part : List ℕ) (m : Matching) (i v : ℕ) → CanOwn F part m i v → Owns F part m i v (with_own m i (get_or part i 0) v)
unfolding freed
owns F part m i v t = record {
  matching = record {
    clauses = length-set m.of_clause i v ∙ p.clauses;
    vars = length-set (freed m i) (v - 1) (get_or part i 0) ∙ free.long ∙ p.vars;
    joined = λ j n. elim (cases_eq j i) [
      | inl s ↦ subst (λ k. IsTrue (joins F part k (get_or clauses k 0))) (sym s) (subst (λ w. IsTrue (joins F part i w)) (sym here_is) t.holds)
      | inr ne ↦ subst (λ w. IsTrue (joins F part j w)) (sym (elsewhere j ne)) (p.joined j (λ z. n (elsewhere j ne ∙ z)))
    ];
    paired = λ j n. elim (cases_eq j i) [
      | inl s ↦ subst (λ k. get_or vars_after (get_or clauses k 0 - 1) 0 ≡ get_or part k 0) (sym s) (ap (λ w. get_or vars_after (w - 1) 0) here_is ∙ at_is)
      | inr ne ↦
          (let e = elsewhere j ne in
          let some_j : get_or m.of_clause j 0 ≢ 0 = λ z. n (e ∙ z) in
          let back = p.paired j some_j in
          ap (λ w. get_or vars_after (w - 1) 0) e ∙ apart (get_or m.of_clause j 0 - 1)
          (λ s. some_position F part j t.part_rises (index_within F part m j p some_j) (sym back ∙ ap (λ k. get_or m.of_var k 0) s ∙ t.free))
          (elim (cases_eq (get_or m.of_clause i 0) 0) [
            | inl z ↦ inl z
            | inr y ↦ inr (λ s. ne (rising_once 0 (length F.clauses) part j i t.part_rises (index_within F part m j p some_j) t.index
                (sym back ∙ ap (λ k. get_or m.of_var k 0) s ∙ p.paired i y)))
          ]) ∙ back)
    ];
    held = λ k n. elim (cases_eq k (v - 1)) [
      | inl s ↦ (i, sym (ap (λ x. get_or vars_after x 0) s ∙ at_is), here_is ∙ (let l = bound.0 in omega (arith, l, s)))
      | inr ne ↦ elim (cases_eq (get_or m.of_clause i 0) 0) [
        | inl z ↦
            (let e = apart k ne (inl z) in
            let w = p.held k (λ y. n (e ∙ y)) in
            (w.0, w.1 ∙ sym e, elsewhere w.0 (λ s. let f = sym (ap (λ x. get_or m.of_clause x 0) s ∙ z) ∙ w.2 in omega (arith, f)) ∙ w.2))
        | inr y ↦ elim (cases_eq k (get_or m.of_clause i 0 - 1)) [
          | inl s ↦ absurd (n (ap (λ x. get_or vars_after x 0) s ∙ other (get_or m.of_clause i 0 - 1) (λ r. ne (s ∙ r)) ∙ free.gone y))
          | inr far ↦
              (let e = apart k ne (inr far) in
              let w = p.held k (λ x. n (e ∙ x)) in
              (w.0, w.1 ∙ sym e, elsewhere w.0 (λ s. let f = sym (ap (λ x. get_or m.of_clause x 0) s) ∙ w.2 in far (omega (arith, f))) ∙ w.2))
        ]
      ]
    ];
  };
  here = here_is;
  at = at_is;
  gone = λ y. other (get_or m.of_clause i 0 - 1) (λ s. some_position F part i t.part_rises t.index (sym (p.paired i y) ∙ ap (λ k. get_or m.of_var k 0) s ∙ t.free)) ∙ free.gone y;
  more = λ z. let c = counted in let a = weight_none (get_or m.of_clause i 0) z in let b = weight_some v some in omega (arith, c, a, b);
  same = λ y. let c = counted in let a = weight_some (get_or m.of_clause i 0) y in let b = weight_some v some in omega (arith, c, a, b);
  others = elsewhere;
  vars = apart;
}
  where
    p : IsMatching F part m
    p = t.matching

    free : IsFreed m i (freed m i)
    free = is_freed F part m i t.part_rises t.matching

    clauses : List ℕ
    clauses = set m.of_clause i v

    vars_after : List ℕ
    vars_after = set (freed m i) (v - 1) (get_or part i 0)

    bound : (0 < v) × (v ≤ F.vars)
    bound = variable_bound F (get_or part i 0) v t.formula t.holds

    some : v ≢ 0
    some = let l = bound.0 in omega (arith, l)

    inside : i < length m.of_clause
    inside = subst (λ k. i < k) (sym t.matching.clauses) t.index

    here_is : get_or clauses i 0 ≡ v
    here_is = get_or-set_same m.of_clause i v 0 inside

    elsewhere : (j : ℕ) → j ≢ i → get_or clauses j 0 ≡ get_or m.of_clause j 0
    elsewhere j ne = get_or-set_other m.of_clause i j v 0 ne

    at_is : get_or vars_after (v - 1) 0 ≡ get_or part i 0
    at_is =
        let l = bound.0 in let h = bound.1 in let a = free.long in let b = t.matching.vars in
        let lt : v - 1 < length (freed m i) = omega (arith, l, h, a, b) in
        get_or-set_same (freed m i) (v - 1) (get_or part i 0) 0 lt

    other : (k : ℕ) → k ≢ v - 1 → get_or vars_after k 0 ≡ get_or (freed m i) k 0
    other k ne = get_or-set_other (freed m i) (v - 1) k (get_or part i 0) 0 ne

    apart : (k : ℕ) → k ≢ v - 1 → (get_or m.of_clause i 0 ≡ 0) ⊎ (k ≢ get_or m.of_clause i 0 - 1) → get_or vars_after k 0 ≡ get_or m.of_var k 0
    apart k ne h = other k ne ∙ free.others k h

    counted : count_by (λ w. not (w == 0)) clauses + weight (get_or m.of_clause i 0) ≡ count_by (λ w. not (w == 0)) m.of_clause + weight v
    counted = sum_by-set weight m.of_clause i v 0 inside
