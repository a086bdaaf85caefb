-- Exchanging the pairs of a path where no variable is kept for each clause: what a clause gives up, the next one takes.
use Rattle.std.proofs.Common.{◌≡◌, ◌≢◌, ℕ, zero, suc, ◌-◌, ◌<◌, true, false, Bool, cond, ◌==◌, List, [], ◌∷◌, length, get_or, refl, sym, ◌∙◌, ap, subst, arith, IsTrue}
use Rattle.std.proofs.Math.ListN.{set}
use Rattle.std.proofs.lemmas.Bool.{eqb-true, eq-eqb, both_ways}
use Rattle.std.proofs.lemmas.List.{set-get_or, length-set}
use Rattle.lk_model.specs.Formulas.Formula.{Cnf, is_formula}
use Rattle.lk_model.proofs.Variables.{variable_bound}
use Rattle.bipartite_match.specs.declared.augmenting.Start.{Start}
use Rattle.bipartite_match.specs.declared.matching.Matching.{Matching}
use Rattle.bipartite_match.specs.declared.visits.Visit.{Visit}
use Rattle.bipartite_match.specs.Covers.{IsAugmented}
use Rattle.bipartite_match.specs.Visiting.{visit_at, AreVisits, EndsIn, CanSearch, with_own}
use Rattle.bipartite_match.proofs.Owning.{some_position}
use Rattle.bipartite_match.proofs.AugmentedPaths.{Going, AugmentState, own_is, augment_starts, augment_goes}

-- WRITES

set_twice : (xs : List ℕ) (i a b : ℕ) → set (set xs i a) i b ≡ set xs i b
set_twice [] i a b = refl
set_twice (x ∷ xs) zero a b = refl
set_twice (x ∷ xs) (suc i) a b = ap (λ ys. x ∷ ys) (set_twice xs i a b)

set_apart : (xs : List ℕ) (i j a b : ℕ) → i ≢ j → set (set xs i a) j b ≡ set (set xs j b) i a
set_apart [] i j a b n = refl
set_apart (x ∷ xs) zero zero a b n = absurd (n refl)
set_apart (x ∷ xs) zero (suc j) a b n = refl
set_apart (x ∷ xs) (suc i) zero a b n = refl
set_apart (x ∷ xs) (suc i) (suc j) a b n = ap (λ ys. x ∷ ys) (set_apart xs i j a b (λ e. n (ap suc e)))

-- The variable v is to be taken. What is held still has its old clause, which has taken another one; in the matching it is
-- free.
pub opened : ℕ → List ℕ → List ℕ
opened v vars = cond (v == 0) vars (set vars (v - 1) 0)

opened_some : (v : ℕ) (vars : List ℕ) → v ≢ 0 → opened v vars ≡ set vars (v - 1) 0
unfolding opened
opened_some v vars n = at_test (v == 0) refl
  where
    at_test : (b : Bool) → (v == 0) ≡ b → cond b vars (set vars (v - 1) 0) ≡ set vars (v - 1) 0
    at_test true e = absurd (n (eqb-true v 0 e))
    at_test false e = refl

opened_none : (v : ℕ) (vars : List ℕ) → v ≡ 0 → opened v vars ≡ vars
unfolding opened
opened_none v vars z = ap (λ b. cond b vars (set vars (v - 1) 0)) (eq-eqb v 0 z)

-- of a free variable it changes nothing
opened_free : (v : ℕ) (vars : List ℕ) → v ≢ 0 → get_or vars (v - 1) 0 ≡ 0 → opened v vars ≡ vars
opened_free v vars n free = opened_some v vars n ∙ ap (λ x. set vars (v - 1) x) (sym free) ∙ set-get_or vars (v - 1) 0

pub opened_long : (v : ℕ) (vars : List ℕ) → length (opened v vars) ≡ length vars
unfolding opened
opened_long v vars = at_test (v == 0)
  where
    at_test : (b : Bool) → length (cond b vars (set vars (v - 1) 0)) ≡ length vars
    at_test true = refl
    at_test false = length-set vars (v - 1) 0

-- one write is the step of the matching, where the clause gives `by` up, or nothing
one_write : (vars : List ℕ) (v by pos : ℕ) → v ≢ 0 → v ≢ by → opened by (set vars (v - 1) pos) ≡ set (cond (by == 0) (opened v vars) (set (opened v vars) (by - 1) 0)) (v - 1) pos
unfolding opened
one_write vars v by pos some apart = at_test (by == 0) refl
  where
    at_test : (b : Bool) → (by == 0) ≡ b → cond b (set vars (v - 1) pos) (set (set vars (v - 1) pos) (by - 1) 0) ≡ set (cond b (opened v vars) (set (opened v vars) (by - 1) 0)) (v - 1) pos
    at_test true e = sym (ap (λ ys. set ys (v - 1) pos) (opened_some v vars some) ∙ set_twice vars (v - 1) 0 pos)
    at_test false e =
        let n : by ≢ 0 = λ z. both_ways (by == 0) e (eq-eqb by 0 z) in
        let far : v - 1 ≢ by - 1 = λ s. apart (omega (arith, s, n, some)) in
        sym (ap (λ ys. set (set ys (by - 1) 0) (v - 1) pos) (opened_some v vars some)
        ∙ set_apart (set vars (v - 1) 0) (by - 1) (v - 1) 0 pos (λ s. far (sym s))
        ∙ ap (λ ys. set ys (by - 1) 0) (set_twice vars (v - 1) 0 pos))

-- STEPS

-- the matching at a step, with the variables of the clauses that no code holds
abbrev pub passing : Matching → List ℕ → ℕ → List ℕ → Matching
passing m own v vars = record m { of_clause = own; of_var = opened v vars }

pub record PassState (F : Cnf) (part : List ℕ) (m : Matching) (from : Start) (q : List Visit) (vars : List ℕ) (v place root : ℕ) : Type 0 where
  pub own : List ℕ
  pub state : AugmentState F part m from q (passing m own v vars) v place root

pub pass_starts : (F : Cnf) (part : List ℕ) (m : Matching) (from : Start) (q : List Visit) (v place root : ℕ) → CanSearch F part m from → EndsIn F part m from q place v
    → PassState F part m from q m.of_var v place root
pass_starts F part m from q v place root s e =
    let some : v ≢ 0 = λ z. let a = e.free.some in omega (arith, a, z) in
    record {
      own = m.of_clause;
      state = subst (λ vs. AugmentState F part m from q (record m { of_var = vs }) v place root) (sym (opened_free v m.of_var some e.free.free)) (augment_starts F part m from q v place root s e);
    }

pub pass_goes : (F : Cnf) (part : List ℕ) (m : Matching) (from : Start) (q : List Visit) (vars : List ℕ) (v place root : ℕ) → IsTrue (is_formula F) → CanSearch F part m from
    → AreVisits F part m from q → v ≢ 0 → PassState F part m from q vars v place root
    → PassState F part m from q (set vars (v - 1) (visit_at q place).pos) (visit_at q place).by (visit_at q place).from (visit_at q place).pos
pass_goes F part m from q vars v place root form s a some p = record {
  own = set p.own i v;
  state = augment_goes F part m from q now (passing m (set p.own i v) by (set vars (v - 1) pos)) v place i form s a g inside is made;
}
  where
    pos : ℕ
    pos = (visit_at q place).pos

    by : ℕ
    by = (visit_at q place).by

    now : Matching
    now = passing m p.own v vars

    g : Going F part m from q now v place
    g = p.state.going some

    at : (i : ℕ) × (i < length part) × (get_or part i 0 ≡ pos)
    at = a.some place g.inside

    i : ℕ
    i = at.0

    inside : i < length part
    inside = at.1

    is : get_or part i 0 ≡ pos
    is = at.2

    by_is : get_or p.own i 0 ≡ by
    by_is = own_is F part m from q now v place i s a g inside is

    -- a variable that is free is not the one that the clause has
    apart : v ≢ by
    apart e = some_position F part i s.part_rises inside
        (sym (g.matching.paired i (λ z. some (e ∙ sym by_is ∙ z))) ∙ ap (λ w. get_or now.of_var (w - 1) 0) (by_is ∙ sym e) ∙ g.free)

    written : opened by (set vars (v - 1) pos) ≡ set (cond (get_or p.own i 0 == 0) (opened v vars) (set (opened v vars) (get_or p.own i 0 - 1) 0)) (v - 1) pos
    written = one_write vars v by pos some apart ∙ ap (λ w. set (cond (w == 0) (opened v vars) (set (opened v vars) (w - 1) 0)) (v - 1) pos) (sym by_is)

    made : passing m (set p.own i v) by (set vars (v - 1) pos) ≡ with_own now i pos v
    made = ap (λ (vs : List ℕ). let x : Matching = record m { of_clause = set p.own i v; of_var = vs } in x) written

-- at the end nothing is to be taken
pub pass_done : (F : Cnf) (part : List ℕ) (m : Matching) (from : Start) (q : List Visit) (vars : List ℕ) (v place root : ℕ) → v ≡ 0 → PassState F part m from q vars v place root
    → (own : List ℕ) × IsAugmented F part from m (record m { of_clause = own; of_var = vars }) root
pass_done F part m from q vars v place root z p =
    (p.own, subst (λ (vs : List ℕ). IsAugmented F part from m (record m { of_clause = p.own; of_var = vs }) root) (opened_none v vars z) (p.state.done z))

-- the variable that is taken is one of those that are held
pub pass_within : (F : Cnf) (part : List ℕ) (m : Matching) (from : Start) (q : List Visit) (vars : List ℕ) (v place root : ℕ) → IsTrue (is_formula F) → v ≢ 0
    → PassState F part m from q vars v place root → v - 1 < length vars
pass_within F part m from q vars v place root form some p =
    let g = p.state.going some in
    let b = variable_bound F (visit_at q place).pos v form g.holds in
    let l = opened_long v vars in let e = g.matching.vars in let low = b.0 in let high = b.1 in omega (arith, l, e, low, high)
