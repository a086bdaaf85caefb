-- When no clause is left to be looked at and the whole trail was passed on, nothing is false and nothing is forced.
use Rattle.std.proofs.Common.{◌≡◌, ◌≢◌, ◌∙◌, ℕ, ◌<◌, ◌==◌, [], Bool, true, false, not, ◌&&◌, List, ℤ, Option, is_some, option_map, length, filter, refl, sym, ap, subst, arith, inl, inr}
use Rattle.std.specs.Ordering.{int_eq}
use Rattle.std.proofs.lemmas.Bool.{cases_Bool, eqb-true, false_from_ne_true, not-true}
use Rattle.lk_model.specs.Formulas.Literal.{variable, complement, contains, is_clause, is_positive}
use Rattle.lk_model.specs.Formulas.Assignment.{makes_true, satisfies}
use Rattle.lk_model.specs.Lists.{among}
use Rattle.lk_model.proofs.Variables.{literal_passing}
use Rattle.lk_model.proofs.ListTests.{passes_one, passes_each}
use Rattle.lk_model.proofs.Ranks.{literal_bounds}
use Rattle.lk_model.proofs.Literals.{variable_complement}
use Rattle.watch_prop.specs.declared.entry.Entry.{Entry}
use Rattle.watch_prop.specs.declared.entry.NumberedClause.{NumberedClause}
use Rattle.watch_prop.specs.declared.watch.Watch.{Watch}
use Rattle.watch_prop.specs.declared.state.State.{State}
use Rattle.watch_prop.specs.Trail.{Path, true_in, false_in, assignment_along, is_path}
use Rattle.watch_prop.specs.Watch.{has_true, is_upheld}
use Rattle.watch_prop.specs.Linked.{clause_at_place, watch_at}
use Rattle.watch_prop.specs.declared.entry.Propagated.{Propagated}
use Rattle.watch_prop.specs.declared.entry.Propagated.TheVariants.{Quiet, Conflict}
use Rattle.watch_prop.specs.Propagation.{is_quiet, assigned, IsAnswered}
use Rattle.lk_model.specs.Formulas.Units.{is_false, is_unit_under}
use Rattle.watch_prop.specs.States.{IsState, Passes, propagation_of, unseen}
use Rattle.watch_prop.proofs.Truths.{false_apart, no_sign_twice}
use Rattle.std.proofs.lemmas.List.{take_all}
use Rattle.watch_prop.proofs.Trails.{trail_path, unset_entry_of}
use Rattle.watch_prop.proofs.Lists.{place_of}
use Rattle.watch_prop.proofs.Upheld.{free}
use Rattle.watch_prop.proofs.Demands.{all_from, clause_of, literal_of_clause}
use Rattle.watch_prop.proofs.Along.{makes_true_along}
use Rattle.watch_prop.proofs.Units.{two_pass}

-- A CLAUSE WITH A TRUE LITERAL, OR WITH TWO THAT ARE UNSET

satisfied_quiet : (vars : ℕ) (trail : List Entry) (c : List ℤ) (l : ℤ) → is_path vars trail ≡ true → is_clause vars c ≡ true → contains c l ≡ true → true_in trail l ≡ true
    → (not (is_false (assignment_along trail) c) && not (is_unit_under (assignment_along trail) c)) ≡ true
satisfied_quiet vars trail c l path is_clause there t =
    let φ = assignment_along trail in
    let bounds = literal_bounds vars l (literal_of_clause vars c l is_clause there) in
    let low : 0 < variable l = omega (arith, bounds.0) in
    let low' : 0 < variable (complement l) = omega (arith, low, variable_complement l) in
    let sat : satisfies φ c ≡ true = passes_one (makes_true φ) c l there (makes_true_along vars trail l path low ∙ t) in
    let not_false : is_false φ c ≡ false = false_from_ne_true (is_false φ c) (λ f.
    (let here : true_in trail (complement l) ≡ true = sym (makes_true_along vars trail (complement l) path low') ∙ passes_each (λ k. makes_true φ (complement k)) c l f there in
    let z : true ≡ false = sym t ∙ no_sign_twice vars trail l path low here in let q : ⊥ = cc in q)) in
    rw (not_false, sat) refl

free_quiet : (vars : ℕ) (trail : List Entry) (c : List ℤ) (a b : ℤ) → is_path vars trail ≡ true → is_clause vars c ≡ true → contains c a ≡ true → contains c b ≡ true → a ≢ b
    → true_in trail a ≡ false → false_in trail a ≡ false → true_in trail b ≡ false → false_in trail b ≡ false
    → (not (is_false (assignment_along trail) c) && not (is_unit_under (assignment_along trail) c)) ≡ true
free_quiet vars trail c a b path is_clause in_a in_b n ta fa tb fb =
    let φ = assignment_along trail in
    let bounds = literal_bounds vars a (literal_of_clause vars c a is_clause in_a) in
    let low : 0 < variable (complement a) = omega (arith, bounds.0, variable_complement a) in
    let not_false : is_false φ c ≡ false = false_from_ne_true (is_false φ c) (λ f.
    (let here : true_in trail (complement a) ≡ true = sym (makes_true_along vars trail (complement a) path low) ∙ passes_each (λ k. makes_true φ (complement k)) c a f in_a in
    let z : true ≡ false = sym here ∙ fa in let q : ⊥ = cc in q)) in
    let unset : ℤ → Bool = λ l. not (is_some (φ (variable l))) in
    let none : (l : ℤ) → true_in trail l ≡ false → false_in trail l ≡ false → unset l ≡ true = λ l t f. ap (λ (o : Option Entry). not (is_some (option_map (λ (e : Entry). is_positive e.lit) o))) (unset_entry_of trail l t f) in
    let many = two_pass unset c a b in_a in_b n (none a ta fa) (none b tb fb) in
    let not_one : (length (filter unset c) == 1) ≡ false = false_from_ne_true (length (filter unset c) == 1) (λ e. (let one = eqb-true (length (filter unset c)) 1 e in omega (arith, many, one))) in
    rw (not_false, not_one) (at (satisfies φ c))
  where
    at : (s : Bool) → not (not s && false) ≡ true
    at true = refl
    at false = refl

-- no literal of it is true
none_true : (trail : List Entry) (c : List ℤ) (l : ℤ) → has_true trail c ≡ false → contains c l ≡ true → true_in trail l ≡ false
none_true trail c l none there = false_from_ne_true (true_in trail l) (λ t.
    (let f : true ≡ false = sym (passes_one (true_in trail) c l there t) ∙ none in let z : ⊥ = cc in z))

upheld_quiet : (vars : ℕ) (trail : List Entry) (c : List ℤ) (x : Watch) → is_path vars trail ≡ true → is_clause vars c ≡ true → contains c x.first ≡ true → contains c x.second ≡ true
    → not (int_eq x.second x.first) ≡ true → is_upheld trail trail c x ≡ true → (not (is_false (assignment_along trail) c) && not (is_unit_under (assignment_along trail) c)) ≡ true
upheld_quiet vars trail c x path is_clause in_first in_second two h = elim (cases_Bool (has_true trail c)) [
  | inl t ↦ (let l = literal_passing (true_in trail) c t in satisfied_quiet vars trail c l.0 path is_clause l.1 l.2)
  | inr none ↦
      let f = free trail trail c x h none in
      free_quiet vars trail c x.second x.first path is_clause in_second in_first (false_apart x.second x.first (not-true _ two))
      (none_true trail c x.second none in_second) f.second (none_true trail c x.first none in_first) f.first
]

pub state_quiet : (clauses : List NumberedClause) (path : Path) (s : State) → IsState clauses path s → unseen s ≡ 0 → s.head ≡ length path.entries
    → is_quiet (assigned (propagation_of clauses path)) clauses ≡ true
state_quiet clauses path s h none head = all_from _ clauses (record { number = 0; lits = [] }) (λ i lt.
    let c = (clause_at_place clauses i).lits in
    let is_path = trail_path path.vars clauses path.entries h.propagation.trail in
    let is_clause = clause_of clauses path s i h lt in
    elim (cases_Bool (among s.waiting.items i)) [
      | inl y ↦
          let place = place_of s.waiting.items i y in
          let within = place.within in
          let sat : has_true path.entries c ≡ true =
          subst (λ (p : ℕ). has_true path.entries (clause_at_place clauses p).lits ≡ true) place.there (h.known.upheld.waiting place.at (omega (arith, within, none, h.known.satisfied))) in
          let l = literal_passing (true_in path.entries) c sat in
          satisfied_quiet path.vars path.entries c l.0 is_path is_clause l.1 l.2
      | inr y ↦
          let x = watch_at s.watches.items i in
          let out : not (among s.waiting.items i) ≡ true = rw y refl in
          let watched = h.known.linked.watched i lt out in
          let up : is_upheld path.entries path.entries c x ≡ true =
          subst (λ (t : List Entry). is_upheld path.entries t c x ≡ true) (take_all s.head path.entries (omega (arith, head))) (h.known.upheld.ready i lt out) in
          upheld_quiet path.vars path.entries c x is_path is_clause watched.first watched.second watched.apart up
    ])

-- what a propagation answers
pub answer_of : (clauses : List NumberedClause) (path : Path) (s : State) (result : Propagated) → IsState clauses path s → unseen s ≡ 0
    → Passes clauses path result (s.head ≡ length path.entries) → IsAnswered (propagation_of clauses path) result
answer_of clauses path s Quiet h none done = state_quiet clauses path s h none done
answer_of clauses path s (Conflict k) h none done = done
