-- Clauses that were given what they ask for when a literal is passed on are upheld.
use Rattle.std.proofs.Common.{◌≡◌, ◌≢◌, ℕ, zero, suc, ◌<◌, true, false, List, [], ◌∷◌, sym, ◌∙◌, ap, subst, arith, ℤ, pos, length, take, get_or, inl, inr, ◌⊎◌}
use Rattle.std.specs.Ordering.{int_eq}
use Rattle.std.proofs.lemmas.Bool.{cases_Bool, false_from_ne_true, not-true}
use Rattle.lk_model.specs.Formulas.Literal.{complement}
use Rattle.lk_model.proofs.Booleans.{or_true, or_left, or_right}
use Rattle.lk_model.proofs.Literals.{complement_twice, same_int}
use Rattle.watch_prop.specs.declared.entry.Entry.{Entry}
use Rattle.watch_prop.specs.declared.entry.NumberedClause.{NumberedClause}
use Rattle.watch_prop.specs.declared.watch.Watch.{Watch}
use Rattle.watch_prop.specs.declared.state.Settled.TheVariants.{Stays, Moves}
use Rattle.watch_prop.specs.Trail.{literals_of, true_in, false_in}
use Rattle.watch_prop.specs.Watch.{other_of, has_true, is_upheld}
use Rattle.watch_prop.specs.Linked.{clause_at_place, watches_it}
use Rattle.watch_prop.specs.States.{IsAtHead, IsSettled}
use Rattle.watch_prop.proofs.Truths.{same_true}
use Rattle.watch_prop.proofs.Upheld.{free, other_free, upheld_true, upheld_free, part_take, not_there}

-- THE HEAD OF THE TRAIL

pub literal_there : (n : ℕ) (trail : List Entry) (k : ℤ) → n < length trail → get_or (literals_of trail) n (pos 0) ≡ k → true_in trail k ≡ true
literal_there n [] k lt e = absurd (omega arith)
literal_there zero (d ∷ trail) k lt e = or_left (int_eq k d.lit) (true_in trail k) (same_true k d.lit (sym e))
literal_there (suc n) (d ∷ trail) k lt e = or_right (int_eq k d.lit) (true_in trail k) (literal_there n trail k (omega arith) e)

-- the complement of the head's literal is false
pub head_false : (trail : List Entry) (head : ℕ) (l : ℤ) → IsAtHead trail head l → false_in trail l ≡ true
head_false trail head l h = literal_there head trail (complement l) h.0 h.1

-- what is true up to the head stands before it or is the head's literal
pub up_to_head : (n : ℕ) (trail : List Entry) (k : ℤ) → n < length trail → true_in (take (suc n) trail) k ≡ true
    → (true_in (take n trail) k ≡ true) ⊎ (k ≡ get_or (literals_of trail) n (pos 0))
up_to_head n [] k lt e = absurd (omega arith)
up_to_head zero (d ∷ trail) k lt e = elim (or_true (int_eq k d.lit) false e) [
  | inl y ↦ inr (same_int k d.lit y)
  | inr y ↦ absurd (let f : ⊥ = cc in f)
]
up_to_head (suc n) (d ∷ trail) k lt e = elim (or_true (int_eq k d.lit) (true_in (take (suc n) trail) k) e) [
  | inl y ↦ inl (or_left (int_eq k d.lit) (true_in (take n trail) k) y)
  | inr y ↦ elim (up_to_head n trail k (omega arith) y) [
    | inl z ↦ inl (or_right (int_eq k d.lit) (true_in (take n trail) k) z)
    | inr z ↦ inr z
  ]
]

-- A LITERAL THAT WAS PASSED ON

-- the other literal that is watched, after the head
pub still_free : (trail : List Entry) (head : ℕ) (b l : ℤ) → IsAtHead trail head l → b ≢ l → false_in (take head trail) b ≡ false → false_in (take (suc head) trail) b ≡ false
still_free trail head b l at_head apart none = false_from_ne_true (false_in (take (suc head) trail) b) (λ t. elim (up_to_head head trail (complement b) at_head.0 t) [
  | inl y ↦ (let f : true ≡ false = sym y ∙ none in let z : ⊥ = cc in z)
  | inr y ↦ apart (sym (complement_twice b) ∙ ap complement (y ∙ at_head.1) ∙ complement_twice l)
])

pub passed_stays : (clauses : List NumberedClause) (trail trail' : List Entry) (head place : ℕ) (x x' : Watch) (l : ℤ)
    → IsSettled clauses trail trail' x x' place l Stays → is_upheld trail' (take (suc head) trail') (clause_at_place clauses place).lits x' ≡ true
passed_stays clauses trail trail' head place x x' l s = upheld_true trail' (take (suc head) trail') (clause_at_place clauses place).lits x' s.1

pub passed_moves : (clauses : List NumberedClause) (trail trail' : List Entry) (head place : ℕ) (x x' : Watch) (l : ℤ)
    → IsAtHead trail head l → watches_it x l ≡ true → other_of x l ≢ l → is_upheld trail (take head trail) (clause_at_place clauses place).lits x ≡ true
    → IsSettled clauses trail trail' x x' place l Moves → is_upheld trail' (take (suc head) trail') (clause_at_place clauses place).lits x' ≡ true
passed_moves clauses trail trail' head place x x' l at_head it apart h s =
    subst (λ (t : List Entry). is_upheld t (take (suc head) t) c x' ≡ true) (sym s.0) (elim (cases_Bool (has_true trail c)) [
      | inl t ↦ upheld_true trail (take (suc head) trail) c x' t
      | inr none ↦ upheld_free trail (take (suc head) trail) c x' (not_there (take (suc head) trail) trail (complement x'.first) (part_take (suc head) trail) (not-true _ s.3))
          (subst (λ (k : ℤ). false_in (take (suc head) trail) k ≡ false) (sym s.1)
          (still_free trail head (other_of x l) l at_head apart (other_free (take head trail) x l (free trail (take head trail) c x h none) it)))
    ])
  where
    c : List ℤ
    c = (clause_at_place clauses place).lits
