-- Places of literals in an order.
use Rattle.std.proofs.Common.{◌≡◌, ◌≢◌, ◌∙◌, ℕ, zero, suc, ◌+◌, ◌*◌, ◌-◌, ◌<◌, ◌≤◌, Bool, true, false, ◌||◌, List, [], ◌∷◌, length, get_or, take, drop, min, refl, sym, ap, arith, ℤ, None, inl, inr, add-one, drop-cons, get_or-set_same, get_or-set_other}
use Rattle.std.specs.Prelude.{find, nat_le, replicate, slice_set}
use Rattle.std.specs.Ordering.{int_eq}
use Rattle.std.proofs.lemmas.Bool.{cases_Bool, cond-true, cond-false, leb-true, leb-false, le-leb}
use Rattle.std.proofs.lemmas.List.{get_or_default, get_or-replicate, drop_all}
use Rattle.std.proofs.lemmas.Bool.Decides.{Decides-int_eq}
use Rattle.lk_model.specs.Formulas.Literal.{contains, is_literal, rank_of}
use Rattle.lk_model.specs.Formulas.Formula.{Cnf, clause_at, positions_of}
use Rattle.lk_model.proofs.Booleans.{or_true, or_left, or_right}
use Rattle.lk_model.proofs.Founds.{none_to}
use Rattle.lk_model.proofs.Lists.{drop_read}
use Rattle.lk_model.proofs.Ranks.{rank_apart, rank_small}
use Rattle.check_pure_matching.specs.Order.{place_in, least_place, broken_place, first_broken, ArePlaces}

-- PLACES

-- a place is one of the order or the one behind it
pub place_bounds : (order : List ℤ) (l : ℤ) → (1 ≤ place_in order l) × (place_in order l ≤ length order + 1)
place_bounds [] l = (omega arith, omega arith)
place_bounds (k ∷ order) l = elim (cases_Bool (int_eq l k)) [
  | inl here ↦ (let is = cond-true (int_eq l k) 1 (place_in order l + 1) here in (omega (arith, is), omega (arith, is)))
  | inr later ↦ (let is = cond-false (int_eq l k) 1 (place_in order l + 1) later in let b = place_bounds order l in (omega (arith, is), omega (arith, is, b.1)))
]

-- a literal that stands among the first ones has its place there
pub place_early : (order : List ℤ) (j : ℕ) (l : ℤ) → contains (take j order) l ≡ true → place_in order l ≤ j
place_early order zero l there = absurd (let f : ⊥ = cc in f)
place_early [] (suc j) l there = absurd (let f : ⊥ = cc in f)
place_early (k ∷ order) (suc j) l there = elim (cases_Bool (int_eq l k)) [
  | inl here ↦ (let is = cond-true (int_eq l k) 1 (place_in order l + 1) here in omega (arith, is))
  | inr later ↦
      let is = cond-false (int_eq l k) 1 (place_in order l + 1) later in
      let more : contains (take j order) l ≡ true = sym (ap (λ (b : Bool). b || contains (take j order) l) later) ∙ there in
      omega (arith, is, place_early order j l more)
]

-- and one that has its place there stands there
pub early_place : (order : List ℤ) (j : ℕ) (l : ℤ) → place_in order l ≤ j → j ≤ length order → contains (take j order) l ≡ true
early_place order zero l h small = absurd (omega (arith, h, (place_bounds order l).0))
early_place [] (suc j) l h small = absurd (omega (arith, small))
early_place (k ∷ order) (suc j) l h small = elim (cases_Bool (int_eq l k)) [
  | inl here ↦ or_left (int_eq l k) (contains (take j order) l) here
  | inr later ↦
      let is = cond-false (int_eq l k) 1 (place_in order l + 1) later in
      or_right (int_eq l k) (contains (take j order) l) (early_place order j l (omega (arith, is, h)) (omega (arith, small)))
]

-- the literal at a place has its own there or before
pub place_at : (order : List ℤ) (j : ℕ) (d : ℤ) → j < length order → place_in order (get_or order j d) ≤ j + 1
place_at [] j d lt = absurd (omega (arith, lt))
place_at (k ∷ order) zero d lt = let is = cond-true (int_eq k k) 1 (place_in order k + 1) ((Decides-int_eq k k).1 refl) in omega (arith, is)
place_at (k ∷ order) (suc j) d lt =
    let l = get_or order j d in
    elim (cases_Bool (int_eq l k)) [
      | inl here ↦ (let is = cond-true (int_eq l k) 1 (place_in order l + 1) here in omega (arith, is))
      | inr later ↦ (let is = cond-false (int_eq l k) 1 (place_in order l + 1) later in omega (arith, is, place_at order j d (omega (arith, lt))))
    ]

-- what stands at a literal's place is the literal
pub read_place : (order : List ℤ) (l d : ℤ) → place_in order l ≤ length order → get_or order (place_in order l - 1) d ≡ l
read_place [] l d h = absurd (omega (arith, h))
read_place (k ∷ order) l d h = elim (cases_Bool (int_eq l k)) [
  | inl here ↦
      let is : place_in (k ∷ order) l ≡ 1 = cond-true (int_eq l k) 1 (place_in order l + 1) here in
      ap (λ (n : ℕ). get_or (k ∷ order) (n - 1) d) is ∙ sym ((Decides-int_eq l k).0 here)
  | inr later ↦
      let is : place_in (k ∷ order) l ≡ place_in order l + 1 = cond-false (int_eq l k) 1 (place_in order l + 1) later in
      let b = place_bounds order l in
      let at : place_in (k ∷ order) l - 1 ≡ suc (place_in order l - 1) = omega (arith, is, b.0) in
      ap (λ (n : ℕ). get_or (k ∷ order) n d) at ∙ read_place order l d (omega (arith, is, h))
]

-- A TABLE OF PLACES

-- what stands at a literal is its place
pub read_is : (n : ℕ) (order : List ℤ) (places : List ℕ) (l : ℤ) (r : ℕ) → ArePlaces n order places → is_literal n l ≡ true → r ≡ get_or places (rank_of l) r → r ≡ place_in order l
read_is n order places l r t lit is = is ∙ get_or_default places (rank_of l) r 0 (omega (arith, t.size, rank_small n l lit)) ∙ t.told l lit

-- at first each literal has the place after the last
pub places_none : (n : ℕ) (order : List ℤ) (places : List ℕ) → places ≡ replicate (2 * n + 2) (length order + 1)
    → (k : ℤ) → is_literal n k ≡ true → get_or places (rank_of k) 0 ≡ length order + place_in (drop (length order) order) k
places_none n order places e k lit =
    ap (λ (t : List ℕ). get_or t (rank_of k) 0) e
    ∙ get_or-replicate (2 * n + 2) (rank_of k) (length order + 1) 0 (rank_small n k lit)
    ∙ sym (ap (λ (ls : List ℤ). length order + place_in ls k) (drop_all (length order) order (omega arith)))

-- one literal more before the others
pub places_more : (n : ℕ) (order : List ℤ) (i j : ℕ) (l : ℤ) (places : List ℕ) → j ≡ i + 1 → i < length order → l ≡ get_or order i l → is_literal n l ≡ true → length places ≡ 2 * n + 2
    → ((k : ℤ) → is_literal n k ≡ true → get_or places (rank_of k) 0 ≡ j + place_in (drop j order) k)
    → (k : ℤ) → is_literal n k ≡ true → get_or (slice_set places (rank_of l) (i + 1)) (rank_of k) 0 ≡ i + place_in (drop i order) k
places_more n order i j l places next inside is lit size told k kit =
    let front : drop i order ≡ l ∷ drop j order = drop_read order i l inside is ∙ ap (λ (m : ℕ). l ∷ drop m order) (sym next) in
    let at = ap (λ (ls : List ℤ). i + place_in ls k) front in
    elim (cases_Bool (int_eq k l)) [
      | inl same ↦
          let here : k ≡ l = (Decides-int_eq k l).0 same in
          let one : place_in (l ∷ drop j order) k ≡ 1 = cond-true (int_eq k l) 1 (place_in (drop j order) k + 1) same in
          ap (λ (z : ℤ). get_or (slice_set places (rank_of l) (i + 1)) (rank_of z) 0) here
          ∙ get_or-set_same places (rank_of l) (i + 1) 0 (omega (arith, size, rank_small n l lit))
          ∙ sym (at ∙ ap (λ (m : ℕ). i + m) one)
      | inr other ↦
          let apart : rank_of k ≢ rank_of l = λ r. absurd (cc (other, (Decides-int_eq k l).1 (rank_apart k l r))) in
          let later : place_in (l ∷ drop j order) k ≡ place_in (drop j order) k + 1 = cond-false (int_eq k l) 1 (place_in (drop j order) k + 1) other in
          let sum : j + place_in (drop j order) k ≡ i + place_in (l ∷ drop j order) k = omega (arith, next, later) in
          get_or-set_other places (rank_of l) (rank_of k) (i + 1) 0 apart ∙ told k kit ∙ sum ∙ sym at
    ]

-- THE LEAST OF SOME PLACES

pub least_small : (order c : List ℤ) → least_place order c ≤ length order + 1
least_small order [] = omega arith
least_small order (l ∷ c) = omega (arith, least_small order c)

pub least_below : (order c : List ℤ) (l : ℤ) → contains c l ≡ true → least_place order c ≤ place_in order l
least_below order [] l there = absurd (let f : ⊥ = cc in f)
least_below order (k ∷ c) l there = elim (or_true (int_eq l k) (contains c l) there) [
  | inl here ↦ (let same : place_in order l ≡ place_in order k = ap (place_in order) ((Decides-int_eq l k).0 here) in omega (arith, same))
  | inr later ↦ omega (arith, least_below order c l later)
]

-- a literal of the list with the least place
pub record HasLeast (order c : List ℤ) : Type 0 where
  pub literal : ℤ
  pub held : contains c literal ≡ true
  pub least : place_in order literal ≡ least_place order c

pub least_held : (order c : List ℤ) → least_place order c ≤ length order → HasLeast order c
least_held order [] h = absurd (omega (arith, h))
least_held order (l ∷ c) h = elim (cases_Bool (nat_le (place_in order l) (least_place order c))) [
  | inl first ↦ record {
    literal = l;
    held = or_left (int_eq l l) (contains c l) ((Decides-int_eq l l).1 refl);
    least = (let le = leb-true (place_in order l) (least_place order c) first in omega (arith, le));
  }
  | inr later ↦
      let more : least_place order c < place_in order l = elim (cases_Bool (nat_le (place_in order l) (least_place order c))) [
        | inl p ↦ absurd (let f : ⊥ = cc (p, later) in f)
        | inr p ↦ grind (arith, le-leb (place_in order l) (least_place order c))
      ] in
      let w = least_held order c (omega (arith, more, h, (place_bounds order l).1)) in
      record {
        literal = w.literal;
        held = or_right (int_eq w.literal l) (contains c w.literal) w.held;
        least = omega (arith, w.least, more);
      }
]

-- the least place so far, and the rest of the clause
pub least_next : (order c : List ℤ) (i : ℕ) (l d : ℤ) → i < length c → l ≡ get_or c i d → least_place order (drop i c) ≡ min (place_in order l) (least_place order (drop (i + 1) c))
least_next order c i l d lt is = rw add-one (ap (least_place order) (drop-cons c i d lt) ∙ ap (λ (k : ℤ). min (place_in order k) (least_place order (drop (suc i) c))) (sym is))

pub first_small : (order : List ℤ) (cs : List (List ℤ)) → first_broken order cs ≤ length order + 1
first_small order [] = omega arith
first_small order (c ∷ cs) = omega (arith, first_small order cs)

pub first_next : (order : List ℤ) (cs : List (List ℤ)) (i : ℕ) → i < length cs → first_broken order (drop i cs) ≡ min (broken_place order (get_or cs i [])) (first_broken order (drop (i + 1) cs))
first_next order cs i lt =
    ap (first_broken order) (drop-cons cs i [] lt)
    ∙ ap (λ (k : ℕ). min (broken_place order (get_or cs i [])) (first_broken order (drop k cs))) (sym (add-one i))

-- where no clause breaks the order, the place is the one after the last
none_of : (order : List ℤ) (cs : List (List ℤ)) → ((k : ℕ) → k < length cs → nat_le (broken_place order (get_or cs k [])) (length order) ≡ false) → first_broken order cs ≡ length order + 1
none_of order [] none = refl
none_of order (c ∷ cs) none =
    let here = leb-false (broken_place order c) (length order) (none 0 (omega arith)) in
    let rest = none_of order cs (λ k inside. none (suc k) (omega (arith, inside))) in
    omega (arith, here, rest)

pub none_broken : (F : Cnf) (order : List ℤ) → find (λ p. nat_le (broken_place order (clause_at F p)) (length order)) (positions_of F) ≡ None → first_broken order F.clauses ≡ length order + 1
none_broken F order none = none_of order F.clauses (λ k inside.
    ap (λ (p : ℕ). nat_le (broken_place order (clause_at F p)) (length order)) (sym (add-one k))
    ∙ none_to (λ p. nat_le (broken_place order (clause_at F p)) (length order)) (length F.clauses) (k + 1) none (omega arith) (omega (arith, inside)))
