-- The kernel of the live clauses, by their numbers.
use Rattle.std.proofs.Common.{◌≡◌, ℕ, zero, suc, ◌<◌, ◌≤◌, Bool, true, false, cond, ◌&&◌, ◌==◌, nat_lt, nat_le, List, [], ◌∷◌, length, map, get_or, refl, sym, ◌∙◌, ap, subst, arith, inl, inr, IsTrue, ℤ}
use Rattle.std.specs.List.{list_any}
use Rattle.std.proofs.Math.ListN.{get_or-map}
use Rattle.std.proofs.lemmas.Bool.{eqb-true, eq-eqb, both_ways, lt-ltb, le-leb, leb-true, ltb-false}
use Rattle.std.proofs.lemmas.List.{length-map}
use Rattle.lk_model.specs.declared.class.Class.TheVariants as class
use Rattle.lk_model.specs.Lists.{among, rises_within}
use Rattle.lk_model.specs.Formulas.Literal.{variable}
use Rattle.lk_model.specs.Formulas.Assignment.{Assignment, makes_true, touches}
use Rattle.lk_model.specs.Formulas.Autarky.{Positions, Within, IsMatchingAutarky}
use Rattle.lk_model.specs.Formulas.Formula.{Cnf, clause_at, clauses_at}
use Rattle.lk_model.specs.Formulas.Lean.{IsLean, KernelWithin, are_positions, all_of}
use Rattle.lk_model.proofs.Booleans.{and_true, or_true}
use Rattle.lk_model.proofs.Lists.{among_at, among_here, among_later, in_mapped, from_mapped}
use Rattle.lk_model.proofs.Rising.{rises, rising_bounds}
use Rattle.edit_text.specs.LiveClauses.{LiveClauses, number_at}
use Rattle.match_edits.specs.LiveKernel.{IsLiveKernel}

-- PLACES

-- the position in the formula of the live clauses of the one with a number
pub place_in : List ℕ → ℕ → ℕ
place_in [] k = 0
place_in (x ∷ xs) k = cond (x == k) 1 (suc (place_in xs k))

read_later : (x : ℕ) (xs : List ℕ) (p : ℕ) → 0 < p → get_or (x ∷ xs) p 0 ≡ number_at xs p
read_later x xs zero l = absurd (omega (arith, l))
read_later x xs (suc p) l = refl

pub record IsPlaced (xs : List ℕ) (k p : ℕ) : Type 0 where
  pub some : 0 < p
  pub most : p ≤ length xs
  pub is : number_at xs p ≡ k

pub placed : (xs : List ℕ) (k : ℕ) → among xs k ≡ true → IsPlaced xs k (place_in xs k)
unfolding place_in
placed [] k e = absurd (let f : ⊥ = cc in f)
placed (x ∷ xs) k e = at_test (placed xs k) (x == k) refl
  where
    at_test : (among xs k ≡ true → IsPlaced xs k (place_in xs k)) → (b : Bool) → (x == k) ≡ b → IsPlaced (x ∷ xs) k (cond b 1 (suc (place_in xs k)))
    at_test rest true t = record { some = omega arith; most = omega arith; is = eqb-true x k t }
    at_test rest false t = elim (or_true (x == k) (among xs k) e) [
      | inl s ↦ absurd (both_ways (x == k) t s)
      | inr later ↦ (let w = rest later in let m = w.most in
          record { some = omega arith; most = omega (arith, m); is = read_later x xs (place_in xs k) w.some ∙ w.is })
    ]

pub place_back : (low high : ℕ) (xs : List ℕ) (p : ℕ) → rises_within low high xs ≡ true → 0 < p → p ≤ length xs → place_in xs (number_at xs p) ≡ p
unfolding place_in
place_back low high xs zero r l m = absurd (omega (arith, l))
place_back low high [] (suc p) r l m = absurd (omega (arith, m))
place_back low high (x ∷ xs) (suc zero) r l m = ap (λ b. cond b 1 (suc (place_in xs x))) (eq-eqb x x refl)
place_back low high (x ∷ xs) (suc (suc p)) r l m =
    let s = rises low high x xs r in
    let above = (rising_bounds x high xs p s.more (omega (arith, m))).0 in
    at_test (x == get_or xs p 0) refl above (place_back x high xs (suc p) s.more (omega arith) (omega (arith, m)))
  where
    at_test : (b : Bool) → (x == get_or xs p 0) ≡ b → x < get_or xs p 0 → place_in xs (get_or xs p 0) ≡ suc p → cond b 1 (suc (place_in xs (get_or xs p 0))) ≡ suc (suc p)
    at_test true t a h = absurd (let f = eqb-true x (get_or xs p 0) t in omega (arith, f, a))
    at_test false t a h = ap suc h

number_among : (xs : List ℕ) (p : ℕ) → 0 < p → p ≤ length xs → among xs (number_at xs p) ≡ true
number_among xs zero l m = absurd (omega (arith, l))
number_among xs (suc p) l m = among_at xs p (omega (arith, m))

clause_same : (F : Cnf) (live : List ℕ) (p : ℕ) → clause_at (clauses_at F live) p ≡ clause_at F (number_at live p)
clause_same F live zero = refl
clause_same F live (suc p) = get_or-map (clause_at F) live p 0

-- numbers rise with their places
numbers_rise : (low high : ℕ) (xs : List ℕ) (p q : ℕ) → rises_within low high xs ≡ true → 0 < p → p ≤ q → q ≤ length xs → number_at xs p ≤ number_at xs q
numbers_rise low high xs zero q r l h m = absurd (omega (arith, l))
numbers_rise low high xs (suc p) zero r l h m = absurd (omega (arith, h))
numbers_rise low high [] (suc p) (suc q) r l h m = absurd (omega (arith, m))
numbers_rise low high (x ∷ xs) (suc zero) (suc zero) r l h m = omega arith
numbers_rise low high (x ∷ xs) (suc zero) (suc (suc q)) r l h m =
    let s = rises low high x xs r in let b = (rising_bounds x high xs q s.more (omega (arith, m))).0 in omega (arith, b)
numbers_rise low high (x ∷ xs) (suc (suc p)) (suc zero) r l h m = absurd (omega (arith, h))
numbers_rise low high (x ∷ xs) (suc (suc p)) (suc (suc q)) r l h m =
    let s = rises low high x xs r in numbers_rise x high xs (suc p) (suc q) s.more (omega arith) (omega (arith, h)) (omega (arith, m))

place_less : (low high : ℕ) (xs : List ℕ) (k l : ℕ) → rises_within low high xs ≡ true → among xs k ≡ true → among xs l ≡ true → k < l → place_in xs k < place_in xs l
place_less low high xs k l r a b h = at_test (nat_lt (place_in xs k) (place_in xs l)) refl
  where
    at_test : (t : Bool) → nat_lt (place_in xs k) (place_in xs l) ≡ t → place_in xs k < place_in xs l
    at_test true e = leb-true (suc (place_in xs k)) (place_in xs l) e
    at_test false e =
        let v = placed xs k a in let w = placed xs l b in
        let le = numbers_rise low high xs (place_in xs l) (place_in xs k) r w.some (ltb-false (place_in xs k) (place_in xs l) e) v.most in
        absurd (let x = v.is in let y = w.is in omega (arith, le, x, y, h))

-- PLACES OF A LIST OF NUMBERS

places_rise : (floor high : ℕ) (live : List ℕ) (low top a : ℕ) (ks : List ℕ) → rises_within floor high live ≡ true → rises_within low top ks ≡ true → ((k : ℕ) → among ks k ≡ true → among live k ≡ true)
    → ((k : ℕ) → among live k ≡ true → low < k → a < place_in live k) → rises_within a (length live) (map (place_in live) ks) ≡ true
places_rise floor high live low top a [] r s within above = refl
places_rise floor high live low top a (k ∷ ks) r s within above =
    let b = rises low top k ks s in
    let here = within k (among_here k ks) in
    let rest = places_rise floor high live k top (place_in live k) ks r b.more (λ l e. within l (among_later k l ks e)) (λ l e h. place_less floor high live k l r here e h) in
    rw (lt-ltb a (place_in live k) (above k here b.above), le-leb (place_in live k) (length live) (placed live k here).most, rest) refl

back_again : (live ks : List ℕ) → ((k : ℕ) → among ks k ≡ true → among live k ≡ true) → ks ≡ map (number_at live) (map (place_in live) ks)
back_again live [] within = refl
back_again live (k ∷ ks) within =
    ap (λ (x : ℕ). x ∷ ks) (sym (placed live k (within k (among_here k ks))).is)
    ∙ ap (λ (xs : List ℕ). number_at live (place_in live k) ∷ xs) (back_again live ks (λ l e. within l (among_later k l ks e)))

-- LEAN SETS

-- the clauses of the one set are those of the other
record IsMoved (F G : Cnf) (S T : Positions) (f g : ℕ → ℕ) : Type 0 where
  there : (p : ℕ) → IsTrue (S p) → IsTrue (T (f p))
  clause : (p : ℕ) → IsTrue (S p) → clause_at G (f p) ≡ clause_at F p
  back : (k : ℕ) → IsTrue (T k) → IsTrue (S (g k))
  clause_back : (k : ℕ) → IsTrue (T k) → clause_at F (g k) ≡ clause_at G k
  once : (k l : ℕ) → IsTrue (T k) → IsTrue (T l) → g k ≡ g l → k ≡ l

lean_moved : (F G : Cnf) (S T : Positions) (f g : ℕ → ℕ) → IsMoved F G S T f g → IsLean class.Matching G T → IsLean class.Matching F S
lean_moved F G S T f g m h = λ φ a p s t. h φ (moved φ a) (f p) (m.there p s) (subst (λ (c : List ℤ). IsTrue (touches φ c)) (sym (m.clause p s)) t)
  where
    moved : (φ : Assignment) → IsMatchingAutarky F S φ → IsMatchingAutarky G T φ
    moved φ a = record {
      own = λ k. a.own (g k);
      is_true = λ k i t. subst (λ (c : List ℤ). IsTrue (list_any (λ l. makes_true φ l && (variable l == a.own (g k))) c)) (m.clause_back k i)
          (a.is_true (g k) (m.back k i) (subst (λ (c : List ℤ). IsTrue (touches φ c)) (sym (m.clause_back k i)) t));
      differ = λ k l i j t u e. m.once k l i j (a.differ (g k) (g l) (m.back k i) (m.back l j)
          (subst (λ (c : List ℤ). IsTrue (touches φ c)) (sym (m.clause_back k i)) t) (subst (λ (c : List ℤ). IsTrue (touches φ c)) (sym (m.clause_back l j)) u) e);
    }

-- THE KERNEL

pub live_kernel : (s : LiveClauses) (numbers : List ℕ) → are_positions s.held s.live ≡ true → KernelWithin class.Matching s.held s.live numbers → IsLiveKernel s numbers
live_kernel s numbers r k = record {
  kept = map (place_in s.live) numbers;
  kernel = record {
    positions = subst (λ (n : ℕ). rises_within 0 n (map (place_in s.live) numbers) ≡ true) (sym long)
        (places_rise 0 (length s.held.clauses) s.live 0 (length s.held.clauses) 0 numbers r k.positions k.within (λ l e h. (placed s.live l e).some));
    lean = lean_moved G s.held (among (map (place_in s.live) numbers)) (among numbers) (number_at s.live) (place_in s.live) kept_moved k.lean;
    largest = largest;
  };
  are = back_again s.live numbers k.within;
}
  where
    G : Cnf
    G = clauses_at s.held s.live

    long : length G.clauses ≡ length s.live
    long = length-map s.live (clause_at s.held)

    clause_placed : (l : ℕ) → among s.live l ≡ true → clause_at G (place_in s.live l) ≡ clause_at s.held l
    clause_placed l e = clause_same s.held s.live (place_in s.live l) ∙ ap (clause_at s.held) (placed s.live l e).is

    kept_moved : IsMoved G s.held (among (map (place_in s.live) numbers)) (among numbers) (number_at s.live) (place_in s.live)
    kept_moved = record {
      there = λ p e. let w = from_mapped (place_in s.live) numbers p e in
          subst (λ x. among numbers x ≡ true) (sym (placed s.live w.0 (k.within w.0 w.1)).is ∙ ap (number_at s.live) w.2) w.1;
      clause = λ p e. sym (clause_same s.held s.live p);
      back = λ l e. in_mapped (place_in s.live) numbers l e;
      clause_back = λ l e. clause_placed l (k.within l e);
      once = λ l n e f same. sym (placed s.live l (k.within l e)).is ∙ ap (number_at s.live) same ∙ (placed s.live n (k.within n f)).is;
    }

    largest : (S : Positions) → Within S (all_of G) → IsLean class.Matching G S → Within S (among (map (place_in s.live) numbers))
    largest S inside lean p e =
        subst (λ x. among (map (place_in s.live) numbers) x ≡ true) (there p e)
        (in_mapped (place_in s.live) numbers (number_at s.live p)
        (k.largest (λ l. among s.live l && S (place_in s.live l)) (λ l b. (and_true (among s.live l) (S (place_in s.live l)) b).0)
        (lean_moved s.held G (λ l. among s.live l && S (place_in s.live l)) S (place_in s.live) (number_at s.live) moved lean)
        (number_at s.live p) (moved.back p e)))
      where
        bounds : (q : ℕ) → IsTrue (S q) → (0 < q) × (q ≤ length s.live)
        bounds q b =
            let w = and_true (nat_le 1 q) (nat_le q (length G.clauses)) (inside q b) in
            let low = leb-true 1 q w.0 in let high = leb-true q (length G.clauses) w.1 in (low, omega (arith, high, long))

        there : (q : ℕ) → IsTrue (S q) → place_in s.live (number_at s.live q) ≡ q
        there q b = place_back 0 (length s.held.clauses) s.live q r (bounds q b).0 (bounds q b).1

        moved : IsMoved s.held G (λ l. among s.live l && S (place_in s.live l)) S (place_in s.live) (number_at s.live)
        moved = record {
          there = λ l b. (and_true (among s.live l) (S (place_in s.live l)) b).1;
          clause = λ l b. clause_placed l (and_true (among s.live l) (S (place_in s.live l)) b).0;
          back = λ q b. rw (number_among s.live q (bounds q b).0 (bounds q b).1, there q b) b;
          clause_back = λ q b. sym (clause_same s.held s.live q);
          once = λ q t b d same. sym (there q b) ∙ ap (place_in s.live) same ∙ there t d;
        }
