-- The literals of a chain's clause as a set, under the changes that a turn makes.
use Rattle.std.proofs.Common.{◌≡◌, ◌∙◌, ℕ, ◌+◌, ◌<◌, Bool, true, false, cond, not, ◌&&◌, List, [], ◌∷◌, ◌++◌, length, get_or, take, filter, All, append_assoc, refl, sym, ap, subst, ℤ, inl, inr}
use Rattle.std.specs.List.{list_any, list_all}
use Rattle.std.specs.Ordering.{int_eq}
use Rattle.std.proofs.lemmas.Bool.{cases_Bool}
use Rattle.std.proofs.lemmas.Bool.Decides.{Decides-int_eq}
use Rattle.std.proofs.lemmas.List.{take_more, append-nil}
use Rattle.std.proofs.lemmas.List.Folds.{list_any_none}
use Rattle.lk_model.specs.Lists.{is_empty}
use Rattle.lk_model.specs.Formulas.Literal.{variable, contains, is_literal, is_within, is_same_set, rank_of}
use Rattle.lk_model.specs.Formulas.Crossed.{Variables, crossed_out}
use Rattle.lk_model.specs.Chains.Chain.{without}
use Rattle.lk_model.proofs.Booleans.{or_left}
use Rattle.lk_model.proofs.Literals.{contains_filter, literal_at}
use Rattle.lk_model.proofs.ListTests.{passes_one, passes_each}
use Rattle.check_rounds.specs.declared.work.Work.{Work}
use Rattle.check_tables.specs.LiteralSets.{has_literal, without_literal, less, IsSetOf}
use Rattle.check_rounds.specs.Chains.{IsWork}
use Rattle.check_tables.proofs.LiteralSetLemmas.{set_less, rank_within, all_told}

-- CHANGES

pub work_removed : (n : ℕ) (c : List ℤ) (l : ℤ) (w v : Work) → is_literal n l ≡ true → v.flags ≡ without_literal w.flags l → v.literals.items ≡ w.literals.items
    → IsWork n c w → IsWork n (without c l) v
work_removed n c l w v lit flags items h = record {
  set = subst (λ (fs : List Bool). IsSetOf n (without c l) fs) (sym flags) (set_less n c l w.flags lit h.set);
  listed = λ k e. ap (λ (ls : List ℤ). contains ls k) items ∙ h.listed k (right (not (int_eq k l)) (contains c k) (sym (contains_filter (λ (z : ℤ). not (int_eq z l)) c k) ∙ e));
  literals = ap (list_all (is_literal n)) items ∙ h.literals;
}
  where
    right : (a b : Bool) → (a && b) ≡ true → b ≡ true
    right true b e = e
    right false b e = absurd (let f : ⊥ = cc in f)

-- ONE LITERAL MORE OF A CLAUSE

pub filter-push : (t : ℤ → Bool) (c : List ℤ) (l : ℤ) → filter t (c ++ l ∷ []) ≡ filter t c ++ cond (t l) (l ∷ []) []
filter-push t [] l = elim (cases_Bool (t l)) [ inl y ↦ rw y refl | inr n ↦ rw n refl ]
filter-push t (k ∷ c) l = elim (cases_Bool (t k)) [ inl y ↦ rw y (ap (λ (ls : List ℤ). k ∷ ls) (filter-push t c l)) | inr n ↦ rw n (filter-push t c l) ]

-- it passes the test, and is put in
pub kept_more : (n : ℕ) (t : ℤ → Bool) (c clause : List ℤ) (i : ℕ) (l : ℤ) (w v : Work) → i < length clause → l ≡ get_or clause i l → t l ≡ true
    → (IsWork n (c ++ filter t (take i clause)) w → IsWork n ((c ++ filter t (take i clause)) ++ l ∷ []) v)
    → IsWork n (c ++ filter t (take i clause)) w → IsWork n (c ++ filter t (take (i + 1) clause)) v
kept_more n t c clause i l w v lt is passes step h =
    let more : filter t (take (i + 1) clause) ≡ filter t (take i clause) ++ l ∷ [] =
    ap (filter t) (take_more clause i l lt ∙ ap (λ (k : ℤ). take i clause ++ k ∷ []) (sym is)) ∙ filter-push t (take i clause) l
    ∙ ap (λ (b : Bool). filter t (take i clause) ++ cond b (l ∷ []) []) passes in
    subst (λ (ls : List ℤ). IsWork n ls v) (append_assoc c (filter t (take i clause)) (l ∷ []) ∙ ap (λ (ls : List ℤ). c ++ ls) (sym more)) (step h)

-- it fails
pub kept_none : (n : ℕ) (t : ℤ → Bool) (c clause : List ℤ) (i : ℕ) (l : ℤ) (w : Work) → i < length clause → l ≡ get_or clause i l → t l ≡ false
    → IsWork n (c ++ filter t (take i clause)) w → IsWork n (c ++ filter t (take (i + 1) clause)) w
kept_none n t c clause i l w lt is fails h =
    let same : filter t (take i clause) ≡ filter t (take (i + 1) clause) =
    sym (ap (filter t) (take_more clause i l lt ∙ ap (λ (k : ℤ). take i clause ++ k ∷ []) (sym is)) ∙ filter-push t (take i clause) l
    ∙ ap (λ (b : Bool). filter t (take i clause) ++ cond b (l ∷ []) []) fails ∙ append-nil (filter t (take i clause))) in
    subst (λ (ls : List ℤ). IsWork n (c ++ ls) w) same h

-- two filters are one
pub without_crossed : (blocked : Variables) (c : List ℤ) (l : ℤ) → without (crossed_out blocked c) l ≡ filter (λ k. not (int_eq k l) && not (blocked (variable k))) c
without_crossed blocked [] l = refl
without_crossed blocked (k ∷ c) l = elim (cases_Bool (blocked (variable k))) [
  | inl y ↦ rw (y, gone (int_eq k l)) (without_crossed blocked c l)
  | inr n ↦ elim (cases_Bool (int_eq k l)) [
    | inl e ↦ rw (n, e) (without_crossed blocked c l)
    | inr e ↦ rw (n, e) (ap (λ (ls : List ℤ). k ∷ ls) (without_crossed blocked c l))
  ]
]
  where
    gone : (b : Bool) → (not b && false) ≡ false
    gone true = refl
    gone false = refl

-- some literals are taken out
pub work_less : (n : ℕ) (c d : List ℤ) (w v : Work) → IsWork n c w → IsSetOf n (less c d) v.flags → v.literals.items ≡ w.literals.items → IsWork n (less c d) v
work_less n c d w v h flags items = record {
  set = flags;
  listed = λ k e. ap (λ (ls : List ℤ). contains ls k) items ∙ h.listed k (right (not (contains d k)) (contains c k) (sym (contains_filter (λ (z : ℤ). not (contains d z)) c k) ∙ e));
  literals = ap (list_all (is_literal n)) items ∙ h.literals;
}
  where
    right : (a b : Bool) → (a && b) ≡ true → b ≡ true
    right true b e = e
    right false b e = absurd (let f : ⊥ = cc in f)

-- all that are listed are taken out
pub work_cleared : (n : ℕ) (c : List ℤ) (w v : Work) → IsWork n c w → IsSetOf n (less c w.literals.items) v.flags → v.literals.items ≡ [] → IsWork n [] v
work_cleared n c w v h g items = record {
  set = record {
    small = g.small;
    size = g.size;
    told = λ k kit.
        g.told k kit ∙ contains_filter (λ (z : ℤ). not (contains w.literals.items z)) c k
        ∙ none (contains w.literals.items k) (contains c k) (h.listed k);
  };
  listed = λ k e. absurd (let f : ⊥ = cc in f);
  literals = ap (list_all (is_literal n)) items;
}
  where
    none : (a b : Bool) → (b ≡ true → a ≡ true) → (not a && b) ≡ false
    none true b f = refl
    none false true f = absurd (let g : ⊥ = cc (f refl) in g)
    none false false f = refl

-- TESTS

-- it is empty where no listed literal has a flag
pub empty_told : (n : ℕ) (c : List ℤ) (w : Work) → IsWork n c w → not (list_any (has_literal w.flags) w.literals.items) ≡ is_empty c
empty_told n [] w h = ap not (none w.literals.items h.literals)
  where
    none : (ls : List ℤ) → list_all (is_literal n) ls ≡ true → list_any (has_literal w.flags) ls ≡ false
    none ls all = list_any_none (has_literal w.flags) ls (λ i d lt. h.set.told (get_or ls i d) (literal_at n ls i d all lt))
empty_told n (k ∷ c) w h =
    let here : contains (k ∷ c) k ≡ true = or_left (int_eq k k) (contains c k) ((Decides-int_eq k k).1 refl) in
    let there = h.listed k here in
    let lit = passes_each (is_literal n) w.literals.items k h.literals there in
    ap not (passes_one (has_literal w.flags) w.literals.items k there (h.set.told k lit ∙ here))

-- each literal of the list has a place
pub listed_within : (n : ℕ) (c : List ℤ) (w : Work) → IsWork n c w → All (λ l. rank_of l < length w.flags) w.literals.items
listed_within n c w h = λ i d lt. rank_within n (get_or w.literals.items i d) w.flags h.set.size (literal_at n w.literals.items i d h.literals lt)

-- a clause is within another where nothing is left without this
pub within_less : (c d : List ℤ) → is_empty (less c d) ≡ is_within c d
within_less [] d = refl
within_less (l ∷ c) d = elim (cases_Bool (contains d l)) [ inl y ↦ rw y (within_less c d) | inr n ↦ rw n refl ]

-- the same clauses, where the literals of the one are in the other
pub same_left : (n : ℕ) (c clause : List ℤ) (w : Work) (all : Bool) → list_all (is_literal n) clause ≡ true → IsWork n c w → all ≡ list_all (has_literal w.flags) clause → all ≡ false
    → false ≡ is_same_set clause c
same_left n c clause w all literals h told e =
    let within : is_within clause c ≡ false = sym (all_told n c clause w.flags h.set literals) ∙ sym told ∙ e in
    rw within refl

pub same_right : (n : ℕ) (c clause : List ℤ) (w : Work) (all empty : Bool) → list_all (is_literal n) clause ≡ true → IsWork n c w → all ≡ list_all (has_literal w.flags) clause → all ≡ true
    → empty ≡ is_empty (less c clause) → empty ≡ is_same_set clause c
same_right n c clause w all empty literals h told e is =
    let within : is_within clause c ≡ true = sym (all_told n c clause w.flags h.set literals) ∙ sym told ∙ e in
    is ∙ within_less c clause ∙ sym (ap (λ (b : Bool). b && is_within c clause) within)
