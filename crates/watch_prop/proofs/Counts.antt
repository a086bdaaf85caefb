-- Lists with room for the clauses that have a literal, when one more comes.
use Rattle.std.proofs.Common.{◌≡◌, ◌≢◌, ℕ, zero, suc, ◌+◌, ◌<◌, true, false, not, ◌||◌, nat_lt, List, [], ◌∷◌, ◌++◌, refl, sym, ◌∙◌, ap, subst, arith, ℤ, length, take, drop, get_or, set, inl, inr, ◌⊎◌, Vec, vec_capacity}
use Rattle.std.specs.declared.alloc.Global.{Global}
use Rattle.std.specs.List.{list_all}
use Rattle.std.specs.Ordering.{int_eq}
use Rattle.std.proofs.lemmas.Bool.{cases_eq, ltb-true, not-true}
use Rattle.std.proofs.lemmas.List.{get_or-set_same, get_or-set_other, length-set, take_more}
use Rattle.std.proofs.lemmas.List.Folds.{list_any-append}
use Rattle.lk_model.specs.Formulas.Literal.{contains, is_distinct, rank_of}
use Rattle.lk_model.proofs.Booleans.{and_true, or_true, or_left, or_right}
use Rattle.lk_model.proofs.Ranks.{rank_apart}
use Rattle.lk_model.proofs.Literals.{same_int}
use Rattle.lk_model.proofs.Lists.{drop_read}
use Rattle.watch_prop.specs.declared.watcher_lists.Watcher.{Watcher}
use Rattle.watch_prop.specs.Watchers.{count_of, with_counted}
use Rattle.watch_prop.specs.HeldWatchers.{HasRoom}
use Rattle.watch_prop.proofs.Roomy.{HaveRooms}
use Rattle.watch_prop.proofs.Truths.{same_true}

-- THE LITERALS OF A CLAUSE, ONE AFTER ANOTHER

abbrev pub HaveRanks : List ℤ → ℕ → Type 0
HaveRanks c n = list_all (λ l. nat_lt (rank_of l) n) c ≡ true

-- one more of them
pub contains_more : (c : List ℤ) (i : ℕ) (l k : ℤ) → i < length c → l ≡ get_or c i l → contains (take (i + 1) c) k ≡ true → (contains (take i c) k ≡ true) ⊎ (k ≡ l)
contains_more c i l k lt e h =
    let split : take (i + 1) c ≡ take i c ++ l ∷ [] = take_more c i l lt ∙ ap (λ (m : ℤ). take i c ++ m ∷ []) (sym e) in
    let both : (contains (take i c) k || contains (l ∷ []) k) ≡ true = sym (list_any-append (int_eq k) (take i c) (l ∷ [])) ∙ sym (ap (λ (ls : List ℤ). contains ls k) split) ∙ h in
    elim (or_true (contains (take i c) k) (contains (l ∷ []) k) both) [
      | inl y ↦ inl y
      | inr y ↦ elim (or_true (int_eq k l) false y) [
        | inl z ↦ inr (same_int k l z)
        | inr z ↦ absurd (let f : ⊥ = cc in f)
      ]
    ]

distinct_rest : (c : List ℤ) (i : ℕ) → is_distinct c ≡ true → is_distinct (drop i c) ≡ true
distinct_rest c zero h = h
distinct_rest [] (suc i) h = refl
distinct_rest (l ∷ c) (suc i) h = distinct_rest c i (and_true (not (contains c l)) (is_distinct c) h).1

-- it is none of those after it
pub none_after : (c : List ℤ) (i : ℕ) (l : ℤ) → is_distinct c ≡ true → i < length c → l ≡ get_or c i l → contains (drop (i + 1) c) l ≡ false
none_after c i l h lt e =
    let d : is_distinct (l ∷ drop (i + 1) c) ≡ true = subst (λ (ls : List ℤ). is_distinct ls ≡ true) (drop_read c i l lt e) (distinct_rest c i h) in
    not-true (contains (drop (i + 1) c) l) (and_true (not (contains (drop (i + 1) c) l)) (is_distinct (drop (i + 1) c)) d).0

pub rank_at : (c : List ℤ) (i n : ℕ) (l : ℤ) → HaveRanks c n → i < length c → l ≡ get_or c i l → rank_of l < n
rank_at c i n l h lt e = subst (λ (k : ℤ). rank_of k < n) (sym e) (at c i h lt)
  where
    at : (c : List ℤ) (i : ℕ) → HaveRanks c n → i < length c → rank_of (get_or c i l) < n
    at [] i h lt = absurd (omega arith)
    at (k ∷ c) zero h lt = ltb-true (rank_of k) n (and_true (nat_lt (rank_of k) n) (list_all (λ m. nat_lt (rank_of m) n) c) h).0
    at (k ∷ c) (suc i) h lt = at c i (and_true (nat_lt (rank_of k) n) (list_all (λ m. nat_lt (rank_of m) n) c) h).1 (omega arith)

pub other_rank : (l k : ℤ) → k ≢ l → rank_of k ≢ rank_of l
other_rank l k apart e = apart (rank_apart k l e)

-- HOW MANY CLAUSES HAVE A LITERAL

pub counted_long : (counts : List ℕ) (c : List ℤ) → length (with_counted counts c) ≡ length counts
counted_long counts [] = refl
counted_long counts (l ∷ c) = counted_long (set counts (rank_of l) (count_of counts l + 1)) c ∙ length-set counts (rank_of l) (count_of counts l + 1)

-- the count at a rank rises where a literal of the clause has it
pub data IsCount (counts : List ℕ) (c : List ℤ) (r : ℕ) : Type 0 where
  rises : (l : ℤ) → contains c l ≡ true → rank_of l ≡ r → get_or (with_counted counts c) r 0 ≡ get_or counts r 0 + 1 → IsCount counts c r
  stays : ((l : ℤ) → contains c l ≡ true → rank_of l ≢ r) → get_or (with_counted counts c) r 0 ≡ get_or counts r 0 → IsCount counts c r

pub count_at : (counts : List ℕ) (c : List ℤ) (r : ℕ) → is_distinct c ≡ true → HaveRanks c (length counts) → IsCount counts c r
count_at counts [] r d h = stays (λ l e. absurd (let f : ⊥ = cc in f)) refl
count_at counts (l ∷ c) r d h =
    let parts = and_true (not (contains c l)) (is_distinct c) d in
    let ranks = and_true (nat_lt (rank_of l) (length counts)) (list_all (λ l. nat_lt (rank_of l) (length counts)) c) h in
    let long = length-set counts (rank_of l) (count_of counts l + 1) in
    let low = ltb-true (rank_of l) (length counts) ranks.0 in
    at (count_at more c r parts.1 (subst (λ (n : ℕ). HaveRanks c n) (sym long) ranks.1)) (not-true (contains c l) parts.0) low
  where
    more : List ℕ
    more = set counts (rank_of l) (count_of counts l + 1)

    here : rank_of l ≡ r → rank_of l < length counts → get_or more r 0 ≡ get_or counts r 0 + 1
    here e low = subst (λ (n : ℕ). get_or more n 0 ≡ get_or counts n 0 + 1) e (get_or-set_same counts (rank_of l) (count_of counts l + 1) 0 low)

    other : rank_of l ≢ r → get_or more r 0 ≡ get_or counts r 0
    other n = get_or-set_other counts (rank_of l) r (count_of counts l + 1) 0 (λ e. n (sym e))

    at : IsCount more c r → contains c l ≡ false → rank_of l < length counts → IsCount counts (l ∷ c) r
    at (rises m there same e) out low =
        let apart : rank_of l ≢ r = λ q. (let z : true ≡ false = sym (subst (λ (k : ℤ). contains c k ≡ true) (rank_apart m l (same ∙ sym q)) there) ∙ out in let f : ⊥ = cc in f) in
        rises m (or_right (int_eq m l) (contains c m) there) same (e ∙ ap (λ (n : ℕ). n + 1) (other apart))
    at (stays none e) out low = elim (cases_eq (rank_of l) r) [
      | inl y ↦ rises l (or_left (int_eq l l) (contains c l) (same_true l l refl)) y (e ∙ here y low)
      | inr y ↦ stays (λ k there. elim (or_true (int_eq k l) (contains c k) there) [
        | inl z ↦ (λ q. y (ap rank_of (sym (same_int k l z)) ∙ q))
        | inr z ↦ none k z
      ]) (e ∙ other y)
    ]

-- the lists have room for a clause that is counted
pub rooms_then : (lists : List (Vec Watcher Global)) (counts : List ℕ) (c : List ℤ) → is_distinct c ≡ true → HaveRanks c (length counts) → HaveRooms lists counts
    → ((l : ℤ) (d : Vec Watcher Global) → contains c l ≡ true → count_of counts l < vec_capacity (get_or lists (rank_of l) d)) → HaveRooms lists (with_counted counts c)
rooms_then lists counts c distinct ranks rooms room = record { each = λ r d lt. at r d (rooms.each r d lt) (count_at counts c r distinct ranks) }
  where
    at : (r : ℕ) (d : Vec Watcher Global) → HasRoom (get_or lists r d) (get_or counts r 0) → IsCount counts c r → HasRoom (get_or lists r d) (get_or (with_counted counts c) r 0)
    at r d h (rises l there same e) =
        let low = h.0 in
        let wide : get_or counts r 0 < vec_capacity (get_or lists r d) = subst (λ (n : ℕ). get_or counts n 0 < vec_capacity (get_or lists n d)) same (room l d there) in
        (omega (arith, low, e), omega (arith, wide, e))
    at r d h (stays none e) = let low = h.0 in let high = h.1 in (omega (arith, low, e), omega (arith, high, e))
