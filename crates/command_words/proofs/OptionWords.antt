-- The words of options and their values.
use Rattle.std.proofs.Common.{◌≡◌, ℕ, ◌≤◌, ◌∙◌, Bool, true, false, not, ◌&&◌, ◌||◌, ◌==◌, List, [], ◌∷◌, Option, Some, None, refl, ap, sym, inl, inr, cond, unwrap_or, option_and_then, nat_le, map, arith, ◌<◌, ◌^◌}
use Rattle.std.specs.List.{list_all, list_any}
use Rattle.std.specs.Option.{option_map_or}
use Rattle.std.specs.Str.{bytes_eq}
use Rattle.std.proofs.lemmas.Bool.{cases_Bool, leb-true, eqb-true}
use Rattle.std.proofs.lemmas.Slice.Eq.{bytes_eq-Decides}
use Rattle.lk_model.specs.Texts.Lines.{Word}
use Rattle.lk_model.specs.Texts.NumberWords.{natural}
use Rattle.lk_model.proofs.Booleans.{and_true, or_true}
use Rattle.command_words.specs.Settings.{Key, conflicts, is_in_range, is_number_of, is_value_of, is_allowed, sets, parts_of, number_within, value_behind, option_number}
use Rattle.command_words.specs.OptionRows.{number_or, number_given}
use Rattle.command_words.specs.OptionPlaces.{is_new, is_value}
use Rattle.command_words.specs.declared.range.Range.{Range}
use Rattle.command_words.proofs.LawfulOptions.{fits}

-- ONE WORD, ONE OPTION

abbrev same_bit : Bool → Bool → Bool
same_bit true b = b
same_bit false b = not b

-- both have the same values
abbrev is_same : Key → Key → Bool
is_same k key = same_bit k.is_list key.is_list && ((k.numbers.least == key.numbers.least) && (k.numbers.greatest == key.numbers.greatest))

-- whichever of the keys has the option's word has its values
abbrev pub agrees : List Key → Key → Bool
agrees keys key = list_all (λ (k : Key). not (bytes_eq k.word key.word) || is_same k key) keys

pub any_map : {X Y : Type 0} (p : X → Bool) (h : Y → X) (ys : List Y) → list_any p (map h ys) ≡ list_any (λ (y : Y). p (h y)) ys
any_map p h [] = refl
any_map p h (y ∷ ys) = ap (λ (b : Bool). p (h y) || b) (any_map p h ys)

-- the one of the keys with the option's word has its values
same_value : (k key : Key) (w : Word) → is_same k key ≡ true → is_value_of k w ≡ is_value_of key w
same_value k key w e =
    let p = and_true (same_bit k.is_list key.is_list) ((k.numbers.least == key.numbers.least) && (k.numbers.greatest == key.numbers.greatest)) e in
    let q = and_true (k.numbers.least == key.numbers.least) (k.numbers.greatest == key.numbers.greatest) p.1 in
    let least = eqb-true k.numbers.least key.numbers.least q.0 in
    let greatest = eqb-true k.numbers.greatest key.numbers.greatest q.1 in
    by k.is_list key.is_list k.numbers.least k.numbers.greatest (bit k.is_list key.is_list p.0) least greatest
  where
    bit : (a b : Bool) → same_bit a b ≡ true → a ≡ b
    bit true true e = refl
    bit true false e = absurd (let f : ⊥ = cc e in f)
    bit false true e = absurd (let f : ⊥ = cc e in f)
    bit false false e = refl

    value : Bool → ℕ → ℕ → Bool
    value l m n = is_value_of (record { word = key.word; is_list = l; numbers = record { least = m; greatest = n } }) w

    by : (l l' : Bool) (m n : ℕ) → l ≡ l' → m ≡ key.numbers.least → n ≡ key.numbers.greatest → value l m n ≡ value l' key.numbers.least key.numbers.greatest
    by l l' m n e f g = ap (λ (b : Bool). value b m n) e ∙ ap (λ (a : ℕ). value l' a n) f ∙ ap (λ (b : ℕ). value l' key.numbers.least b) g

allowed_is : (keys : List Key) (key : Key) (word value : Word) → agrees keys key ≡ true → bytes_eq word key.word ≡ true → is_allowed keys (word, value) ≡ true → is_value_of key value ≡ true
allowed_is [] key word value a e h = absurd (let f : ⊥ = cc h in f)
allowed_is (k ∷ keys) key word value a e h =
    let p = and_true (not (bytes_eq k.word key.word) || is_same k key) (agrees keys key) a in
    elim (or_true (sets k (word, value) && is_value_of k value) (is_allowed keys (word, value)) h) [
      | inl here ↦
          let q = and_true (sets k (word, value)) (is_value_of k value) here in
          let one : bytes_eq k.word key.word ≡ true = (bytes_eq-Decides k.word key.word).1 ((bytes_eq-Decides k.word word).0 q.0 ∙ (bytes_eq-Decides word key.word).0 e) in
          sym (same_value k key value (left_out (bytes_eq k.word key.word) (is_same k key) one p.0)) ∙ q.1
      | inr later ↦ allowed_is keys key word value p.1 e later
    ]
  where
    left_out : (b c : Bool) → b ≡ true → (not b || c) ≡ true → c ≡ true
    left_out true c t h = h
    left_out false c t h = absurd (let f : ⊥ = cc t in f)

-- what stands after an option's word among options is a value of the option
pub value_is : (keys : List Key) (before words : List Word) (key : Key) (w : Word) → agrees keys key ≡ true → fits keys before words ≡ true → value_behind key.word words ≡ Some w → is_value_of key w ≡ true
value_is keys before [] key w a f e = absurd (let g : ⊥ = cc e in g)
value_is keys before (word ∷ []) key w a f e = absurd (let g : ⊥ = cc e in g)
value_is keys before (word ∷ value ∷ words) key w a f e =
    let p = and_true (is_new keys before word) (is_value keys word value && fits keys (word ∷ before) words) f in
    let q = and_true (is_value keys word value) (fits keys (word ∷ before) words) p.1 in
    elim (cases_Bool (bytes_eq word key.word)) [
      | inl t ↦
          let same : value ≡ w = cc (e, t) in
          ap (is_value_of key) (sym same) ∙ allowed_is keys key word value a t q.0
      | inr n ↦
          let later : value_behind key.word words ≡ Some w = cc (e, n) in
          value_is keys (word ∷ before) words key w a q.1 later
    ]

-- THE NUMBER OF AN OPTION

-- a number that the option takes is within its range
within_is : (range : Range) (n : Option ℕ) → option_map_or (is_in_range range) n false ≡ true → n ≡ number_within range n
within_is range None e = refl
within_is range (Some n) e = rw e refl

-- so among options the code finds the number that they give
pub number_is : (keys : List Key) (words : List Word) (key : Key) (usual : ℕ) → key.is_list ≡ false → agrees keys key ≡ true → fits keys [] words ≡ true → option_number key usual words ≡ number_given key usual words
number_is keys words key usual single a f = by (value_behind key.word words) refl
  where
    by : (o : Option Word) → value_behind key.word words ≡ o → unwrap_or (option_and_then natural o) usual ≡ number_or key usual o
    by None e = refl
    by (Some w) e =
        let value : is_value_of key w ≡ true = value_is keys [] words key w a f e in
        let number : is_number_of key w ≡ true = sym (ap (λ (b : Bool). cond b (list_all (is_number_of key) (parts_of w)) (is_number_of key w)) single) ∙ value in
        ap (λ (n : Option ℕ). unwrap_or n usual) (within_is key.numbers (natural w) number)

-- it is within the range where the usual one is
pub in_range : (key : Key) (usual : ℕ) (o : Option Word) → key.numbers.least ≤ usual → usual ≤ key.numbers.greatest → (key.numbers.least ≤ number_or key usual o) × (number_or key usual o ≤ key.numbers.greatest)
in_range key usual None low high = (low, high)
in_range key usual (Some w) low high = by (natural w)
  where
    by : (n : Option ℕ) → (key.numbers.least ≤ unwrap_or (number_within key.numbers n) usual) × (unwrap_or (number_within key.numbers n) usual ≤ key.numbers.greatest)
    by None = (low, high)
    by (Some n) = elim (cases_Bool (is_in_range key.numbers n)) [
      | inl t ↦
          let p = and_true (nat_le key.numbers.least n) (nat_le n key.numbers.greatest) t in
          rw t (leb-true key.numbers.least n p.0, leb-true n key.numbers.greatest p.1)
      | inr f ↦ rw f (low, high)
    ]

-- a budget, and a number of threads
pub conflicts_fit : (o : Option Word) → (0 < number_or conflicts 100000 o) × (number_or conflicts 100000 o < 2 ^ 63)
conflicts_fit o =
    let r = in_range conflicts 100000 o (omega arith) (omega arith) in
    let low = r.0 in
    let high = r.1 in
    (omega (arith, low), omega (arith, high))
