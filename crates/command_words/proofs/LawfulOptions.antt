-- Lawful options.
use Rattle.std.proofs.Common.{◌≡◌, ℕ, ◌+◌, ◌<◌, ◌≤◌, ◌∙◌, zero, suc, Bool, true, false, not, ◌&&◌, ◌||◌, cond, List, [], ◌∷◌, ◌++◌, length, take, Option, Some, None, refl, ap, arith, inl, inr, option_map, subst}
use Rattle.std.specs.Prelude.{decimal}
use Rattle.std.specs.List.{list_any, list_all}
use Rattle.std.specs.Option.{option_map_or}
use Rattle.std.specs.Str.{bytes_eq}
use Rattle.std.proofs.lemmas.Bool.{cases_Bool, not-true, and_from, or_from}
use Rattle.lk_model.specs.Texts.Lines.{Word}
use Rattle.lk_model.proofs.Booleans.{and_true, or_true, or_left, or_right, or_false}
use Rattle.command_words.specs.Settings.{Key, Setting, sets, settings_of, is_value_of, is_allowed, is_once, are_options, options_of, Options, options_by}
use Rattle.command_words.specs.OptionPlaces.{has, is_word_of, is_new, is_value, refused_place}

-- the words are options, none of which stands twice or among the earlier ones
abbrev pub fits : List Key → List Word → List Word → Bool
fits keys before [] = true
fits keys before (word ∷ []) = false
fits keys before (word ∷ value ∷ words) = is_new keys before word && (is_value keys word value && fits keys (word ∷ before) words)

abbrev pub is_free : List Word → Setting → Bool
is_free before s = not (has before s.0)

-- the settings that such words give
pub record AreSettings (keys : List Key) (before words : List Word) (ss : List Setting) : Type 0 where
  pub given : settings_of words ≡ Some ss
  pub allowed : list_all (is_allowed keys) ss ≡ true
  pub once : is_once ss ≡ true
  pub free : list_all (is_free before) ss ≡ true

-- an allowed setting has an option's word
allowed_word : (keys : List Key) (word value : Word) → is_allowed keys (word, value) ≡ true → is_word_of keys word ≡ true
allowed_word [] word value e = absurd (let f : ⊥ = cc in f)
allowed_word (key ∷ keys) word value e = elim (or_true (sets key (word, value) && is_value_of key value) (is_allowed keys (word, value)) e) [
  | inl h ↦ or_left (bytes_eq key.word word) (is_word_of keys word) (and_true _ _ h).0
  | inr t ↦ or_right (bytes_eq key.word word) (is_word_of keys word) (allowed_word keys word value t)
]

free_of : (word : Word) (before : List Word) (ss : List Setting) → list_all (is_free (word ∷ before)) ss ≡ true → (list_any (λ (t : Setting). bytes_eq word t.0) ss ≡ false) × (list_all (is_free before) ss ≡ true)
free_of word before [] e = (refl, refl)
free_of word before (s ∷ ss) e =
    let p = and_true (is_free (word ∷ before) s) (list_all (is_free (word ∷ before)) ss) e in
    let q = or_false (bytes_eq word s.0) (has before s.0) (not-true (bytes_eq word s.0 || has before s.0) p.0) in
    let r = free_of word before ss p.1 in (
      or_from (bytes_eq word s.0) (list_any (λ (t : Setting). bytes_eq word t.0) ss) q.0 r.0,
      and_from (is_free before s) (list_all (is_free before) ss) (ap not q.1) r.1,
    )

free_with : (word : Word) (before : List Word) (ss : List Setting) → list_any (λ (t : Setting). bytes_eq word t.0) ss ≡ false → list_all (is_free before) ss ≡ true → list_all (is_free (word ∷ before)) ss ≡ true
free_with word before [] e f = refl
free_with word before (s ∷ ss) e f =
    let p = or_false (bytes_eq word s.0) (list_any (λ (t : Setting). bytes_eq word t.0) ss) e in
    let q = and_true (is_free before s) (list_all (is_free before) ss) f in
    and_from (is_free (word ∷ before) s) (list_all (is_free (word ∷ before)) ss)
    (ap not (or_from (bytes_eq word s.0) (has before s.0) p.0 (not-true (has before s.0) q.0)))
    (free_with word before ss p.1 q.1)

all_free : (ss : List Setting) → list_all (is_free []) ss ≡ true
all_free [] = refl
all_free (s ∷ ss) = all_free ss

-- ONE OPTION MORE

with_one : (keys : List Key) (before : List Word) (word value : Word) (words : List Word) (ss : List Setting) → is_allowed keys (word, value) ≡ true → is_new keys before word ≡ true → AreSettings keys (word ∷ before) words ss → AreSettings keys before (word ∷ value ∷ words) ((word, value) ∷ ss)
with_one keys before word value words ss ok new r =
    let apart = free_of word before ss r.free in
    let alone = and_true (is_word_of keys word) (not (has before word)) new in
    record {
      given = ap (option_map (λ (more : List Setting). (word, value) ∷ more)) r.given;
      allowed = and_from (is_allowed keys (word, value)) (list_all (is_allowed keys) ss) ok r.allowed;
      once = and_from (not (list_any (λ (t : Setting). bytes_eq word t.0) ss)) (is_once ss) (ap not apart.0) r.once;
      free = and_from (is_free before (word, value)) (list_all (is_free before) ss) alone.1 apart.1;
    }

record Parts (word value : Word) (words : List Word) (ss : List Setting) : Type 0 where
  pub more : List Setting
  pub later : settings_of words ≡ Some more
  pub all : ss ≡ (word, value) ∷ more

parts : (word value : Word) (words : List Word) (ss : List Setting) → settings_of (word ∷ value ∷ words) ≡ Some ss → Parts word value words ss
parts word value words ss e = by (settings_of words) refl e
  where
    by : (m : Option (List Setting)) → settings_of words ≡ m → option_map (λ (more : List Setting). (word, value) ∷ more) m ≡ Some ss → Parts word value words ss
    by None em h = absurd (let f : ⊥ = cc in f)
    by (Some more) em h = record { more = more; later = em; all = cc }

without_one : (keys : List Key) (before : List Word) (word value : Word) (words : List Word) (more : List Setting) → settings_of words ≡ Some more → AreSettings keys before (word ∷ value ∷ words) ((word, value) ∷ more) → (is_new keys before word ≡ true) × (is_value keys word value ≡ true) × AreSettings keys (word ∷ before) words more
without_one keys before word value words more later r =
    let a = and_true (is_allowed keys (word, value)) (list_all (is_allowed keys) more) r.allowed in
    let o = and_true (not (list_any (λ (t : Setting). bytes_eq word t.0) more)) (is_once more) r.once in
    let f = and_true (is_free before (word, value)) (list_all (is_free before) more) r.free in (
      and_from (is_word_of keys word) (not (has before word)) (allowed_word keys word value a.0) f.0,
      a.0,
      record {
        given = later;
        allowed = a.1;
        once = o.1;
        free = free_with word before more (not-true (list_any (λ (t : Setting). bytes_eq word t.0) more) o.0) f.1;
      },
    )

-- LAWFUL OPTIONS ARE THOSE THAT FIT

settings_fit : (keys : List Key) (before words : List Word) (ss : List Setting) → AreSettings keys before words ss → fits keys before words ≡ true
settings_fit keys before [] ss r = refl
settings_fit keys before (word ∷ []) ss r = absurd (cc r.given)
settings_fit keys before (word ∷ value ∷ words) ss r =
    let p = parts word value words ss r.given in
    let q = without_one keys before word value words p.more p.later (subst (AreSettings keys before (word ∷ value ∷ words)) p.all r) in
    and_from (is_new keys before word) (is_value keys word value && fits keys (word ∷ before) words) q.0
    (and_from (is_value keys word value) (fits keys (word ∷ before) words) q.1 (settings_fit keys (word ∷ before) words p.more q.2))

pub fit_settings : (keys : List Key) (before words : List Word) → fits keys before words ≡ true → (ss : List Setting) × AreSettings keys before words ss
fit_settings keys before [] e = ([], record { given = refl; allowed = refl; once = refl; free = refl })
fit_settings keys before (word ∷ []) e = absurd (let f : ⊥ = cc in f)
fit_settings keys before (word ∷ value ∷ words) e =
    let p = and_true (is_new keys before word) (is_value keys word value && fits keys (word ∷ before) words) e in
    let q = and_true (is_value keys word value) (fits keys (word ∷ before) words) p.1 in
    let r = fit_settings keys (word ∷ before) words q.1 in
    ((word, value) ∷ r.0, with_one keys before word value words r.0 q.0 p.0 r.1)

pub options_fit : (keys : List Key) (words : List Word) (o : Options) → options_of keys words ≡ Some o → fits keys [] words ≡ true
options_fit keys words o e = elim (cases_Bool (are_options keys words)) [
  | inl t ↦ by (settings_of words) refl t
  | inr f ↦ absurd (cc (e, f))
]
  where
    by : (m : Option (List Setting)) → settings_of words ≡ m → option_map_or (λ ss. list_all (is_allowed keys) ss && is_once ss) m false ≡ true → fits keys [] words ≡ true
    by None em h = absurd (let f : ⊥ = cc in f)
    by (Some ss) em h =
        let p = and_true (list_all (is_allowed keys) ss) (is_once ss) h in
        settings_fit keys [] words ss (record { given = em; allowed = p.0; once = p.1; free = all_free ss })

-- words that fit are options
pub fit_options : (keys : List Key) (words : List Word) → fits keys [] words ≡ true → options_of keys words ≡ Some (options_by words)
fit_options keys words e =
    let r = fit_settings keys [] words e in
    let good = and_from (list_all (is_allowed keys) r.0) (is_once r.0) r.1.allowed r.1.once in
    let all : are_options keys words ≡ true = ap (λ (m : Option (List Setting)). option_map_or (λ ss. list_all (is_allowed keys) ss && is_once ss) m false) r.1.given ∙ good in
    ap (λ (b : Bool). cond b (Some (options_by words)) None) all

-- THE PLACE OF THE REFUSED WORD

pub all_pass : (keys : List Key) (before words : List Word) → refused_place keys before words ≡ None → fits keys before words ≡ true
all_pass keys before [] e = refl
all_pass keys before (word ∷ []) e = elim (cases_Bool (is_new keys before word)) [ inl t ↦ absurd (cc (e, t)) | inr f ↦ absurd (cc (e, f)) ]
all_pass keys before (word ∷ value ∷ words) e = elim (cases_Bool (is_new keys before word)) [
  | inl t ↦ elim (cases_Bool (is_value keys word value)) [
    | inl v ↦ let rest : option_map (λ (i : ℕ). i + 2) (refused_place keys (word ∷ before) words) ≡ None = cc (e, t, v) in
        and_from (is_new keys before word) (is_value keys word value && fits keys (word ∷ before) words) t
        (and_from (is_value keys word value) (fits keys (word ∷ before) words) v (all_pass keys (word ∷ before) words (none_before (refused_place keys (word ∷ before) words) rest)))
    | inr f ↦ absurd (cc (e, t, f))
  ]
  | inr f ↦ absurd (cc (e, f))
]
  where
    none_before : (o : Option ℕ) → option_map (λ i. i + 2) o ≡ None → o ≡ None
    none_before None h = refl
    none_before (Some i) h = absurd (let f : ⊥ = cc in f)

-- options that go on after the first i words, and not after one more
pub record IsRefused (keys : List Key) (before words : List Word) (i : ℕ) : Type 0 where
  pub unfit : fits keys before words ≡ false
  pub last : i ≤ length words
  pub begins : (k : ℕ) → k ≤ i → (more : List Word) × (fits keys before (take k words ++ more) ≡ true)
  pub never : i < length words → (more : List Word) → fits keys before (take (i + 1) words ++ more) ≡ false

-- the least number that an option takes, as a word
abbrev pub sample : Key → Word
sample key = decimal key.numbers.least

-- it is a value of each of these options
abbrev pub have_samples : List Key → Bool
have_samples keys = list_all (λ (key : Key). is_value_of key (sample key)) keys

some_allowed : (keys : List Key) (word : Word) → have_samples keys ≡ true → is_word_of keys word ≡ true → (value : Word) × (is_allowed keys (word, value) ≡ true)
some_allowed [] word have e = absurd (let f : ⊥ = cc in f)
some_allowed (key ∷ keys) word have e =
    let h = and_true (is_value_of key (sample key)) (have_samples keys) have in
    elim (or_true (bytes_eq key.word word) (is_word_of keys word) e) [
      | inl here ↦ (sample key, or_left (sets key (word, sample key) && is_value_of key (sample key)) (is_allowed keys (word, sample key)) (and_from (sets key (word, sample key)) (is_value_of key (sample key)) here h.0))
      | inr later ↦
          let some = some_allowed keys word h.1 later in
          (some.0, or_right (sets key (word, some.0) && is_value_of key some.0) (is_allowed keys (word, some.0)) some.1)
    ]

-- with some value an option's word that is new fits
some_fits : (keys : List Key) (before : List Word) (word : Word) → have_samples keys ≡ true → is_new keys before word ≡ true → (more : List Word) × (fits keys before (word ∷ more) ≡ true)
some_fits keys before word have new =
    let alone = and_true (is_word_of keys word) (not (has before word)) new in
    let some = some_allowed keys word have alone.0 in
    (some.0 ∷ [], and_from (is_new keys before word) (is_value keys word some.0 && true) new (and_from (is_value keys word some.0) true some.1 refl))

old_unfit : (keys : List Key) (before : List Word) (word : Word) (rest : List Word) → is_new keys before word ≡ false → fits keys before (word ∷ rest) ≡ false
old_unfit keys before word [] e = refl
old_unfit keys before word (value ∷ rest) e = ap (λ (b : Bool). b && (is_value keys word value && fits keys (word ∷ before) rest)) e

value_unfit : (keys : List Key) (before : List Word) (word value : Word) (rest : List Word) → is_new keys before word ≡ true → is_value keys word value ≡ false → fits keys before (word ∷ value ∷ rest) ≡ false
value_unfit keys before word value rest t f =
    ap (λ (b : Bool). b && (is_value keys word value && fits keys (word ∷ before) rest)) t ∙ ap (λ (b : Bool). b && fits keys (word ∷ before) rest) f

rest_fits : (keys : List Key) (before : List Word) (word value : Word) (rest : List Word) → is_new keys before word ≡ true → is_value keys word value ≡ true → fits keys before (word ∷ value ∷ rest) ≡ fits keys (word ∷ before) rest
rest_fits keys before word value rest t v =
    ap (λ (b : Bool). b && (is_value keys word value && fits keys (word ∷ before) rest)) t ∙ ap (λ (b : Bool). b && fits keys (word ∷ before) rest) v

refused_here : (keys : List Key) (before : List Word) (word : Word) (rest : List Word) → is_new keys before word ≡ false → IsRefused keys before (word ∷ rest) 0
refused_here keys before word rest e = record {
  unfit = old_unfit keys before word rest e;
  last = omega arith;
  begins = λ k h. by_count k h;
  never = λ h more. old_unfit keys before word more e;
}
  where
    by_count : (k : ℕ) → k ≤ 0 → (more : List Word) × (fits keys before (take k (word ∷ rest) ++ more) ≡ true)
    by_count zero h = ([], refl)
    by_count (suc k) h = absurd (omega (arith, h))

refused_end : (keys : List Key) → have_samples keys ≡ true → (before : List Word) (word : Word) → is_new keys before word ≡ true → IsRefused keys before (word ∷ []) 1
refused_end keys have before word e = record {
  unfit = refl;
  last = omega arith;
  begins = λ k h. by_count k h;
  never = λ h more. absurd (omega (arith, h));
}
  where
    by_count : (k : ℕ) → k ≤ 1 → (more : List Word) × (fits keys before (take k (word ∷ []) ++ more) ≡ true)
    by_count zero h = ([], refl)
    by_count (suc zero) h = some_fits keys before word have e
    by_count (suc (suc k)) h = absurd (omega (arith, h))

refused_value : (keys : List Key) → have_samples keys ≡ true → (before : List Word) (word value : Word) (rest : List Word) → is_new keys before word ≡ true → is_value keys word value ≡ false → IsRefused keys before (word ∷ value ∷ rest) 1
refused_value keys have before word value rest t f = record {
  unfit = value_unfit keys before word value rest t f;
  last = omega arith;
  begins = λ k h. by_count k h;
  never = λ h more. value_unfit keys before word value more t f;
}
  where
    by_count : (k : ℕ) → k ≤ 1 → (more : List Word) × (fits keys before (take k (word ∷ value ∷ rest) ++ more) ≡ true)
    by_count zero h = ([], refl)
    by_count (suc zero) h = some_fits keys before word have t
    by_count (suc (suc k)) h = absurd (omega (arith, h))

refused_later : (keys : List Key) → have_samples keys ≡ true → (before : List Word) (word value : Word) (words : List Word) (i : ℕ) → is_new keys before word ≡ true → is_value keys word value ≡ true → IsRefused keys (word ∷ before) words i → IsRefused keys before (word ∷ value ∷ words) (i + 2)
refused_later keys have before word value words i t v r = record {
  unfit = rest_fits keys before word value words t v ∙ r.unfit;
  last = omega (arith, r.last);
  begins = λ k h. by_count k h;
  never = λ h more.
      let count : i + 2 + 1 ≡ suc (suc (i + 1)) = omega arith in
      ap (λ (n : ℕ). fits keys before (take n (word ∷ value ∷ words) ++ more)) count
      ∙ rest_fits keys before word value (take (i + 1) words ++ more) t v
      ∙ r.never (omega (arith, h)) more;
}
  where
    by_count : (k : ℕ) → k ≤ i + 2 → (more : List Word) × (fits keys before (take k (word ∷ value ∷ words) ++ more) ≡ true)
    by_count zero h = ([], refl)
    by_count (suc zero) h = some_fits keys before word have t
    by_count (suc (suc k)) h =
        let b = r.begins k (omega (arith, h)) in
        (b.0, rest_fits keys before word value (take k words ++ b.0) t v ∙ b.1)

pub is_refused : (keys : List Key) → have_samples keys ≡ true → (before words : List Word) (i : ℕ) → refused_place keys before words ≡ Some i → IsRefused keys before words i
is_refused keys have before [] i e = absurd (let f : ⊥ = cc in f)
is_refused keys have before (word ∷ []) i e = elim (cases_Bool (is_new keys before word)) [
  | inl t ↦ let place : 1 ≡ i = cc (e, t) in subst (IsRefused keys before (word ∷ [])) place (refused_end keys have before word t)
  | inr f ↦ let place : 0 ≡ i = cc (e, f) in subst (IsRefused keys before (word ∷ [])) place (refused_here keys before word [] f)
]
is_refused keys have before (word ∷ value ∷ words) i e = elim (cases_Bool (is_new keys before word)) [
  | inl t ↦ elim (cases_Bool (is_value keys word value)) [
    | inl v ↦ let rest : option_map (λ (j : ℕ). j + 2) (refused_place keys (word ∷ before) words) ≡ Some i = cc (e, t, v) in
        let p = some_before (refused_place keys (word ∷ before) words) rest in
        subst (IsRefused keys before (word ∷ value ∷ words)) p.2 (refused_later keys have before word value words p.0 t v (is_refused keys have (word ∷ before) words p.0 p.1))
    | inr f ↦ let place : 1 ≡ i = cc (e, t, f) in subst (IsRefused keys before (word ∷ value ∷ words)) place (refused_value keys have before word value words t f)
  ]
  | inr f ↦ let place : 0 ≡ i = cc (e, f) in subst (IsRefused keys before (word ∷ value ∷ words)) place (refused_here keys before word (value ∷ words) f)
]
  where
    some_before : (o : Option ℕ) → option_map (λ j. j + 2) o ≡ Some i → (j : ℕ) × (o ≡ Some j) × (j + 2 ≡ i)
    some_before None h = absurd (let f : ⊥ = cc in f)
    some_before (Some j) h = (j, refl, cc)
