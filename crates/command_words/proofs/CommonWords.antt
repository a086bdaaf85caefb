-- Words that stand at the front of two lists.
use Rattle.std.proofs.Common.{◌≡◌, ℕ, zero, suc, ◌+◌, ◌<◌, ◌≤◌, ◌∙◌, true, false, List, [], ◌∷◌, ◌++◌, length, take, drop, Some, refl, ap, sym, arith, inl, inr, Bor}
use Rattle.std.specs.Str.{bytes_eq}
use Rattle.std.proofs.lemmas.Slice.Eq.{bytes_eq-Decides}
use Rattle.std.proofs.lemmas.Bool.{cases_Bool}
use Rattle.std.proofs.lemmas.List.{take_all, take-append-drop}
use Rattle.lk_model.specs.Texts.Lines.{Word}
use Rattle.command_words.specs.Lawful.{behind}
use Rattle.command_words.specs.Requests.{common}
use Rattle.command_words.proofs.Texts.{texts, text_at, one_more, no_more}

pub same_word : (word : Word) → bytes_eq word word ≡ true
same_word word = (bytes_eq-Decides word word).1 refl

pub common_within : (words front : List Word) → (common words front ≤ length words) × (common words front ≤ length front)
common_within [] front = (omega arith, omega arith)
common_within (word ∷ words) [] = (omega arith, omega arith)
common_within (word ∷ words) (known ∷ front) = elim (cases_Bool (bytes_eq word known)) [
  | inl t ↦ let h = common_within words front in
      let p = h.0 in
      let q = h.1 in
      rw t (omega (arith, p), omega (arith, q))
  | inr f ↦ rw f (omega arith, omega arith)
]

pub common_same : (words front : List Word) → take (common words front) words ≡ take (common words front) front
common_same [] front = refl
common_same (word ∷ words) [] = refl
common_same (word ∷ words) (known ∷ front) = elim (cases_Bool (bytes_eq word known)) [
  | inl t ↦ rw t (ap (λ (w : Word). w ∷ take (common words front) words) ((bytes_eq-Decides word known).0 t) ∙ ap (λ (ws : List Word). known ∷ ws) (common_same words front))
  | inr f ↦ rw f refl
]

-- no more words agree
pub common_greatest : (words front : List Word) (k : ℕ) → k ≤ length words → k ≤ length front → take k words ≡ take k front → k ≤ common words front
common_greatest words front zero h l e = omega arith
common_greatest [] front (suc k) h l e = absurd (omega (arith, h))
common_greatest (word ∷ words) [] (suc k) h l e = absurd (omega (arith, l))
common_greatest (word ∷ words) (known ∷ front) (suc k) h l e =
    let first : word ≡ known = cc e in
    let others : take k words ≡ take k front = cc e in
    let t : bytes_eq word known ≡ true = (bytes_eq-Decides word known).1 first in
    let more = common_greatest words front k (omega (arith, h)) (omega (arith, l)) others in
    rw t (omega (arith, more))

-- the words begin with all of these
pub common_all : (front rest : List Word) → common (front ++ rest) front ≡ length front
common_all [] [] = refl
common_all [] (word ∷ rest) = refl
common_all (word ∷ front) rest =
    let more = common_all front rest in
    rw (same_word word) (omega (arith, more))

pub all_common : (words front : List Word) → common words front ≡ length front → words ≡ front ++ drop (length front) words
all_common words front e =
    sym (take-append-drop (length front) words)
    ∙ ap (λ (ws : List Word). ws ++ drop (length front) words) (ap (λ (n : ℕ). take n words) (sym e) ∙ common_same words front ∙ take_all (common words front) front (omega (arith, e)))

pub front_of : (front words rest : List Word) → behind front words ≡ Some rest → words ≡ front ++ rest
front_of [] words rest e = cc e
front_of (word ∷ front) [] rest e = absurd (let f : ⊥ = cc e in f)
front_of (word ∷ front) (first ∷ words) rest e = elim (cases_Bool (bytes_eq first word)) [
  | inl t ↦
      let later : behind front words ≡ Some rest = cc (e, t) in
      ap (λ (w : Word). w ∷ words) ((bytes_eq-Decides first word).0 t) ∙ ap (λ (ws : List Word). word ∷ ws) (front_of front words rest later)
  | inr f ↦ absurd (let g : ⊥ = cc (e, f) in g)
]

-- FROM A PLACE ON

-- so many agree, and then those from there on
abbrev pub CountsUp : List (Bor Word) → List (Bor Word) → ℕ → Type 0
CountsUp words front count = common (texts words) (texts front) ≡ count + common (drop count (texts words)) (drop count (texts front))

pub another : (words front : List (Bor Word)) (count : ℕ) → CountsUp words front count → count < length words → count < length front → bytes_eq (text_at words count) (text_at front count) ≡ true → CountsUp words front (count + 1)
another words front count here h l e =
    let step : common (drop count (texts words)) (drop count (texts front)) ≡ suc (common (drop (count + 1) (texts words)) (drop (count + 1) (texts front))) =
    rw (one_more words count h, one_more front count l, e) refl in
    here ∙ ap (λ (n : ℕ). count + n) step ∙ omega arith

pub differs : (words front : List (Bor Word)) (count : ℕ) → CountsUp words front count → count < length words → count < length front → bytes_eq (text_at words count) (text_at front count) ≡ false → count ≡ common (texts words) (texts front)
differs words front count here h l e =
    let none : common (drop count (texts words)) (drop count (texts front)) ≡ 0 = rw (one_more words count h, one_more front count l, e) refl in
    omega (arith, here, none)

pub front_end : (words front : List (Bor Word)) (count : ℕ) → CountsUp words front count → length front ≤ count → count ≡ common (texts words) (texts front)
front_end words front count here h =
    let none : common (drop count (texts words)) (drop count (texts front)) ≡ 0 = rw (no_more front count h) (no_front (drop count (texts words))) in
    omega (arith, here, none)
  where
    no_front : (ws : List Word) → common ws [] ≡ 0
    no_front [] = refl
    no_front (w ∷ ws) = refl
