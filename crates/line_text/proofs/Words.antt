-- Lines of a few words.
use Rattle.std.proofs.Common.{◌≡◌, ℕ, ◌∙◌, true, false, ◌&&◌, Bool, cond, List, [], ◌∷◌, ◌++◌, refl, sym, ap, Option, Some, None, is_some}
use Rattle.std.specs.Borrow.{Bor}
use Rattle.std.specs.Str.{bytes_eq}
use Rattle.std.proofs.lemmas.Slice.Eq.{bytes_eq-Decides}
use Rattle.std.specs.Prelude.{codes}
use Rattle.lk_model.specs.Texts.Lines.{Word}
use Rattle.line_text.specs.Fields.{fields, after, rest_fields, two_within}
use Rattle.line_text.proofs.ListSteps.{has_word}
use Rattle.lk_model.specs.Texts.PlainText.{ended}
use Rattle.lk_model.specs.Documents.Text.{comment}

-- what stands after a space has a word
rest_has : (o : Option (Bor (List ℕ))) → is_some o ≡ true → (word : Word) × (more : List Word) × (rest_fields o ≡ word ∷ more)
rest_has None e = absurd (let f : ⊥ = cc in f)
rest_has (Some rest) e = has_word rest.now

-- too many words
pub many : {Y : Type 0} (f : List Word → Option Y) (front words : List Word) (o : Option (Bor (List ℕ))) → words ≡ front ++ rest_fields o → is_some o ≡ true
    → ((word : Word) (more : List Word) → f (front ++ word ∷ more) ≡ None) → None ≡ f words
many f front words o e t none =
    let h = rest_has o t in
    sym (ap f e ∙ ap (λ (ws : List Word). f (front ++ ws)) h.2 ∙ none h.0 h.1)

pub two_many : (first second : ℕ) (x y : Word) (words : List Word) (o : Option (Bor (List ℕ))) → words ≡ x ∷ y ∷ rest_fields o → is_some o ≡ true → None ≡ two_within first second words
two_many first second x y words o e t = many (two_within first second) (x ∷ y ∷ []) words o e t (λ word more. refl)

-- WORDS AFTER TWO OTHERS

pub after_some : (a b first second : Word) (behind : List ℕ) → bytes_eq a first ≡ true → bytes_eq b second ≡ true → after first second (a ∷ b ∷ fields behind) ≡ Some (fields behind)
after_some a b first second behind e f =
    let h = has_word behind in
    ap (λ (ws : List Word). after first second (a ∷ b ∷ ws)) h.2 ∙ rw (e, f) refl ∙ ap Some (sym h.2)

pub after_first : (a first second : Word) (words : List Word) → bytes_eq a first ≡ false → after first second (a ∷ words) ≡ None
after_first a first second [] e = refl
after_first a first second (b ∷ []) e = refl
after_first a first second (b ∷ word ∷ words) e = rw e refl

-- two words that are found
pub record IsBehind (first second : Word) (words rest : List Word) : Type 0 where
  pub whole : words ≡ first ∷ second ∷ rest

pub after_form : (first second : Word) (words rest : List Word) → after first second words ≡ Some rest → IsBehind first second words rest
after_form first second [] rest e = absurd (let f : ⊥ = cc in f)
after_form first second (a ∷ []) rest e = absurd (let f : ⊥ = cc in f)
after_form first second (a ∷ b ∷ []) rest e = absurd (let f : ⊥ = cc in f)
after_form first second (a ∷ b ∷ word ∷ words) rest e = by_tests (bytes_eq a first) (bytes_eq b second) refl refl e
  where
    by_tests : (t u : Bool) → bytes_eq a first ≡ t → bytes_eq b second ≡ u → cond (t && u) (Some (word ∷ words)) None ≡ Some rest → IsBehind first second (a ∷ b ∷ word ∷ words) rest
    by_tests false u h g f = absurd (let n : ⊥ = cc in n)
    by_tests true false h g f = absurd (let n : ⊥ = cc in n)
    by_tests true true h g f =
        let one = (bytes_eq-Decides a first).0 h in
        let other = (bytes_eq-Decides b second).0 g in
        let same : word ∷ words ≡ rest = cc in
        record { whole = cc }

-- words after a keyword that are closed by 0
pub after_ended : (keyword : Word) (words : List Word) → bytes_eq keyword keyword ≡ true → after (codes "c") keyword (comment keyword (ended words)) ≡ Some (ended words)
after_ended keyword [] e = rw e refl
after_ended keyword (word ∷ words) e = rw e refl
