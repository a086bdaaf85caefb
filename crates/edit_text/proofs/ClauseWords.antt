-- The words of a clause, one after the other.
use Rattle.std.proofs.Common.{◌≡◌, ◌∙◌, ℕ, Bool, true, false, ◌&&◌, cond, List, [], ◌∷◌, ◌++◌, refl, sym, ap, append_assoc, ℤ, Option, Some, None}
use Rattle.std.specs.Prelude.{filter_map, nat_le}
use Rattle.std.specs.List.{list_any, list_all}
use Rattle.std.specs.Option.{option_map_or}
use Rattle.std.proofs.lemmas.Bool.{and_from}
use Rattle.std.proofs.lemmas.List.{append-nil}
use Rattle.std.proofs.lemmas.List.Elements.{filter_map-append}
use Rattle.std.proofs.lemmas.List.Folds.{list_all-append, list_any-append}
use Rattle.lk_model.specs.Lists.{is_empty, is_zero}
use Rattle.lk_model.specs.Formulas.Literal.{variable}
use Rattle.lk_model.specs.Texts.Lines.{Word}
use Rattle.lk_model.specs.Texts.Dimacs.{without_repeats}
use Rattle.lk_model.specs.Texts.ModelText.{is_model_number, ends_at_zero, literals_among}
use Rattle.lk_model.specs.Texts.NumberWords.{number}
use Rattle.lk_model.proofs.Booleans.{and_true}
use Rattle.line_text.specs.FieldLists.{IsClauseOf}
use Rattle.model_text.proofs.Numbers.{fails, ends_open, literals_more, literals_last, zero_last}
use Rattle.dimacs_reader.proofs.NumberLemmas.{contains-repeats, repeats-more}
use Rattle.edit_text.specs.EditText.{is_closed, added}
use Rattle.edit_text.specs.Words.{entry_of, with_once}
use Rattle.edit_text.specs.declared.lines.Entry.TheVariants.{Literal, Zero, Other}

-- ONE WORD

record IsNumber (n : ℕ) (o : Option ℤ) (x : ℤ) : Type 0 where
  pub some : o ≡ Some x
  pub small : nat_le (variable x) n ≡ true

-- a literal is a number up to n that is not 0
literal_is : (n : ℕ) (o : Option ℤ) (l : ℤ) → Literal l ≡ entry_of n o → IsNumber n o l × (is_zero l ≡ false)
literal_is n None l e = absurd (let f : ⊥ = cc in f)
literal_is n (Some x) l e = by_tests (nat_le (variable x) n) (is_zero x) refl refl e
  where
    by_tests : (small zeroed : Bool) → nat_le (variable x) n ≡ small → is_zero x ≡ zeroed → Literal l ≡ cond small (cond zeroed Zero (Literal x)) Other → IsNumber n (Some x) l × (is_zero l ≡ false)
    by_tests true false s z h =
        let same : l ≡ x = cc in
        (record { some = ap (λ (y : ℤ). Some y) (sym same); small = ap (λ (y : ℤ). nat_le (variable y) n) same ∙ s }, ap is_zero same ∙ z)
    by_tests true true s z h = absurd (let f : ⊥ = cc in f)
    by_tests false zeroed s z h = absurd (let f : ⊥ = cc in f)

zero_is : (n : ℕ) (o : Option ℤ) → Zero ≡ entry_of n o → (x : ℤ) × IsNumber n o x × (is_zero x ≡ true)
zero_is n None e = absurd (let f : ⊥ = cc in f)
zero_is n (Some x) e = by_tests (nat_le (variable x) n) (is_zero x) refl refl e
  where
    by_tests : (small zeroed : Bool) → nat_le (variable x) n ≡ small → is_zero x ≡ zeroed → Zero ≡ cond small (cond zeroed Zero (Literal x)) Other → (y : ℤ) × IsNumber n (Some x) y × (is_zero y ≡ true)
    by_tests true true s z h = (x, record { some = refl; small = s }, z)
    by_tests true false s z h = absurd (let f : ⊥ = cc in f)
    by_tests false zeroed s z h = absurd (let f : ⊥ = cc in f)

other_is : (n : ℕ) (word : Word) → Other ≡ entry_of n (number word) → is_model_number n word ≡ false
other_is n word e = of_number (number word) refl
  where
    by_test : (x : ℤ) → number word ≡ Some x → (t : Bool) → nat_le (variable x) n ≡ t → Other ≡ cond t (cond (is_zero x) Zero (Literal x)) Other → is_model_number n word ≡ false
    by_test x s false t h = rw (s, t) refl
    by_test x s true t h = absurd (never (is_zero x) h)
      where
        never : (z : Bool) → Other ≡ cond z Zero (Literal x) → ⊥
        never true f = cc
        never false f = cc

    of_number : (o : Option ℤ) → number word ≡ o → is_model_number n word ≡ false
    of_number None s = rw s refl
    of_number (Some x) s = by_test x s (nat_le (variable x) n) refl (e ∙ ap (entry_of n) s)

is_number : (n : ℕ) (word : Word) (x : ℤ) → IsNumber n (number word) x → is_model_number n word ≡ true
is_number n word x h = rw (h.some, h.small) refl

one_number : (n : ℕ) (word : Word) (x : ℤ) → IsNumber n (number word) x → filter_map number (word ∷ []) ≡ x ∷ []
one_number n word x h = rw h.some refl

-- WORDS IN A ROW

-- some of the words are literals, and these words are left
pub record AreRead (n : ℕ) (words rest : List Word) (literals : List ℤ) : Type 0 where
  pub done : List Word
  pub parts : words ≡ done ++ rest
  pub numbers : list_all (is_model_number n) done ≡ true
  pub not_closed : list_any is_zero (filter_map number done) ≡ false
  pub literals_are : literals ≡ without_repeats (literals_among (filter_map number done))

numbers_more : (a b : List Word) → filter_map number (a ++ b) ≡ filter_map number a ++ filter_map number b
numbers_more a b = filter_map-append number a b

-- a literal more
once_more : (ls : List ℤ) (l : ℤ) → without_repeats (ls ++ l ∷ []) ≡ with_once (without_repeats ls) l
once_more ls l = repeats-more ls l ∙ ap (λ (b : Bool). cond b (without_repeats ls) (without_repeats ls ++ l ∷ [])) (sym (contains-repeats ls l))

pub literal_read : (n : ℕ) (words rest : List Word) (word : Word) (literals : List ℤ) (l : ℤ) → AreRead n words (word ∷ rest) literals → Literal l ≡ entry_of n (number word)
    → AreRead n words rest (with_once literals l)
literal_read n words rest word literals l r e =
    let is = literal_is n (number word) l e in
    let numbers : filter_map number (r.done ++ word ∷ []) ≡ filter_map number r.done ++ l ∷ [] =
    numbers_more r.done (word ∷ []) ∙ ap (λ (xs : List ℤ). filter_map number r.done ++ xs) (one_number n word l is.0) in
    let among : literals_among (filter_map number (r.done ++ word ∷ [])) ≡ literals_among (filter_map number r.done) ++ l ∷ [] =
    ap literals_among numbers ∙ literals_more (filter_map number r.done) (l ∷ []) ∙ ap (λ (ks : List ℤ). literals_among (filter_map number r.done) ++ ks) (literals_last l is.1) in
    record {
      done = r.done ++ word ∷ [];
      parts = r.parts ∙ sym (append_assoc r.done (word ∷ []) rest);
      numbers = list_all-append (is_model_number n) r.done (word ∷ []) ∙ rw (r.numbers, is_number n word l is.0) refl;
      not_closed = ap (list_any is_zero) numbers ∙ list_any-append is_zero (filter_map number r.done) (l ∷ []) ∙ rw (r.not_closed, is.1) refl;
      literals_are = ap (λ (ls : List ℤ). with_once ls l) r.literals_are ∙ sym (once_more (literals_among (filter_map number r.done)) l) ∙ ap without_repeats (sym among);
    }

-- THE END OF A CLAUSE

not_added : (n : ℕ) (words : List Word) → is_closed n words ≡ false → added n words ≡ None
not_added n words e = rw e refl

-- a word that may not stand there
pub other_read : (n : ℕ) (words rest : List Word) (word : Word) (literals : List ℤ) → AreRead n words (word ∷ rest) literals → Other ≡ entry_of n (number word) → added n words ≡ None
other_read n words rest word literals r e = not_added n words
    (rw (ap (list_all (is_model_number n)) r.parts ∙ list_all-append (is_model_number n) r.done (word ∷ rest), r.numbers, other_is n word e) refl)

-- no 0
pub not_closed : (n : ℕ) (words : List Word) (literals : List ℤ) → AreRead n words [] literals → added n words ≡ None
not_closed n words literals r =
    let whole : words ≡ r.done = r.parts ∙ append-nil r.done in
    not_added n words (rw (whole, r.numbers, r.not_closed) refl)

-- a word after the 0
has_number : (n : ℕ) (word : Word) → is_model_number n word ≡ true → (x : ℤ) × (number word ≡ Some x)
has_number n word h = of_number (number word) refl
  where
    of_number : (o : Option ℤ) → number word ≡ o → (x : ℤ) × (number word ≡ Some x)
    of_number None e = absurd (let no : false ≡ true = sym (ap (λ (p : Option ℤ). option_map_or (λ x. nat_le (variable x) n) p false) e) ∙ h in let f : ⊥ = cc in f)
    of_number (Some x) e = (x, e)

two_numbers : (word next : Word) (rest : List Word) (x y : ℤ) → number word ≡ Some x → number next ≡ Some y → filter_map number (word ∷ next ∷ rest) ≡ x ∷ y ∷ filter_map number rest
two_numbers word next rest x y e f = rw (e, f) refl

more_behind : (n : ℕ) (words rest : List Word) (word next : Word) (literals : List ℤ) → AreRead n words (word ∷ next ∷ rest) literals
    → ((x : ℤ) × IsNumber n (number word) x × (is_zero x ≡ true)) → is_closed n words ≡ true → ⊥
more_behind n words rest word next literals r is closed =
    let tests = and_true (list_all (is_model_number n) words) (list_any is_zero (filter_map number words) && ends_at_zero (filter_map number words)) closed in
    let all = and_true (list_all (is_model_number n) r.done) (list_all (is_model_number n) (word ∷ next ∷ rest))
    (sym (list_all-append (is_model_number n) r.done (word ∷ next ∷ rest)) ∙ sym (ap (list_all (is_model_number n)) r.parts) ∙ tests.0) in
    let behind = and_true (is_model_number n word) (list_all (is_model_number n) (next ∷ rest)) all.1 in
    let y = has_number n next (and_true (is_model_number n next) (list_all (is_model_number n) rest) behind.1).0 in
    let two : filter_map number (word ∷ next ∷ rest) ≡ is.0 ∷ y.0 ∷ filter_map number rest = two_numbers word next rest is.0 y.0 is.1.some y.1 in
    let numbers : filter_map number words ≡ filter_map number r.done ++ is.0 ∷ y.0 ∷ filter_map number rest =
    ap (filter_map number) r.parts ∙ numbers_more r.done (word ∷ next ∷ rest) ∙ ap (λ (xs : List ℤ). filter_map number r.done ++ xs) two in
    let end = (and_true (list_any is_zero (filter_map number words)) (ends_at_zero (filter_map number words)) tests.1).1 in
    let open_end : ends_at_zero (filter_map number words) ≡ false =
    ap ends_at_zero numbers ∙ ends_open (filter_map number r.done) (is.0 ∷ y.0 ∷ filter_map number rest) r.not_closed ∙ rw is.2 refl in
    let f : ⊥ = cc (sym open_end ∙ end) in f

-- a 0 that is the last word, and one that is not
pub zero_read : (n : ℕ) (words rest : List Word) (word : Word) (literals : List ℤ) (ends : Bool) → AreRead n words (word ∷ rest) literals → Zero ≡ entry_of n (number word)
    → ends ≡ is_empty rest → IsClauseOf (added n words) ends literals
zero_read n words [] word literals ends r e last =
    let is = zero_is n (number word) e in
    let numbers : filter_map number words ≡ filter_map number r.done ++ is.0 ∷ [] =
    ap (filter_map number) r.parts ∙ numbers_more r.done (word ∷ []) ∙ ap (λ (xs : List ℤ). filter_map number r.done ++ xs) (one_number n word is.0 is.1) in
    let all : list_all (is_model_number n) words ≡ true =
    ap (list_all (is_model_number n)) r.parts ∙ list_all-append (is_model_number n) r.done (word ∷ []) ∙ rw (r.numbers, is_number n word is.0 is.1) refl in
    let some : list_any is_zero (filter_map number words) ≡ true =
    ap (list_any is_zero) numbers ∙ list_any-append is_zero (filter_map number r.done) (is.0 ∷ []) ∙ rw (r.not_closed, is.2) refl in
    let end : ends_at_zero (filter_map number words) ≡ true =
    ap ends_at_zero numbers ∙ ends_open (filter_map number r.done) (is.0 ∷ []) r.not_closed ∙ rw is.2 refl in
    let among : literals_among (filter_map number words) ≡ literals_among (filter_map number r.done) =
    ap literals_among numbers ∙ literals_more (filter_map number r.done) (is.0 ∷ [])
    ∙ ap (λ (ks : List ℤ). literals_among (filter_map number r.done) ++ ks) (zero_last is.0 is.2) ∙ append-nil (literals_among (filter_map number r.done)) in
    let found : added n words ≡ Some literals =
    ap (λ (b : Bool). cond b (Some (without_repeats (literals_among (filter_map number words)))) None)
    (and_from (list_all (is_model_number n) words) (list_any is_zero (filter_map number words) && ends_at_zero (filter_map number words)) all
    (and_from (list_any is_zero (filter_map number words)) (ends_at_zero (filter_map number words)) some end))
    ∙ ap (λ (ls : List ℤ). Some (without_repeats ls)) among ∙ ap (λ (ls : List ℤ). Some ls) (sym r.literals_are) in
    rw last found
zero_read n words (next ∷ rest) word literals ends r e last = rw last (not_added n words (fails (is_closed n words) (λ closed. more_behind n words rest word next literals r (zero_is n (number word) e) closed)))
