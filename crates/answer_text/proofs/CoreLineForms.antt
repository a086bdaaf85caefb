-- Lines of a core in their one spelling.
use Rattle.std.proofs.Common.{◌≡◌, ℕ, ◌<◌, ◌≤◌, ◌^◌, ◌∙◌, Bool, true, false, ◌&&◌, List, [], ◌∷◌, refl, sym, ap, subst, arith, ℤ, Option, Some, None}
use Rattle.std.specs.Prelude.{option_map, codes, decimal}
use Rattle.std.specs.Borrow.{Bor}
use Rattle.std.specs.Option.{option_map_or}
use Rattle.std.specs.List.{join_with_byte}
use Rattle.std.specs.Str.{bytes_eq}
use Rattle.std.proofs.lemmas.Slice.Eq.{bytes_eq-Decides}
use Rattle.std.proofs.lemmas.List.Splits.{join_with_byte-slice_split}
use Rattle.lk_model.specs.Texts.Lines.{Word}
use Rattle.lk_model.specs.Texts.NumberWords.{plain_number}
use Rattle.lk_model.specs.Texts.PlainText.{literal_words}
use Rattle.lk_model.specs.Documents.CoreText.{is_without}
use Rattle.lk_model.specs.declared.document.Without.{Without}
use Rattle.line_text.specs.Fields.{fields, after, number_within}
use Rattle.line_text.specs.FieldLists.{literals_from}
use Rattle.line_text.proofs.ListForms.{number_back, literals_form, literals_back, rising_literals, literals_rising}
use Rattle.line_text.proofs.NumberForms.{number_form}
use Rattle.line_text.proofs.Words.{after_form}
use Rattle.answer_text.specs.CoreDrafts.{format_line, are_two, is_format, without_by, without_within}

-- TWO WORDS

pub two_form : (first second : Word) (words : List Word) → are_two first second words ≡ true → words ≡ first ∷ second ∷ []
two_form first second [] e = absurd (let f : ⊥ = cc in f)
two_form first second (a ∷ []) e = absurd (let f : ⊥ = cc in f)
two_form first second (a ∷ b ∷ c ∷ words) e = absurd (let f : ⊥ = cc in f)
two_form first second (a ∷ b ∷ []) e = by_tests (bytes_eq a first) (bytes_eq b second) refl refl e
  where
    by_tests : (t u : Bool) → bytes_eq a first ≡ t → bytes_eq b second ≡ u → (t && u) ≡ true → a ∷ b ∷ [] ≡ first ∷ second ∷ []
    by_tests false u h g f = absurd (let n : ⊥ = cc in n)
    by_tests true false h g f = absurd (let n : ⊥ = cc in n)
    by_tests true true h g f =
        let one = (bytes_eq-Decides a first).0 h in
        let other = (bytes_eq-Decides b second).0 g in
        cc

-- a line that is not two words with a space between them
pub no_two : (first second : Word) (line : List ℕ) → (line ≡ join_with_byte 32 (first ∷ second ∷ []) → ⊥) → are_two first second (fields line) ≡ false
no_two first second line other = by_test (are_two first second (fields line)) refl
  where
    by_test : (b : Bool) → are_two first second (fields line) ≡ b → b ≡ false
    by_test false e = refl
    by_test true e = absurd (other (sym (join_with_byte-slice_split 32 line) ∙ ap (join_with_byte 32) (two_form first second (fields line) e)))

-- a line that was compared with another text
pub other_line : (line slice text : List ℕ) (b : Bool) → slice ≡ text → b ≡ bytes_eq line slice → b ≡ false → line ≡ text → ⊥
other_line line slice text b is test e same =
    let equal : bytes_eq line slice ≡ true = (bytes_eq-Decides line slice).1 (same ∙ sym is) in
    let f : true ≡ false = sym equal ∙ sym test ∙ e in
    cc

-- THE FORMAT

pub format_form : (words : List Word) → is_format words ≡ true → words ≡ format_line
format_form words e = by_found (after (codes "c") (codes "leank") words) refl e
  where
    by_found : (o : Option (List Word)) → after (codes "c") (codes "leank") words ≡ o → option_map_or (are_two (codes "1") (codes "mus")) o false ≡ true → words ≡ format_line
    by_found None t f = absurd (let n : ⊥ = cc in n)
    by_found (Some rest) t f =
        (after_form (codes "c") (codes "leank") words rest t).whole ∙ ap (λ (ws : List Word). codes "c" ∷ codes "leank" ∷ ws) (two_form (codes "1") (codes "mus") rest f)

-- THE LITERALS FOR A POSITION

pub record IsWithoutOf (n p : ℕ) (words : List Word) (w : Without) : Type 0 where
  pub spelled : words ≡ decimal w.pos ∷ literal_words w.lits
  pub position : w.pos ≡ p
  pub form : is_without n w ≡ true

pub without_form : (n p : ℕ) (words : List Word) (w : Without) → without_within n p words ≡ Some w → IsWithoutOf n p words w
without_form n p [] w e = absurd (let f : ⊥ = cc in f)
without_form n p (word ∷ words) w e = by_parts (number_within p p (plain_number word)) (literals_from true n 0 words) refl refl e
  where
    by_parts : (a : Option ℕ) (b : Option (List ℤ)) → number_within p p (plain_number word) ≡ a → literals_from true n 0 words ≡ b → without_by a b ≡ Some w → IsWithoutOf n p (word ∷ words) w
    by_parts None b s t f = absurd (let m : ⊥ = cc in m)
    by_parts (Some q) None s t f = absurd (let m : ⊥ = cc in m)
    by_parts (Some q) (Some ls) s t f =
        let made : Without = record { pos = q; lits = ls } in
        let same : made ≡ w = cc in
        let number = number_form p p q word s in
        let literals = literals_form true n 0 words ls t in
        subst (λ (x : Without). IsWithoutOf n p (word ∷ words) x) same (record {
          spelled = ap (λ (u : Word). u ∷ words) number.spelled ∙ ap (λ (us : List Word). decimal q ∷ us) literals.0;
          position = omega (arith, number.least, number.most);
          form = rising_literals n 0 ls literals.1;
        })

pub without_back : (n : ℕ) (w : Without) → n ≤ 1000000 → w.pos < 10 ^ 64 → is_without n w ≡ true → without_within n w.pos (decimal w.pos ∷ literal_words w.lits) ≡ Some w
without_back n w few small h =
    ap (λ (o : Option ℕ). without_by o (literals_from true n 0 (literal_words w.lits))) (number_back w.pos w.pos w.pos small (omega arith) (omega arith))
    ∙ ap (without_by (Some w.pos)) (literals_back true n 0 w.lits few (literals_rising n 0 w.lits h))

-- the words after the first two are those of the format
pub mus_rest : (line slice : List ℕ) (result : Option (Bor (List ℕ))) (rest : Bor (List ℕ)) (b : Bool) → result ≡ Some rest
    → option_map (λ (r : Bor (List ℕ)). fields r.now) result ≡ after (codes "c") (codes "leank") (fields line) → slice ≡ codes "1 mus" → b ≡ bytes_eq rest.now slice → b ≡ is_format (fields line)
mus_rest line slice result rest b is behind text test = by_test b refl ∙ ap (λ (o : Option (List Word)). option_map_or (are_two (codes "1") (codes "mus")) o false) found
  where
    found : Some (fields rest.now) ≡ after (codes "c") (codes "leank") (fields line)
    found = sym (ap (option_map (λ (r : Bor (List ℕ)). fields r.now)) is) ∙ behind

    by_test : (t : Bool) → b ≡ t → b ≡ are_two (codes "1") (codes "mus") (fields rest.now)
    by_test true e =
        let same : rest.now ≡ codes "1 mus" = (bytes_eq-Decides rest.now slice).0 (sym test ∙ e) ∙ text in
        e ∙ sym (ap (λ (l : List ℕ). are_two (codes "1") (codes "mus") (fields l)) same)
    by_test false e = e ∙ sym (no_two (codes "1") (codes "mus") rest.now (other_line rest.now slice (codes "1 mus") b text test e))
