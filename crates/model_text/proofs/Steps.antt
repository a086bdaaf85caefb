-- One word more after a `v`.
use Rattle.std.proofs.Common.{◌≡◌, ◌≤◌, ◌∙◌, ℕ, zero, suc, Bool, true, false, cond, ◌&&◌, List, [], ◌∷◌, ◌++◌, refl, sym, ap, subst, append_assoc, arith, to_z, of_z, w32, FitsSigned, ℤ, pos, negsuc, Option, Some, None, inl, inr}
use Rattle.std.specs.Prelude.{nat_le, filter_map}
use Rattle.std.specs.List.{list_all}
use Rattle.std.proofs.lemmas.Bool.{cases_Bool, cases_eq, and_from, le-leb, leb-true}
use Rattle.std.proofs.lemmas.Int.{to_z-of_z}
use Rattle.std.proofs.lemmas.List.{append-nil}
use Rattle.std.proofs.lemmas.List.Folds.{list_all-append, list_any-append}
use Rattle.std.proofs.lemmas.List.Elements.{filter_map-append}
use Rattle.lk_model.specs.Lists.{is_zero}
use Rattle.lk_model.specs.Formulas.Literal.{variable, is_literal}
use Rattle.lk_model.specs.Formulas.Assignment.{Assignment, assignment_of}
use Rattle.lk_model.specs.Held.PartialValues.{assignment_by}
use Rattle.lk_model.specs.Texts.Lines.{Word}
use Rattle.lk_model.specs.Texts.NumberWords.{number}
use Rattle.lk_model.specs.Texts.ModelText.{is_model_number, ends_at_zero, is_consistent, literals_among}
use Rattle.lk_model.proofs.Booleans.{and_true}
use Rattle.lk_model.proofs.Literals.{same_int}
use Rattle.model_text.specs.ModelTexts.{Gives, MakesTrue, TakesLiteral, TakesWords, may_stand, number_up_to}
use Rattle.model_text.specs.declared.reading.ModelDraft.{ModelDraft}
use Rattle.model_text.proofs.Numbers.{fails, ends_more, consistent_more, literals_more, literals_last, zero_last, may_before, closed_more, complement_more}
use Rattle.model_text.proofs.Values.{is_false, not_false, values_more}

-- NUMBERS

-- the number of a word is one up to n
pub is_number : (n : ℕ) (o : Option ℤ) (x : ℤ) → Some x ≡ number_up_to n o → (o ≡ Some x) × (nat_le (variable x) n ≡ true)
is_number n None x e = absurd (let f : ⊥ = cc in f)
is_number n (Some y) x e = elim (cases_Bool (nat_le (variable y) n)) [
  | inl t ↦
      let same : x ≡ y = (let found : Some x ≡ Some y = e ∙ ap (λ (b : Bool). cond b (Some y) None) t in cc) in
      (ap (λ (z : ℤ). Some z) (sym same), ap (λ (z : ℤ). nat_le (variable z) n) same ∙ t)
  | inr t ↦ absurd (let none : Some x ≡ None = e ∙ ap (λ (b : Bool). cond b (Some y) None) t in let f : ⊥ = cc in f)
]

-- a number up to n that is no literal is 0, and a literal is not
pub zero_is : (n : ℕ) (x : ℤ) → nat_le (variable x) n ≡ true → n ≤ 1000000 → (is_literal 1000000 x ≡ true → false ≡ true) → is_zero x ≡ true
zero_is n x small few none = elim (cases_eq (variable x) 0) [
  | inl e ↦ no_variable x e
  | inr e ↦ absurd (
      let within : variable x ≤ 1000000 = omega (arith, leb-true (variable x) n small, few) in
      let some : 1 ≤ variable x = omega (arith, e) in
      let never : false ≡ true = none (and_from (nat_le 1 (variable x)) (nat_le (variable x) 1000000) (le-leb 1 (variable x) some) (le-leb (variable x) 1000000 within)) in
      let f : ⊥ = cc in f)
]
  where
    no_variable : (y : ℤ) → variable y ≡ 0 → is_zero y ≡ true
    no_variable (pos zero) e = refl
    no_variable (pos (suc v)) e = absurd (omega (arith, e))
    no_variable (negsuc k) e = absurd (omega (arith, e))

pub literal_nonzero : (n : ℕ) (l x : ℤ) → l ≡ x → is_literal n x ≡ true → is_zero l ≡ false
literal_nonzero n l x same h = fails (is_zero l) (λ e.
    let zero : pos 0 ≡ l = same_int (pos 0) l e in
    let none : is_literal n (pos 0) ≡ true = ap (is_literal n) (zero ∙ same) ∙ h in
    let f : ⊥ = cc in f)

-- as a 32-bit number it is itself
small_fits : (x : ℤ) → variable x ≤ 1000000 → FitsSigned w32 x
small_fits (pos v) h = record { sfits = omega (arith, h) }
small_fits (negsuc k) h = record { sfits = omega (arith, h) }

pub fits_back : (n : ℕ) (x : ℤ) → nat_le (variable x) n ≡ true → n ≤ 1000000 → to_z w32 (of_z w32 x) ≡ x
fits_back n x small few = to_z-of_z w32 x (small_fits x (omega (arith, leb-true (variable x) n small, few)))

-- a 0 more
zero_given : (numbers : List ℤ) (x : ℤ) (d : ModelDraft) → Gives numbers d → d.closed ≡ false → is_zero x ≡ true → Gives (numbers ++ x ∷ []) (record d { closed = true })
zero_given numbers x d g open_still is_0 =
    let none = sym g.closed ∙ open_still in
    let ls : literals_among (numbers ++ x ∷ []) ≡ literals_among numbers =
    literals_more numbers (x ∷ []) ∙ ap (λ (ks : List ℤ). literals_among numbers ++ ks) (zero_last x is_0) ∙ append-nil (literals_among numbers) in
    let fine = and_true (ends_at_zero numbers) (is_consistent (literals_among numbers)) g.fine in
    record {
      fine = and_from (ends_at_zero (numbers ++ x ∷ [])) (is_consistent (literals_among (numbers ++ x ∷ []))) (ends_more numbers x none) (ap is_consistent ls ∙ fine.1);
      values = g.values ∙ ap (λ (ks : List ℤ). assignment_of ks) (sym ls);
      closed = sym (list_any-append is_zero numbers (x ∷ []) ∙ rw (none, is_0) refl);
    }

-- a literal more
literal_given : (numbers : List ℤ) (x : ℤ) (d : ModelDraft) (values : List (Option Bool)) → Gives numbers d → d.closed ≡ false → is_zero x ≡ false
    → MakesTrue (assignment_by d.values) x (assignment_by values) → Gives (numbers ++ x ∷ []) (record d { values = values })
literal_given numbers x d values g open_still nonzero h =
    let none = sym g.closed ∙ open_still in
    let ls : literals_among (numbers ++ x ∷ []) ≡ literals_among numbers ++ x ∷ [] =
    literals_more numbers (x ∷ []) ∙ ap (λ (ks : List ℤ). literals_among numbers ++ ks) (literals_last x nonzero) in
    let fine = and_true (ends_at_zero numbers) (is_consistent (literals_among numbers)) g.fine in
    let out = not_false (literals_among numbers) x fine.1 (λ e. h.free (ap (λ (φ : Assignment). φ (variable x)) g.values ∙ e)) in
    record {
      fine = and_from (ends_at_zero (numbers ++ x ∷ [])) (is_consistent (literals_among (numbers ++ x ∷ []))) (ends_more numbers x none)
          (ap is_consistent ls ∙ consistent_more (literals_among numbers) x fine.1 out nonzero);
      values = values_more (literals_among numbers) x (assignment_by d.values) (assignment_by values) fine.1 g.values h ∙ ap (λ (ks : List ℤ). assignment_of ks) (sym ls);
      closed = open_still ∙ sym (list_any-append is_zero numbers (x ∷ []) ∙ rw (none, nonzero) refl);
    }

-- WORDS

-- the numbers of one word
one_number : (word : Word) (x : ℤ) → number word ≡ Some x → filter_map number (word ∷ []) ≡ x ∷ []
one_number word x e = rw e refl

-- a word that writes a number up to n, and what it gives
word_taken : (n : ℕ) (numbers : List ℤ) (word : Word) (x : ℤ) (next : ModelDraft) → number word ≡ Some x → nat_le (variable x) n ≡ true → Gives (numbers ++ x ∷ []) next
    → TakesWords n numbers (word ∷ []) true next
word_taken n numbers word x next e small g =
    (rw (e, small) refl, subst (λ (xs : List ℤ). Gives (numbers ++ xs) next) (sym (one_number word x e)) g)

word_refused : (n : ℕ) (numbers : List ℤ) (word : Word) (x : ℤ) (next : ModelDraft) → number word ≡ Some x → may_stand (numbers ++ x ∷ []) ≡ false
    → TakesWords n numbers (word ∷ []) false next
word_refused n numbers word x next e bad = fails (list_all (is_model_number n) (word ∷ []) && may_stand (numbers ++ filter_map number (word ∷ []))) (λ h.
    let p = and_true (list_all (is_model_number n) (word ∷ [])) (may_stand (numbers ++ filter_map number (word ∷ []))) h in
    let f : ⊥ = cc (sym (ap (λ (xs : List ℤ). may_stand (numbers ++ xs)) (one_number word x e) ∙ bad) ∙ p.1) in f)

-- a number after the 0
pub behind_zero : (n : ℕ) (numbers : List ℤ) (word : Word) (x : ℤ) (d next : ModelDraft) → Gives numbers d → d.closed ≡ true
    → Some x ≡ number_up_to n (number word) → TakesWords n numbers (word ∷ []) false next
behind_zero n numbers word x d next g closed e =
    word_refused n numbers word x next (is_number n (number word) x e).0 (closed_more numbers x (sym g.closed ∙ closed))

-- the 0
pub takes_zero : (n : ℕ) (numbers : List ℤ) (word : Word) (x : ℤ) (d : ModelDraft) → Gives numbers d → d.closed ≡ false → Some x ≡ number_up_to n (number word) → is_zero x ≡ true
    → TakesWords n numbers (word ∷ []) true (record d { closed = true })
takes_zero n numbers word x d g open_still e is_0 =
    let is = is_number n (number word) x e in
    word_taken n numbers word x (record d { closed = true }) is.0 is.1 (zero_given numbers x d g open_still is_0)

-- a literal
pub takes_literal : (n : ℕ) (numbers : List ℤ) (word : Word) (x : ℤ) (d : ModelDraft) (values : List (Option Bool)) (taken : Bool) → Gives numbers d → d.closed ≡ false
    → Some x ≡ number_up_to n (number word) → is_zero x ≡ false → TakesLiteral (assignment_by d.values) x taken (assignment_by values)
    → TakesWords n numbers (word ∷ []) taken (record d { values = values })
takes_literal n numbers word x d values true g open_still e nonzero h =
    let is = is_number n (number word) x e in
    word_taken n numbers word x (record d { values = values }) is.0 is.1 (literal_given numbers x d values g open_still nonzero h)
takes_literal n numbers word x d values false g open_still e nonzero h =
    word_refused n numbers word x (record d { values = values }) (is_number n (number word) x e).0
    (complement_more numbers x nonzero (is_false (literals_among numbers) x (sym (ap (λ (φ : Assignment). φ (variable x)) g.values) ∙ h)))

-- WORDS IN A ROW

-- some of the words were taken, and these are left
pub record AreTaken (n : ℕ) (numbers : List ℤ) (words rest : List Word) (draft : ModelDraft) : Type 0 where
  pub done : List Word
  pub parts : words ≡ done ++ rest
  pub taken : TakesWords n numbers done true draft

pub none_taken : (n : ℕ) (numbers : List ℤ) (words : List Word) (d : ModelDraft) → Gives numbers d → AreTaken n numbers words words d
none_taken n numbers words d g = record { done = []; parts = refl; taken = (refl, subst (λ (xs : List ℤ). Gives xs d) (sym (append-nil numbers)) g) }

-- the numbers of words in a row
numbers_more : (numbers : List ℤ) (a b : List Word) → numbers ++ filter_map number (a ++ b) ≡ (numbers ++ filter_map number a) ++ filter_map number b
numbers_more numbers a b = ap (λ (xs : List ℤ). numbers ++ xs) (filter_map-append number a b) ∙ sym (append_assoc numbers (filter_map number a) (filter_map number b))

-- one word more
pub more_taken : (n : ℕ) (numbers : List ℤ) (words rest : List Word) (word : Word) (d next : ModelDraft) → (t : AreTaken n numbers words (word ∷ rest) d)
    → TakesWords n (numbers ++ filter_map number t.done) (word ∷ []) true next → AreTaken n numbers words rest next
more_taken n numbers words rest word d next t h = record {
  done = t.done ++ word ∷ [];
  parts = t.parts ∙ sym (append_assoc t.done (word ∷ []) rest);
  taken = (
    list_all-append (is_model_number n) t.done (word ∷ []) ∙ and_from (list_all (is_model_number n) t.done) (list_all (is_model_number n) (word ∷ [])) t.taken.0 h.0,
    subst (λ (xs : List ℤ). Gives xs next) (sym (numbers_more numbers t.done (word ∷ []))) h.1,
  );
}

-- one that may not stand there
pub more_refused : (n : ℕ) (numbers : List ℤ) (words rest : List Word) (word : Word) (d next : ModelDraft) → (t : AreTaken n numbers words (word ∷ rest) d)
    → TakesWords n (numbers ++ filter_map number t.done) (word ∷ []) false next → TakesWords n numbers words false next
more_refused n numbers words rest word d next t h = fails (list_all (is_model_number n) words && may_stand (numbers ++ filter_map number words)) (λ fine.
    let p = and_true (list_all (is_model_number n) words) (may_stand (numbers ++ filter_map number words)) fine in
    let before = numbers ++ filter_map number t.done in
    let tests = and_true (list_all (is_model_number n) t.done) (list_all (is_model_number n) (word ∷ rest))
    (sym (list_all-append (is_model_number n) t.done (word ∷ rest)) ∙ sym (ap (list_all (is_model_number n)) t.parts) ∙ p.0) in
    let first = and_true (is_model_number n word) (list_all (is_model_number n) rest) tests.1 in
    let split : numbers ++ filter_map number words ≡ (before ++ filter_map number (word ∷ [])) ++ filter_map number rest =
    ap (λ (ws : List Word). numbers ++ filter_map number ws) t.parts ∙ numbers_more numbers t.done (word ∷ rest) ∙ numbers_more before (word ∷ []) rest in
    let stands = may_before (before ++ filter_map number (word ∷ [])) (filter_map number rest) (sym (ap may_stand split) ∙ p.1) in
    let both = and_from (list_all (is_model_number n) (word ∷ [])) (may_stand (before ++ filter_map number (word ∷ []))) (and_from (is_model_number n word) true first.0 refl) stands in
    let f : ⊥ = cc (sym both ∙ h) in f)

-- no word is left
pub all_taken : (n : ℕ) (numbers : List ℤ) (words : List Word) (d : ModelDraft) → AreTaken n numbers words [] d → TakesWords n numbers words true d
all_taken n numbers words d t = subst (λ (ws : List Word). TakesWords n numbers ws true d) (sym (t.parts ∙ append-nil t.done)) t.taken

-- a word by its answer
pub by_answer : (m n : ℕ) (numbers : List ℤ) (words : List Word) (taken answer : Bool) (next : ModelDraft) → m ≡ n → taken ≡ answer
    → TakesWords m numbers words taken next → TakesWords n numbers words answer next
by_answer m n numbers words taken answer next same e h =
    subst (λ (b : Bool). TakesWords n numbers words b next) e (subst (λ (k : ℕ). TakesWords k numbers words taken next) same h)
