-- Digits of numbers.
use Rattle.std.proofs.Common.{◌≡◌, ℕ, true, false, List, ◌+◌, ◌<◌, refl, arith, [], ◌∷◌, ◌++◌, ◌-◌, ◌*◌, ◌/◌, ◌%◌, ◌≤◌, ◌∙◌, ap, Some, ◌==◌, subst, inl, inr, Bool, cond, pos}
use Rattle.std.proofs.lemmas.Bool.{le-leb, cases_Bool, eqb-true, leb-true}
use Rattle.std.proofs.lemmas.List.Folds.{list_all-append}
use Rattle.std.proofs.lemmas.List.Sums.{fold-append}
use Rattle.std.specs.Char.{is_ascii_digit}
use Rattle.std.specs.List.{list_all}
use Rattle.lk_model.specs.Lists.{is_empty}
use Rattle.lk_model.specs.Texts.NumberWords.{digits_value, natural, number, negated, not_negated}
use Rattle.lk_model.proofs.Booleans.{and_true}

-- digits of a number
pub record IsSpelling (n : ℕ) (ds : List ℕ) : Type 0 where
  pub digits : list_all is_ascii_digit ds ≡ true
  pub value : digits_value ds ≡ n
  pub some : is_empty ds ≡ false

-- the byte of a digit
pub digit_range : (d : ℕ) → is_ascii_digit d ≡ true → (48 ≤ d) × (d ≤ 57)
digit_range d h = let both = and_true _ _ h in (leb-true 48 d both.0, leb-true d 57 both.1)

pub is_digit : (n : ℕ) → n < 10 → is_ascii_digit (48 + n) ≡ true
is_digit n h = rw (le-leb 48 (48 + n) (omega arith), le-leb (48 + n) 57 (omega (arith, h))) refl

pub one_digit : (n : ℕ) → n < 10 → IsSpelling n ((48 + n) ∷ [])
one_digit n h = record { digits = rw (is_digit n h) refl; value = omega arith; some = refl }

pub joined_some : (ds : List ℕ) (d : ℕ) → is_empty (ds ++ d ∷ []) ≡ false
joined_some [] d = refl
joined_some (x ∷ ds) d = refl

pub more_digits : (n : ℕ) (ds : List ℕ) → 10 ≤ n → IsSpelling (n / 10) ds → IsSpelling n (ds ++ (48 + n % 10) ∷ [])
more_digits n ds h s =
    let small : n % 10 < 10 = omega arith in
    let joined = fold-append (λ (m d : ℕ). 10 * m + (d - 48)) 0 ds ((48 + n % 10) ∷ []) in
    let front = ap (λ (m : ℕ). 10 * m + (48 + n % 10 - 48)) s.value in
    record {
      digits = list_all-append is_ascii_digit ds ((48 + n % 10) ∷ []) ∙ rw (s.digits, is_digit (n % 10) small) refl;
      value = joined ∙ front ∙ (let e : 10 * (n / 10) + (48 + n % 10 - 48) ≡ n = omega arith in e);
      some = joined_some ds (48 + n % 10);
    }

-- digits, read
pub natural_by : (n : ℕ) (ds : List ℕ) → IsSpelling n ds → natural ds ≡ Some n
natural_by n [] s = absurd (let some = s.some in let f : ⊥ = cc in f)
natural_by n (d ∷ ds) s = rw s.digits (ap Some s.value)

-- a digit is no minus sign
pub digit_first : (d : ℕ) (ds : List ℕ) → list_all is_ascii_digit (d ∷ ds) ≡ true → (d == 45) ≡ false
digit_first d ds h = elim (cases_Bool (d == 45)) [
  | inl e ↦ absurd (let p : is_ascii_digit 45 ≡ true = subst (λ (c : ℕ). is_ascii_digit c ≡ true) (eqb-true d 45 e) (and_true _ _ h).0 in let f : ⊥ = cc in f)
  | inr e ↦ e
]

pub number_by : (n : ℕ) (ds : List ℕ) → IsSpelling n ds → number ds ≡ Some (pos n)
number_by n [] s = absurd (let some = s.some in let f : ⊥ = cc in f)
number_by n (d ∷ ds) s =
    ap (λ (b : Bool). cond b (negated (natural ds)) (not_negated (natural (d ∷ ds)))) (digit_first d ds s.digits) ∙ ap not_negated (natural_by n (d ∷ ds) s)
