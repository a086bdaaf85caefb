-- Digits, and one more.
use Rattle.std.proofs.Common.{◌≡◌, ◌==◌, ℕ, ◌+◌, ◌-◌, ◌*◌, ◌^◌, ◌<◌, ◌≤◌, ◌∙◌, min, Bool, true, false, not, cond, ◌&&◌, List, [], ◌∷◌, ◌++◌, length, Some, None, refl, ap, arith, length-append}
use Rattle.std.specs.Char.{is_ascii_digit}
use Rattle.std.specs.List.{list_all}
use Rattle.std.proofs.lemmas.Bool.{and_from, le-leb, ne_eqb as not_equal}
use Rattle.std.proofs.lemmas.List.Folds.{list_all-append}
use Rattle.std.proofs.lemmas.List.Sums.{fold_push}
use Rattle.lk_model.specs.Texts.Lines.{is_blank}
use Rattle.lk_model.specs.Texts.NumberWords.{digits_value, natural}
use Rattle.lk_model.proofs.Booleans.{and_true}
use Rattle.lk_model.proofs.Spellings.{digit_range}
use Rattle.dimacs_reader.specs.Contents.{has_no_blank}
use Rattle.dimacs_reader.specs.Words.{AreDigits}

-- a digit is no blank
digit_no_blank : (d : ℕ) → is_ascii_digit d ≡ true → is_blank d ≡ false
digit_no_blank d h =
    let range = digit_range d h in
    let low = range.0 in
    let no_space : (d == 32) ≡ false = not_equal d 32 (λ e. absurd (omega (arith, low, e))) in
    let no_tab : (d == 9) ≡ false = not_equal d 9 (λ e. absurd (omega (arith, low, e))) in
    let no_return : (d == 13) ≡ false = not_equal d 13 (λ e. absurd (omega (arith, low, e))) in
    rw (no_space, no_tab, no_return) refl

pub digits_no_blank : (ds : List ℕ) → list_all is_ascii_digit ds ≡ true → has_no_blank ds ≡ true
digits_no_blank [] h = refl
digits_no_blank (d ∷ ds) h = let p = and_true _ _ h in and_from _ _ (ap not (digit_no_blank d p.0)) (digits_no_blank ds p.1)

pub one_digit : (d : ℕ) → is_ascii_digit d ≡ true → AreDigits (d ∷ []) (d - 48)
one_digit d h = record { some = omega arith; all = and_from _ _ h refl; value_is = (let range = digit_range d h in let high = range.1 in omega (arith, high)) }

pub digits_more : (ds : List ℕ) (v d : ℕ) → is_ascii_digit d ≡ true → AreDigits ds v → AreDigits (ds ++ d ∷ []) (min (10 * v + (d - 48)) (2 ^ 32 - 1))
digits_more ds v d h a =
    let size = length-append ds (d ∷ []) in
    let value : digits_value (ds ++ d ∷ []) ≡ 10 * digits_value ds + (d - 48) = fold_push (λ n x. 10 * n + (x - 48)) 0 ds d in
    let capped = a.value_is in
    record {
      some = omega (arith, size);
      all = list_all-append is_ascii_digit ds (d ∷ []) ∙ and_from _ _ a.all (and_from _ _ h refl);
      value_is = omega (arith, value, capped);
    }

-- what digits write
pub natural_is : (ds : List ℕ) → 0 < length ds → list_all is_ascii_digit ds ≡ true → natural ds ≡ Some (digits_value ds)
natural_is [] some h = absurd (omega (arith, some))
natural_is (d ∷ ds) some h = ap (λ (b : Bool). cond b (Some (digits_value (d ∷ ds))) None) h

-- a byte that is no digit
all_wrong : (before : List ℕ) (b : ℕ) (behind : List ℕ) → is_ascii_digit b ≡ false → list_all is_ascii_digit (before ++ b ∷ behind) ≡ false
all_wrong [] b behind e = ap (λ (t : Bool). t && list_all is_ascii_digit behind) e
all_wrong (d ∷ before) b behind e = ap (λ (t : Bool). is_ascii_digit d && t) (all_wrong before b behind e) ∙ none (is_ascii_digit d)
  where
    none : (t : Bool) → (t && false) ≡ false
    none true = refl
    none false = refl

pub natural_wrong : (before : List ℕ) (b : ℕ) (behind : List ℕ) → is_ascii_digit b ≡ false → natural (before ++ b ∷ behind) ≡ None
natural_wrong [] b behind e = ap (λ (t : Bool). cond t (Some (digits_value (b ∷ behind))) None) (all_wrong [] b behind e)
natural_wrong (d ∷ before) b behind e = ap (λ (t : Bool). cond t (Some (digits_value (d ∷ (before ++ b ∷ behind)))) None) (all_wrong (d ∷ before) b behind e)

-- the byte of a digit, and back
pub is_digit : (d : ℕ) → d ≤ 9 → is_ascii_digit (d + 48) ≡ true
is_digit d h = and_from _ _ (le-leb 48 (d + 48) (omega arith)) (le-leb (d + 48) 57 (omega (arith, h)))

pub digit_back : (b d : ℕ) → is_ascii_digit b ≡ true → d ≡ b - 48 → d + 48 ≡ b
digit_back b d h e = let range = digit_range b h in let low = range.0 in omega (arith, low, e)
