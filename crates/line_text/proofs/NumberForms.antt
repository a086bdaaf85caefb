-- Words for one number, and for two.
use Rattle.std.proofs.Common.{◌≡◌, ℕ, ◌≤◌, ◌∙◌, true, List, [], ◌∷◌, refl, ap, arith, pos, Option, Some, None}
use Rattle.std.specs.Prelude.{nat_le, decimal}
use Rattle.std.specs.Option.{option_zip}
use Rattle.std.proofs.lemmas.Bool.{leb-true, le-leb}
use Rattle.lk_model.specs.Lists.{is_between}
use Rattle.lk_model.specs.Texts.Lines.{Word}
use Rattle.lk_model.specs.Texts.NumberWords.{plain_number}
use Rattle.lk_model.proofs.Booleans.{and_true}
use Rattle.line_text.specs.Fields.{number_within, two_within}
use Rattle.line_text.proofs.NumberTexts.{spelled}
use Rattle.line_text.proofs.ListForms.{read_number, number_read}

pub between : (low high n : ℕ) → low ≤ n → n ≤ high → is_between low high n ≡ true
between low high n a b = rw (le-leb low n a, le-leb n high b) refl

pub record IsBetween (low high n : ℕ) : Type 0 where
  pub least : low ≤ n
  pub most : n ≤ high

pub is_between_of : (low high n : ℕ) → is_between low high n ≡ true → IsBetween low high n
is_between_of low high n h =
    let both = and_true (nat_le low n) (nat_le n high) h in
    record { least = leb-true low n both.0; most = leb-true n high both.1 }

-- a word for a number between two
pub record IsWordOf (low high n : ℕ) (word : Word) : Type 0 where
  pub spelled : word ≡ decimal n
  pub least : low ≤ n
  pub most : n ≤ high

pub number_form : (low high n : ℕ) (word : Word) → number_within low high (plain_number word) ≡ Some n → IsWordOf low high n word
number_form low high n word e =
    let r = read_number low high n (plain_number word) e in
    let between = and_true (nat_le low n) (nat_le n high) r.1 in
    record { spelled = spelled word (pos n) r.0; least = leb-true low n between.0; most = leb-true n high between.1 }

-- two words for numbers up to these
pub record AreTwo (first second : ℕ) (words : List Word) (h : ℕ × ℕ) : Type 0 where
  pub spelled_so : words ≡ decimal h.0 ∷ decimal h.1 ∷ []
  pub small : h.0 ≤ first
  pub few : h.1 ≤ second

both_there : (o p : Option ℕ) (h : ℕ × ℕ) → option_zip o p ≡ Some h → (o ≡ Some h.0) × (p ≡ Some h.1)
both_there None p h e = absurd (let f : ⊥ = cc in f)
both_there (Some a) None h e = absurd (let f : ⊥ = cc in f)
both_there (Some a) (Some b) h e = let same = some_pair (a, b) h e in (ap (λ (r : ℕ × ℕ). Some r.0) same, ap (λ (r : ℕ × ℕ). Some r.1) same)
  where
    some_pair : (p q : ℕ × ℕ) → Some p ≡ Some q → p ≡ q
    some_pair p q e = cc

pub two_form : (first second : ℕ) (words : List Word) (h : ℕ × ℕ) → two_within first second words ≡ Some h → AreTwo first second words h
two_form first second [] h e = absurd (let f : ⊥ = cc in f)
two_form first second (x ∷ []) h e = absurd (let f : ⊥ = cc in f)
two_form first second (x ∷ y ∷ z ∷ words) h e = absurd (let f : ⊥ = cc in f)
two_form first second (x ∷ y ∷ []) h e =
    let parts = both_there (number_within 0 first (plain_number x)) (number_within 0 second (plain_number y)) h e in
    let l = number_form 0 first h.0 x parts.0 in
    let r = number_form 0 second h.1 y parts.1 in
    record { spelled_so = cc (l.spelled, r.spelled); small = l.most; few = r.most }

pub two_back : (first second n m : ℕ) → first ≤ 4000000 → second ≤ 4000000 → n ≤ first → m ≤ second → two_within first second (decimal n ∷ decimal m ∷ []) ≡ Some (n, m)
two_back first second n m a b c d =
    ap (λ (o : Option ℕ). option_zip o (number_within 0 second (plain_number (decimal m)))) (number_read 0 first n a (omega arith) c)
    ∙ ap (λ (o : Option ℕ). option_zip (Some n) o) (number_read 0 second m b (omega arith) d)
