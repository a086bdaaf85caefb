-- Weights, shares, duals and units, read and spelled.
use Rattle.std.proofs.Common.{◌≡◌, ℕ, ◌+◌, ◌≤◌, ◌∙◌, Bool, true, false, cond, List, [], ◌∷◌, map, refl, sym, ap, arith, ℤ, Option, Some, None}
use Rattle.std.specs.Prelude.{decimal}
use Rattle.std.specs.Fmt.{signed_decimal}
use Rattle.lk_model.specs.Lists.{is_nonzero}
use Rattle.lk_model.specs.Limits.{is_in_range}
use Rattle.lk_model.specs.Texts.Lines.{Word}
use Rattle.lk_model.specs.Texts.NumberWords.{plain_number}
use Rattle.lk_model.specs.Documents.Form.{is_weight}
use Rattle.lk_model.specs.declared.document.Weight.{Weight}
use Rattle.lk_model.specs.declared.document.Share.{Share}
use Rattle.lk_model.proofs.Booleans.{and_true}
use Rattle.lk_text.specs.Kinds.{if_in_range}
use Rattle.line_text.specs.Fields.{number_within}
use Rattle.cert_text.specs.Entries.{if_weight}
use Rattle.line_text.specs.LastVars.{last_or}
use Rattle.cert_text.specs.LinearLines.{weight_by, share_by, unit_by, weight_within, share_within, unit_within}
use Rattle.line_text.proofs.NumberTexts.{spelled, plain_spelled}
use Rattle.line_text.proofs.ListForms.{number_back}
use Rattle.line_text.proofs.NumberForms.{number_form}
use Rattle.line_text.proofs.LastOnes.{are_listed, listed_more, listed_last, listed_front}
use Rattle.line_text.proofs.TwosSteps.{AreTwos}
use Rattle.lk_text.proofs.Shortest.{fits_wide as in_range}

-- READING ONE MORE

pub weight_read : (n last : ℕ) (item : Weight) (ws : List Weight) (w o : Word) → last ≡ last_or 0 (map (λ (y : Weight). y.var) ws)
    → Some item ≡ weight_by (number_within (last + 1) n (plain_number w)) (if_weight (plain_number o)) → weight_within n ws w o ≡ Some item
weight_read n last item ws w o is a = ap (λ (k : ℕ). weight_by (number_within (k + 1) n (plain_number w)) (if_weight (plain_number o))) (sym is) ∙ sym a

pub share_read : (m last : ℕ) (item : Share) (ss : List Share) (w o : Word) → last ≡ last_or 0 (map (λ (y : Share). y.pos) ss)
    → Some item ≡ share_by (number_within (last + 1) m (plain_number w)) (if_weight (plain_number o)) → share_within m ss w o ≡ Some item
share_read m last item ss w o is a = ap (λ (k : ℕ). share_by (number_within (k + 1) m (plain_number w)) (if_weight (plain_number o))) (sym is) ∙ sym a

pub unit_short : (last n m : ℕ) (v d : Word) (words : List Word) → words ≡ v ∷ d ∷ [] → None ≡ unit_within last n m words
unit_short last n m v d words e = sym (ap (unit_within last n m) e ∙ by_parts (number_within (last + 1) n (plain_number v)) (if_in_range (plain_number d)))
  where
    by_parts : (a : Option ℕ) (b : Option ℤ) → unit_by a b None ≡ None
    by_parts None b = refl
    by_parts (Some x) None = refl
    by_parts (Some x) (Some y) = refl

-- SIGNED NUMBERS

pub range_form : (x : ℤ) (o : Option ℤ) → if_in_range o ≡ Some x → (o ≡ Some x) × (is_in_range x ≡ true)
range_form x None e = absurd (let f : ⊥ = cc in f)
range_form x (Some y) e = by_test (is_in_range y) refl e
  where
    by_test : (b : Bool) → is_in_range y ≡ b → cond b (Some y) None ≡ Some x → (Some y ≡ Some x) × (is_in_range x ≡ true)
    by_test true t h = let same : y ≡ x = cc in (h, ap is_in_range (sym same) ∙ t)
    by_test false t h = absurd (let f : ⊥ = cc in f)

pub weight_form : (x : ℤ) (o : Option ℤ) → if_weight o ≡ Some x → (o ≡ Some x) × (is_weight x ≡ true)
weight_form x None e = absurd (let f : ⊥ = cc in f)
weight_form x (Some y) e = by_test (is_weight y) refl e
  where
    by_test : (b : Bool) → is_weight y ≡ b → cond b (Some y) None ≡ Some x → (Some y ≡ Some x) × (is_weight x ≡ true)
    by_test true t h = let same : y ≡ x = cc in (h, ap is_weight (sym same) ∙ t)
    by_test false t h = absurd (let f : ⊥ = cc in f)

pub weight_back : (x : ℤ) → is_weight x ≡ true → if_weight (plain_number (signed_decimal x)) ≡ Some x
weight_back x h =
    ap if_weight (plain_spelled x (in_range x (and_true (is_nonzero x) (is_in_range x) h).1)) ∙ ap (λ (b : Bool). cond b (Some x) None) h

-- WEIGHTS

weight_parts : (a : Option ℕ) (b : Option ℤ) (w : Weight) → weight_by a b ≡ Some w → (a ≡ Some w.var) × (b ≡ Some w.x)
weight_parts None b w e = absurd (let f : ⊥ = cc in f)
weight_parts (Some v) None w e = absurd (let f : ⊥ = cc in f)
weight_parts (Some v) (Some x) w e =
    let one : Weight = record { var = v; x = x } in
    let same : one ≡ w = cc in
    (ap (λ (y : Weight). Some y.var) same, ap (λ (y : Weight). Some y.x) same)

abbrev pub are_weights : ℕ → List Weight → Bool
are_weights n ws = are_listed (λ (w : Weight). w.var) (λ (w : Weight). is_weight w.x) 0 n ws

abbrev pub weight_words : Weight → List Word
weight_words w = decimal w.var ∷ signed_decimal w.x ∷ []

pub weights_two : (n : ℕ) → n ≤ 1000000 → AreTwos (weight_within n) weight_words (are_weights n)
weights_two n small = record {
  form = λ ws word other w h e.
      let parts = weight_parts (number_within (last_or 0 (map (λ (y : Weight). y.var) ws) + 1) n (plain_number word)) (if_weight (plain_number other)) w e in
      let v = number_form (last_or 0 (map (λ (y : Weight). y.var) ws) + 1) n w.var word parts.0 in
      let x = weight_form w.x (plain_number other) parts.1 in (
        cc (v.spelled, spelled other w.x x.0),
        listed_more (λ (y : Weight). y.var) (λ (y : Weight). is_weight y.x) 0 n ws w h (record { above = omega (arith, v.least); within = v.most; form = x.1 }),
      );
  first = λ w. decimal w.var;
  second = λ w. signed_decimal w.x;
  spelled = λ w. refl;
  back = λ ws w h.
      let m = listed_last (λ (y : Weight). y.var) (λ (y : Weight). is_weight y.x) 0 n ws w h in
      let v = number_back (last_or 0 (map (λ (y : Weight). y.var) ws) + 1) n w.var (omega (arith, m.within, small)) (omega (arith, m.above)) m.within in
      ap (λ (p : Option ℕ). weight_by p (if_weight (plain_number (signed_decimal w.x)))) v ∙ ap (weight_by (Some w.var)) (weight_back w.x m.form);
  front = λ ws vs h. listed_front (λ (y : Weight). y.var) (λ (y : Weight). is_weight y.x) 0 n ws vs h;
}

-- SHARES

share_parts : (a : Option ℕ) (b : Option ℤ) (s : Share) → share_by a b ≡ Some s → (a ≡ Some s.pos) × (b ≡ Some s.z)
share_parts None b w e = absurd (let f : ⊥ = cc in f)
share_parts (Some v) None w e = absurd (let f : ⊥ = cc in f)
share_parts (Some v) (Some x) w e =
    let one : Share = record { pos = v; z = x } in
    let same : one ≡ w = cc in
    (ap (λ (y : Share). Some y.pos) same, ap (λ (y : Share). Some y.z) same)

abbrev pub are_shares : ℕ → List Share → Bool
are_shares m ss = are_listed (λ (s : Share). s.pos) (λ (s : Share). is_weight s.z) 0 m ss

abbrev pub share_words : Share → List Word
share_words s = decimal s.pos ∷ signed_decimal s.z ∷ []

pub shares_two : (m : ℕ) → m ≤ 4000000 → AreTwos (share_within m) share_words (are_shares m)
shares_two n small = record {
  form = λ ws word other w h e.
      let parts = share_parts (number_within (last_or 0 (map (λ (y : Share). y.pos) ws) + 1) n (plain_number word)) (if_weight (plain_number other)) w e in
      let v = number_form (last_or 0 (map (λ (y : Share). y.pos) ws) + 1) n w.pos word parts.0 in
      let x = weight_form w.z (plain_number other) parts.1 in (
        cc (v.spelled, spelled other w.z x.0),
        listed_more (λ (y : Share). y.pos) (λ (y : Share). is_weight y.z) 0 n ws w h (record { above = omega (arith, v.least); within = v.most; form = x.1 }),
      );
  first = λ w. decimal w.pos;
  second = λ w. signed_decimal w.z;
  spelled = λ w. refl;
  back = λ ws w h.
      let m = listed_last (λ (y : Share). y.pos) (λ (y : Share). is_weight y.z) 0 n ws w h in
      let v = number_back (last_or 0 (map (λ (y : Share). y.pos) ws) + 1) n w.pos (omega (arith, m.within, small)) (omega (arith, m.above)) m.within in
      ap (λ (p : Option ℕ). share_by p (if_weight (plain_number (signed_decimal w.z)))) v ∙ ap (share_by (Some w.pos)) (weight_back w.z m.form);
  front = λ ws vs h. listed_front (λ (y : Share). y.pos) (λ (y : Share). is_weight y.z) 0 n ws vs h;
}
