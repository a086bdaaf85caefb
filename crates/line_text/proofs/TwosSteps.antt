-- Items of two words each, one item more, and what they are spelled by.
use Rattle.std.proofs.Common.{◌≡◌, ◌∙◌, Bool, true, false, cond, List, [], ◌∷◌, ◌++◌, refl, sym, ap, Option, Some, None, append_assoc}
use Rattle.std.specs.Prelude.{option_and_then, codes}
use Rattle.std.specs.List.{flat_map}
use Rattle.std.specs.Str.{bytes_eq}
use Rattle.std.proofs.lemmas.List.{append-nil}
use Rattle.std.proofs.lemmas.Slice.Eq.{bytes_eq-Decides}
use Rattle.lk_model.specs.Texts.Lines.{Word}
use Rattle.lk_model.specs.Texts.PlainText.{ended}
use Rattle.line_text.specs.FieldLists.{twos}

-- ONE MORE

pub twos_step : {X : Type 0} (read : List X → Word → Word → Option X) (whole : Option (List X)) (xs : List X) (x : X) (words more : List Word) (word other : Word)
    → whole ≡ twos read xs words → words ≡ word ∷ other ∷ more → read xs word other ≡ Some x → whole ≡ twos read (xs ++ x ∷ []) more
twos_step read whole xs x words more word other told e is =
    told ∙ ap (twos read xs) e ∙ ap (option_and_then (λ y. twos read (xs ++ y ∷ []) more)) is

pub twos_short : {X : Type 0} (read : List X → Word → Word → Option X) (whole : Option (List X)) (xs : List X) (words : List Word) (word other : Word)
    → whole ≡ twos read xs words → words ≡ word ∷ other ∷ [] → None ≡ whole
twos_short read whole xs words word other told e = sym (told ∙ ap (twos read xs) e ∙ by_item (read xs word other))
  where
    by_item : (o : Option _) → option_and_then (λ y. twos read (xs ++ y ∷ []) []) o ≡ None
    by_item None = refl
    by_item (Some y) = refl

-- WHOLE LISTS

-- how such items are spelled, and which of them may stand after others
pub record AreTwos {X : Type 0} (read : List X → Word → Word → Option X) (spell : X → List Word) (ok : List X → Bool) : Type 0 where
  pub form : (xs : List X) (word other : Word) (x : X) → ok xs ≡ true → read xs word other ≡ Some x → (word ∷ other ∷ [] ≡ spell x) × (ok (xs ++ x ∷ []) ≡ true)
  pub first : X → Word
  pub second : X → Word
  pub spelled : (x : X) → spell x ≡ first x ∷ second x ∷ []
  pub back : (xs : List X) (x : X) → ok (xs ++ x ∷ []) ≡ true → read xs (first x) (second x) ≡ Some x
  pub front : (xs ys : List X) → ok (xs ++ ys) ≡ true → ok xs ≡ true

-- the items that were read after some
pub record TwosForm {X : Type 0} (spell : X → List Word) (ok : List X → Bool) (xs ys : List X) (words : List Word) : Type 0 where
  pub more : List X
  pub whole : ys ≡ xs ++ more
  pub line : words ≡ ended (flat_map spell more)
  pub form : ok ys ≡ true

pub twos_form : {X : Type 0} (read : List X → Word → Word → Option X) (spell : X → List Word) (ok : List X → Bool) (t : AreTwos read spell ok) (xs : List X) (words : List Word) (ys : List X)
    → ok xs ≡ true → twos read xs words ≡ Some ys → TwosForm spell ok xs ys words
twos_form read spell ok t xs [] ys h e = absurd (let f : ⊥ = cc in f)
twos_form {X = X} read spell ok t xs (word ∷ []) ys h e = by_test (bytes_eq word (codes "0")) refl e
  where
    by_test : (b : Bool) → bytes_eq word (codes "0") ≡ b → cond b (Some xs) None ≡ Some ys → TwosForm spell ok xs ys (word ∷ [])
    by_test false g f = absurd (let n : ⊥ = cc in n)
    by_test true g f =
        let same : xs ≡ ys = cc in
        record { more = []; whole = sym (append-nil xs ∙ same); line = ap (λ (w : Word). w ∷ []) ((bytes_eq-Decides word (codes "0")).0 g); form = ap ok (sym same) ∙ h }
twos_form {X = X} read spell ok t xs (word ∷ other ∷ words) ys h e =
    by_item (λ x g f. twos_form read spell ok t (xs ++ x ∷ []) words ys g f) (read xs word other) refl e
  where
    by_item : ((x : X) → ok (xs ++ x ∷ []) ≡ true → twos read (xs ++ x ∷ []) words ≡ Some ys → TwosForm spell ok (xs ++ x ∷ []) ys words)
        → (o : Option X) → read xs word other ≡ o → option_and_then (λ y. twos read (xs ++ y ∷ []) words) o ≡ Some ys → TwosForm spell ok xs ys (word ∷ other ∷ words)
    by_item later None g f = absurd (let n : ⊥ = cc in n)
    by_item later (Some x) g f =
        let here = t.form xs word other x h g in
        let rest = later x here.1 f in
        record {
          more = x ∷ rest.more;
          whole = rest.whole ∙ append_assoc xs (x ∷ []) rest.more;
          line = ap (λ (ws : List Word). word ∷ other ∷ ws) rest.line ∙ ap (λ (ws : List Word). ws ++ ended (flat_map spell rest.more)) here.0 ∙ sym (append_assoc (spell x) (flat_map spell rest.more) (codes "0" ∷ []));
          form = rest.form;
        }

pub twos_back : {X : Type 0} (read : List X → Word → Word → Option X) (spell : X → List Word) (ok : List X → Bool) (t : AreTwos read spell ok) (xs ys : List X) → ok (xs ++ ys) ≡ true
    → twos read xs (ended (flat_map spell ys)) ≡ Some (xs ++ ys)
twos_back read spell ok t xs [] h = ap Some (sym (append-nil xs))
twos_back {X = X} read spell ok t xs (y ∷ ys) h =
    let joined : (xs ++ y ∷ []) ++ ys ≡ xs ++ y ∷ ys = append_assoc xs (y ∷ []) ys in
    let ahead : ok ((xs ++ y ∷ []) ++ ys) ≡ true = ap ok joined ∙ h in
    let one = t.back xs y (t.front (xs ++ y ∷ []) ys ahead) in
    ap (λ (ws : List Word). twos read xs (ended (ws ++ flat_map spell ys))) (t.spelled y)
    ∙ ap (option_and_then (λ z. twos read (xs ++ z ∷ []) (ended (flat_map spell ys)))) one
    ∙ twos_back read spell ok t (xs ++ y ∷ []) ys ahead
    ∙ ap Some joined
