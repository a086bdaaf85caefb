-- The places that a clause's literals are met at, one literal more at a time.
use Rattle.std.proofs.Common.{◌≡◌, ◌∙◌, ℕ, ◌==◌, ◌||◌, ◌++◌, ◌∷◌, [], Bool, true, false, List, ℤ, Option, Some, None, refl, sym, ap}
use Rattle.std.specs.Option.{option_map_or}
use Rattle.std.proofs.lemmas.List.Folds.{list_any-append}
use Rattle.lk_model.specs.Lists.{among}
use Rattle.lk_model.specs.Formulas.Literal.{complement}
use Rattle.unit_refutations.specs.Trails.{Came, place_of}
use Rattle.unit_refutations.specs.Chains.{meets, HaveMet}

pub no_places : (t : Came) (places : List ℕ) → HaveMet t [] places places
no_places t places = λ p. sym (or_no (among places p))
  where
    or_no : (b : Bool) → (b || false) ≡ b
    or_no true = refl
    or_no false = refl

pub met_same : (t : Came) (c d : List ℤ) (before now after : List ℕ) → d ≡ c → after ≡ now → HaveMet t c before now → HaveMet t d before after
met_same t c d before now after e f h = λ p. ap (λ (ps : List ℕ). among ps p) f ∙ h p ∙ ap (λ (x : List ℤ). among before p || meets t x p) (sym e)

-- what one literal more meets
meets_more : (t : Came) (c d : List ℤ) (l : ℤ) (p : ℕ) (o : Option ℕ) → d ≡ c ++ l ∷ [] → place_of t (complement l) ≡ o
    → meets t d p ≡ (meets t c p || (option_map_or (λ at. at == p) o false || false))
meets_more t c d l p o e is =
    ap (λ (x : List ℤ). meets t x p) e ∙ list_any-append (λ k. option_map_or (λ at. at == p) (place_of t (complement k)) false) c (l ∷ [])
    ∙ ap (λ (x : Option ℕ). meets t c p || (option_map_or (λ at. at == p) x false || false)) is

pub met_none : (t : Came) (c d : List ℤ) (l : ℤ) (before now after : List ℕ) → d ≡ c ++ l ∷ [] → place_of t (complement l) ≡ None → after ≡ now
    → HaveMet t c before now → HaveMet t d before after
met_none t c d l before now after e none f h = λ p.
    (ap (λ (ps : List ℕ). among ps p) f ∙ h p ∙ ap (λ (b : Bool). among before p || b) (sym (meets_more t c d l p None e none ∙ or_no (meets t c p))))
  where
    or_no : (b : Bool) → (b || false) ≡ b
    or_no true = refl
    or_no false = refl

pub met_more : (t : Came) (c d : List ℤ) (l : ℤ) (before now put after : List ℕ) (place : ℕ) → d ≡ c ++ l ∷ [] → place_of t (complement l) ≡ Some place → after ≡ put
    → ((p : ℕ) → among put p ≡ (place == p || among now p)) → HaveMet t c before now → HaveMet t d before after
met_more t c d l before now put after place e some f puts h = λ p.
    (ap (λ (ps : List ℕ). among ps p) f ∙ puts p ∙ ap (λ (b : Bool). place == p || b) (h p) ∙ shuffle (place == p) (among before p) (meets t c p)
    ∙ ap (λ (b : Bool). among before p || b) (sym (meets_more t c d l p (Some place) e some)))
  where
    shuffle : (a b m : Bool) → (a || (b || m)) ≡ (b || (m || (a || false)))
    shuffle true true m = refl
    shuffle true false true = refl
    shuffle true false false = refl
    shuffle false true m = refl
    shuffle false false true = refl
    shuffle false false false = refl
