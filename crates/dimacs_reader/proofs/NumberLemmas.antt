-- Numbers, cut into runs at each 0, and literals without repeats.
use Rattle.std.proofs.Common.{◌≡◌, ◌+◌, ◌∙◌, Bool, true, false, not, cond, ◌&&◌, ◌||◌, List, [], ◌∷◌, ◌++◌, length, refl, sym, ap, arith, inl, inr, ℤ, append_assoc}
use Rattle.std.specs.Prelude.{filter, count_by}
use Rattle.std.specs.Ordering.{int_eq}
use Rattle.std.specs.List.{slice_split, onto_first}
use Rattle.std.proofs.lemmas.Bool.{cases_Bool}
use Rattle.std.proofs.lemmas.Bool.Decides.{Decides-int_eq}
use Rattle.std.proofs.lemmas.List.{append-nil}
use Rattle.std.proofs.lemmas.List.Elements.{filter-append}
use Rattle.std.proofs.lemmas.List.Sums.{sum_by-cons}
use Rattle.lk_model.specs.Lists.{is_empty, is_zero}
use Rattle.lk_model.specs.Formulas.Literal.{contains}
use Rattle.lk_model.specs.Texts.Dimacs.{without_empty_last, without_repeats}
use Rattle.lk_model.proofs.Literals.{contains_filter}

-- RUNS

-- two cut lists, where the last piece of the one goes on in the first of the other
unfoldable pub glue : {X : Type 0} → List (List X) → List (List X) → List (List X)
glue [] more = more
glue (run ∷ []) [] = run ∷ []
glue (run ∷ []) (first ∷ more) = (run ++ first) ∷ more
glue (run ∷ next ∷ runs) more = run ∷ glue (next ∷ runs) more

-- a cut list has a piece
abbrev pub HasPart : {X : Type 0} → List (List X) → Type 0
HasPart {X} parts = (first : List X) × (more : List (List X)) × (parts ≡ first ∷ more)

onto_part : {X : Type 0} (x : X) (parts : List (List X)) → HasPart (onto_first x parts)
onto_part x [] = (x ∷ [], [], refl)
onto_part x (part ∷ parts) = (x ∷ part, parts, refl)

pub split_part : {X : Type 0} (p : X → Bool) (xs : List X) → HasPart (slice_split p xs)
split_part p [] = ([], [], refl)
split_part p (x ∷ xs) = elim (cases_Bool (p x)) [
  | inl e ↦ ([], slice_split p xs, ap (λ (b : Bool). cond b ([] ∷ slice_split p xs) (onto_first x (slice_split p xs))) e)
  | inr e ↦ let o = onto_part x (slice_split p xs) in (o.0, o.1, ap (λ (b : Bool). cond b ([] ∷ slice_split p xs) (onto_first x (slice_split p xs))) e ∙ o.2)
]

glue-none : {X : Type 0} (parts : List (List X)) → HasPart parts → glue ([] ∷ []) parts ≡ parts
unfolding glue
glue-none parts h = ap (glue ([] ∷ [])) h.2 ∙ sym h.2

glue-skip : {X : Type 0} (parts more : List (List X)) → HasPart parts → glue ([] ∷ parts) more ≡ [] ∷ glue parts more
unfolding glue
glue-skip parts more h = ap (λ ps. glue ([] ∷ ps) more) h.2 ∙ sym (ap (λ ps. [] ∷ glue ps more) h.2)

glue-onto : {X : Type 0} (x : X) (parts more : List (List X)) → HasPart parts → HasPart more → glue (onto_first x parts) more ≡ onto_first x (glue parts more)
unfolding glue
glue-onto x parts more h k =
    ap (λ ps. glue (onto_first x ps) more) h.2 ∙ by_rest h.1 ∙ sym (ap (λ ps. onto_first x (glue ps more)) h.2)
  where
    by_rest : (rest : List (List _)) → glue ((x ∷ h.0) ∷ rest) more ≡ onto_first x (glue (h.0 ∷ rest) more)
    by_rest [] = ap (glue ((x ∷ h.0) ∷ [])) k.2 ∙ sym (ap (λ ps. onto_first x (glue (h.0 ∷ []) ps)) k.2)
    by_rest (next ∷ rest) = refl

-- a joined list is cut as the two are
pub split-append : {X : Type 0} (p : X → Bool) (xs ys : List X) → slice_split p (xs ++ ys) ≡ glue (slice_split p xs) (slice_split p ys)
split-append p [] ys = sym (glue-none (slice_split p ys) (split_part p ys))
split-append p (x ∷ xs) ys =
    let rest = split-append p xs ys in
    elim (cases_Bool (p x)) [
      | inl e ↦
          ap (λ (b : Bool). cond b ([] ∷ slice_split p (xs ++ ys)) (onto_first x (slice_split p (xs ++ ys)))) e
          ∙ ap (λ ps. [] ∷ ps) rest
          ∙ sym (glue-skip (slice_split p xs) (slice_split p ys) (split_part p xs))
          ∙ sym (ap (λ (b : Bool). glue (cond b ([] ∷ slice_split p xs) (onto_first x (slice_split p xs))) (slice_split p ys)) e)
      | inr e ↦
          ap (λ (b : Bool). cond b ([] ∷ slice_split p (xs ++ ys)) (onto_first x (slice_split p (xs ++ ys)))) e
          ∙ ap (onto_first x) rest
          ∙ sym (glue-onto x (slice_split p xs) (slice_split p ys) (split_part p xs) (split_part p ys))
          ∙ sym (ap (λ (b : Bool). glue (cond b ([] ∷ slice_split p xs) (onto_first x (slice_split p xs))) (slice_split p ys)) e)
    ]

glue-last : (runs : List (List ℤ)) (last first : List ℤ) (more : List (List ℤ)) → glue (runs ++ last ∷ []) (first ∷ more) ≡ runs ++ (last ++ first) ∷ more
unfolding glue
glue-last [] last first more = refl
glue-last (run ∷ []) last first more = refl
glue-last (run ∷ next ∷ runs) last first more = ap (λ rs. run ∷ rs) (glue-last (next ∷ runs) last first more)

-- a 0 closes the open run, and another number goes into it
pub split-zero : (numbers : List ℤ) (x : ℤ) (runs : List (List ℤ)) (last : List ℤ) → slice_split is_zero numbers ≡ runs ++ last ∷ [] → is_zero x ≡ true → slice_split is_zero (numbers ++ x ∷ []) ≡ (runs ++ last ∷ []) ++ [] ∷ []
split-zero numbers x runs last e z =
    split-append is_zero numbers (x ∷ []) ∙ ap (λ ps. glue ps (slice_split is_zero (x ∷ []))) e
    ∙ ap (λ (b : Bool). glue (runs ++ last ∷ []) (cond b ([] ∷ [] ∷ []) ((x ∷ []) ∷ []))) z
    ∙ glue-last runs last [] ([] ∷ []) ∙ ap (λ (r : List ℤ). runs ++ r ∷ [] ∷ []) (append-nil last) ∙ sym (append_assoc runs (last ∷ []) ([] ∷ []))

pub split-other : (numbers : List ℤ) (x : ℤ) (runs : List (List ℤ)) (last : List ℤ) → slice_split is_zero numbers ≡ runs ++ last ∷ [] → is_zero x ≡ false → slice_split is_zero (numbers ++ x ∷ []) ≡ runs ++ (last ++ x ∷ []) ∷ []
split-other numbers x runs last e z =
    split-append is_zero numbers (x ∷ []) ∙ ap (λ ps. glue ps (slice_split is_zero (x ∷ []))) e
    ∙ ap (λ (b : Bool). glue (runs ++ last ∷ []) (cond b ([] ∷ [] ∷ []) ((x ∷ []) ∷ []))) z
    ∙ glue-last runs last (x ∷ []) []

-- the last run counts if it is not empty
pub runs-last : (runs : List (List ℤ)) (last : List ℤ) → without_empty_last (runs ++ last ∷ []) ≡ runs ++ cond (is_empty last) [] (last ∷ [])
runs-last [] [] = refl
runs-last [] (x ∷ last) = refl
runs-last ([] ∷ []) last = ap (λ rs. [] ∷ rs) (runs-last [] last)
runs-last ((x ∷ run) ∷ []) last = ap (λ rs. (x ∷ run) ∷ rs) (runs-last [] last)
runs-last ([] ∷ next ∷ runs) last = ap (λ rs. [] ∷ rs) (runs-last (next ∷ runs) last)
runs-last ((x ∷ run) ∷ next ∷ runs) last = ap (λ rs. (x ∷ run) ∷ rs) (runs-last (next ∷ runs) last)

-- there is one run more than zeros
pub split_count : (numbers : List ℤ) → length (slice_split is_zero numbers) ≡ count_by is_zero numbers + 1
split_count [] = refl
split_count (x ∷ numbers) =
    let rest = split_count numbers in
    let h = split_part is_zero numbers in
    let parts : length (slice_split is_zero numbers) ≡ 1 + length h.1 = ap length h.2 ∙ (let s : length (h.0 ∷ h.1) ≡ 1 + length h.1 = omega arith in s) in
    elim (cases_Bool (is_zero x)) [
      | inl e ↦
          let one : length (slice_split is_zero (x ∷ numbers)) ≡ 1 + length (slice_split is_zero numbers) =
          ap (λ (b : Bool). length (cond b ([] ∷ slice_split is_zero numbers) (onto_first x (slice_split is_zero numbers)))) e ∙ (let s : length ([] ∷ slice_split is_zero numbers) ≡ 1 + length (slice_split is_zero numbers) = omega arith in s) in
          let two : count_by is_zero (x ∷ numbers) ≡ 1 + count_by is_zero numbers =
          sum_by-cons (λ y. cond (is_zero y) 1 0) x numbers ∙ ap (λ (b : Bool). cond b 1 0 + count_by is_zero numbers) e in
          omega (arith, one, two, rest)
      | inr e ↦
          let onto : length (onto_first x (h.0 ∷ h.1)) ≡ 1 + length h.1 = omega arith in
          let one : length (slice_split is_zero (x ∷ numbers)) ≡ 1 + length h.1 =
          ap (λ (b : Bool). length (cond b ([] ∷ slice_split is_zero numbers) (onto_first x (slice_split is_zero numbers)))) e ∙ ap (λ ps. length (onto_first x ps)) h.2 ∙ onto in
          let two : count_by is_zero (x ∷ numbers) ≡ 0 + count_by is_zero numbers =
          sum_by-cons (λ y. cond (is_zero y) 1 0) x numbers ∙ ap (λ (b : Bool). cond b 1 0 + count_by is_zero numbers) e in
          omega (arith, one, two, parts, rest)
    ]

-- REPEATS

-- the same literals stand in a list without its repeats
pub contains-repeats : (ls : List ℤ) (x : ℤ) → contains (without_repeats ls) x ≡ contains ls x
contains-repeats [] x = refl
contains-repeats (l ∷ ls) x =
    let rest = contains-repeats ls x in
    elim (cases_Bool (int_eq x l)) [
      | inl e ↦ rw e refl
      | inr e ↦
          let back : int_eq l x ≡ false = elim (cases_Bool (int_eq l x)) [ inl y ↦ absurd (cc (e, (Decides-int_eq x l).1 (sym ((Decides-int_eq l x).0 y)))) | inr y ↦ y ] in
          rw e (contains_filter (λ k. not (int_eq l k)) (without_repeats ls) x ∙ ap (λ (b : Bool). not b && contains (without_repeats ls) x) back ∙ rest)
    ]

-- one literal more
pub repeats-more : (ls : List ℤ) (x : ℤ) → without_repeats (ls ++ x ∷ []) ≡ cond (contains ls x) (without_repeats ls) (without_repeats ls ++ x ∷ [])
repeats-more [] x = refl
repeats-more (l ∷ ls) x =
    let rest = repeats-more ls x in
    let kept : ℤ → Bool = λ k. not (int_eq l k) in
    elim (cases_Bool (contains ls x)) [
      | inl e ↦
          let in_rest : without_repeats (ls ++ x ∷ []) ≡ without_repeats ls = rest ∙ ap (λ (b : Bool). cond b (without_repeats ls) (without_repeats ls ++ x ∷ [])) e in
          let there : contains (l ∷ ls) x ≡ true = or_either (int_eq x l) (contains ls x) e in
          ap (λ ks. l ∷ filter kept ks) in_rest ∙ sym (ap (λ (b : Bool). cond b (without_repeats (l ∷ ls)) (without_repeats (l ∷ ls) ++ x ∷ [])) there)
      | inr e ↦
          let in_rest : without_repeats (ls ++ x ∷ []) ≡ without_repeats ls ++ x ∷ [] = rest ∙ ap (λ (b : Bool). cond b (without_repeats ls) (without_repeats ls ++ x ∷ [])) e in
          let whole : filter kept (without_repeats ls ++ x ∷ []) ≡ filter kept (without_repeats ls) ++ filter kept (x ∷ []) = filter-append kept (without_repeats ls) (x ∷ []) in
          elim (cases_Bool (int_eq l x)) [
            | inl y ↦
                let there : contains (l ∷ ls) x ≡ true = ap (λ (b : Bool). b || contains ls x) ((Decides-int_eq x l).1 (sym ((Decides-int_eq l x).0 y))) in
                ap (λ ks. l ∷ filter kept ks) in_rest ∙ ap (λ ks. l ∷ ks) (whole ∙ ap (λ (b : Bool). filter kept (without_repeats ls) ++ cond (not b) (x ∷ []) []) y ∙ append-nil (filter kept (without_repeats ls)))
                ∙ sym (ap (λ (b : Bool). cond b (without_repeats (l ∷ ls)) (without_repeats (l ∷ ls) ++ x ∷ [])) there)
            | inr y ↦
                let back : int_eq x l ≡ false = elim (cases_Bool (int_eq x l)) [ inl z ↦ absurd (cc (y, (Decides-int_eq l x).1 (sym ((Decides-int_eq x l).0 z)))) | inr z ↦ z ] in
                let there : contains (l ∷ ls) x ≡ false = ap (λ (b : Bool). b || contains ls x) back ∙ e in
                ap (λ ks. l ∷ filter kept ks) in_rest ∙ ap (λ ks. l ∷ ks) (whole ∙ ap (λ (b : Bool). filter kept (without_repeats ls) ++ cond (not b) (x ∷ []) []) y)
                ∙ sym (ap (λ (b : Bool). cond b (without_repeats (l ∷ ls)) (without_repeats (l ∷ ls) ++ x ∷ [])) there)
          ]
    ]
  where
    or_either : (a b : Bool) → b ≡ true → (a || b) ≡ true
    or_either true b e = refl
    or_either false b e = e

-- a list without repeats is empty where the list is
pub repeats-empty : (ls : List ℤ) → is_empty (without_repeats ls) ≡ is_empty ls
repeats-empty [] = refl
repeats-empty (l ∷ ls) = refl
