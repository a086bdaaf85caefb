-- Numbers in a heap of which the least is at the top.
use Rattle.std.proofs.Common.{◌≡◌, ℕ, ◌<◌, ◌≤◌, false, List, ◌∷◌, length, map, get_or, sym, ◌∙◌, ap, subst, arith, IsPermutation, All, Option, Some, None, IfSome, IfNone}
use Rattle.std.specs.List.{AllByRecursion}
use Rattle.std.specs.Ordering.{nat_cmp, is_lt}
use Rattle.std.proofs.lemmas.List.{length-map, get_or-map}
use Rattle.std.proofs.lemmas.List.Elements.{All-from_recursion, All-map, All-contains}
use Rattle.std.proofs.lemmas.List.Sorted.{IsPermutation-map, length_permutation}
use Rattle.std.proofs.lemmas.Bool.Decides.{nat_tests}
use Rattle.pure_strip.specs.Counted.{IsLeast}

not_less : (a b : ℕ) → is_lt (nat_cmp b a) ≡ false → a ≤ b
not_less a b h = grind (arith, nat_tests)

-- there is one least number
one_least : (xs : List ℕ) (x y : ℕ) → IsLeast xs x → IsLeast xs y → x ≡ y
one_least xs x y h k = omega (arith, h.1 y k.0, k.1 x h.0)

module _ {X : Type 0} (key : X → ℕ) where
  -- no key is less than that of top
  abbrev pub IsTop : X → List X → Type 0
  IsTop top xs = AllByRecursion (λ y. is_lt (nat_cmp (key y) (key top)) ≡ false) xs

  -- the top of a heap has the least key
  pub top_least : (xs : List X) (top : X) → 0 < length xs → top ≡ get_or xs 0 top → IsTop top xs → IsLeast (map key xs) (key top)
  top_least xs top some is bound =
      let within : 0 < length (map key xs) = omega (arith, some, length-map xs key) in
      let read : get_or (map key xs) 0 (key top) ≡ key top = get_or-map key xs 0 top (key top) some ∙ ap key (sym is) in
      let all : All (λ k. key top ≤ k) (map key xs) = All-map (λ k. key top ≤ k) key xs (λ k d lt. not_less (key top) _ (All-from_recursion (λ y. is_lt (nat_cmp (key y) (key top)) ≡ false) xs bound k d lt)) in
      ((0, within, read), λ y m. All-contains (λ k. key top ≤ k) (map key xs) y all m)

  -- what a heap hands out is the least key, and leaves the others
  pub least_dropped : (H K : Type 0) (xs ys : List X) (n : ℕ) (r : Option X) (x : ℕ) → H → n ≡ length xs → IfNone r (n ≡ 0) → IfSome r (λ t. t ≡ get_or xs 0 t) → IfSome r (λ t. IsPermutation xs (t ∷ ys)) → IfSome r (λ t. H → K × IsTop t xs)
      → IsLeast (map key xs) x → IsPermutation (map key xs) (x ∷ map key ys)
  least_dropped H K xs ys n None x h size none top p bound least = absurd (omega (arith, least.0.1, length-map xs key, size, none))
  least_dropped H K xs ys n (Some t) x h size none top p bound least =
      let some : 0 < length xs = omega (arith, length_permutation xs (t ∷ ys) p) in
      let same : key t ≡ x = one_least (map key xs) (key t) x (top_least xs t some top (bound h).1) least in
      subst (λ (k : ℕ). IsPermutation (map key xs) (k ∷ map key ys)) same (IsPermutation-map key xs (t ∷ ys) p)

-- one is left less
pub left_less : (xs ys : List ℕ) (x : ℕ) → IsPermutation xs (x ∷ ys) → length ys < length xs
left_less xs ys x p = omega (arith, length_permutation xs (x ∷ ys) p)
