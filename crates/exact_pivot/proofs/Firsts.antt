-- The first wide result of one operation, of several, and of what is made for each item of a list.
use Rattle.std.proofs.Common.{◌≡◌, ℕ, suc, ◌+◌, ◌<◌, ◌≤◌, List, [], ◌∷◌, drop, length, get_or, map, Some, None, Result, Ok, Err, IfOk, ℤ, refl, sym, ap, ◌∙◌, arith, drop-cons}
use Rattle.std.proofs.lemmas.List.{drop_all}
use Rattle.std.specs.List.{flat_map}
use Rattle.std.specs.Option.{option_or}
use Rattle.std.specs.Result.{result_err}
use Rattle.lk_model.specs.Limits.{is_in_range}
use Rattle.lk_model.specs.Linear.Arithmetic.{first_wide, made, result_by}
use Rattle.lk_model.specs.declared.wide.Op.{Op}
use Rattle.lk_model.specs.declared.wide.Wide.{Wide}
use Rattle.exact_rows.specs.Made.{IsMade}
use Rattle.exact_rows.proofs.Wides.{first_wide-append, first_wide-here, first_wide-later, made-first}

-- operands that are told are the first wide result
pub made-err : (op : Op) (a b : ℤ) (ms : List Wide) (w : Wide) → IsMade op a b (Err w) → Some w ≡ first_wide (made op a b ∷ ms)
made-err op a b ms w h = ap Some h.1 ∙ sym (first_wide-here (made op a b) ms h.0)

-- after a result in range the first wide one is among the later ones
pub made-ok : (op : Op) (a b : ℤ) (ms : List Wide) (x : ℤ) → IsMade op a b (Ok x) → first_wide (made op a b ∷ ms) ≡ first_wide ms
made-ok op a b ms x h = first_wide-later (made op a b) ms (ap is_in_range (sym h.1) ∙ h.0)

-- a result that is told is the first wide one, of one operation
pub made-one : (op : Op) (a b x : ℤ) → IsMade op a b (Ok x) → None ≡ first_wide (made op a b ∷ [])
made-one op a b x h = made-first op a b (Ok x) h

-- of two operations, where the first is in range
pub made-two : (op then : Op) (a b c d x : ℤ) (r : Result ℤ Wide) → IsMade op a b (Ok x) → IsMade then c d r
    → result_err r ≡ first_wide (made op a b ∷ made then c d ∷ [])
made-two op then a b c d x r h k = made-first then c d r k ∙ sym (made-ok op a b (made then c d ∷ []) x h)

-- a result that is told is what the operation gives
pub made-value : (op : Op) (a b : ℤ) (r : Result ℤ Wide) → IsMade op a b r → IfOk r (λ x. x ≡ result_by op a b)
made-value op a b (Ok x) h = h.1
made-value op a b (Err w) h = tt

-- what is made from an item on: what is made for it, and what is made later
flat_from : {X : Type 0} (g : X → List Wide) (xs : List X) (i : ℕ) (d : X) → i < length xs
    → first_wide (flat_map g (drop i xs)) ≡ option_or (first_wide (g (get_or xs i d))) (first_wide (flat_map g (drop (i + 1) xs)))
flat_from g xs i d h =
    let step : i + 1 ≡ suc i = omega arith in
    rw (step, drop-cons xs i d h) (first_wide-append (g (get_or xs i d)) (flat_map g (drop (suc i) xs)))

-- the first wide result is made for this item
pub flat_at : {X : Type 0} (g : X → List Wide) (xs : List X) (i : ℕ) (x : X) (w : Wide) → i < length xs → x ≡ get_or xs i x
    → first_wide (flat_map g xs) ≡ first_wide (flat_map g (drop i xs)) → Some w ≡ first_wide (g x) → Some w ≡ first_wide (flat_map g xs)
flat_at g xs i x w h at e f =
    let told : first_wide (g (get_or xs i x)) ≡ Some w = ap (λ y. first_wide (g y)) (sym at) ∙ sym f in
    let here : Some w ≡ option_or (first_wide (g (get_or xs i x))) (first_wide (flat_map g (drop (i + 1) xs))) = rw told refl in
    here ∙ sym (e ∙ flat_from g xs i x h)

-- none is made for this item
pub flat_past : {X : Type 0} (g : X → List Wide) (xs : List X) (i : ℕ) (x : X) → i < length xs → x ≡ get_or xs i x
    → first_wide (flat_map g xs) ≡ first_wide (flat_map g (drop i xs)) → None ≡ first_wide (g x)
    → first_wide (flat_map g xs) ≡ first_wide (flat_map g (drop (i + 1) xs))
flat_past g xs i x h at e f =
    let told : first_wide (g (get_or xs i x)) ≡ None = ap (λ y. first_wide (g y)) (sym at) ∙ sym f in
    let here : option_or (first_wide (g (get_or xs i x))) (first_wide (flat_map g (drop (i + 1) xs))) ≡ first_wide (flat_map g (drop (i + 1) xs)) = rw told refl in
    e ∙ flat_from g xs i x h ∙ here

-- none is made for any item
pub flat_end : {X : Type 0} (g : X → List Wide) (xs : List X) (i : ℕ) → length xs ≤ i
    → first_wide (flat_map g xs) ≡ first_wide (flat_map g (drop i xs)) → None ≡ first_wide (flat_map g xs)
unfolding first_wide
flat_end g xs i h e =
    let none : drop i xs ≡ [] = drop_all i xs h in
    let last : first_wide (flat_map g (drop i xs)) ≡ None = ap (λ ys. first_wide (flat_map g ys)) none in
    sym (e ∙ last)

-- one result for each item
pub flat_single : {X : Type 0} (f : X → Wide) (xs : List X) → map f xs ≡ flat_map (λ x. f x ∷ []) xs
flat_single f [] = refl
flat_single f (x ∷ xs) = ap (λ ys. f x ∷ ys) (flat_single f xs)
