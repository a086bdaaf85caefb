-- The words from a place on.
use Rattle.std.proofs.Common.{◌≡◌, ℕ, ◌+◌, ◌<◌, ◌≤◌, ◌∙◌, ◌-◌, take, List, [], ◌∷◌, length, map, drop, get_or, ap, sym, arith, Bor}
use Rattle.std.proofs.Math.ListN.{drop_of_length-le}
use Rattle.std.proofs.lemmas.List.{drop_more, drop-map, length-map, take_rest}
use Rattle.lk_model.specs.Texts.Lines.{Word}

abbrev pub texts : List (Bor Word) → List Word
texts xs = map (λ w. w.now) xs

abbrev pub text_at : List (Bor Word) → ℕ → Word
text_at xs i = (get_or xs i (record { ref_ptr = (0, 0); now = [] })).now

pub one_more : (xs : List (Bor Word)) (i : ℕ) → i < length xs → drop i (texts xs) ≡ text_at xs i ∷ drop (i + 1) (texts xs)
one_more xs i h = drop-map (λ w. w.now) i xs ∙ ap texts (drop_more xs i _ h) ∙ ap (λ (ws : List Word). text_at xs i ∷ ws) (sym (drop-map (λ w. w.now) (i + 1) xs))

pub no_more : (xs : List (Bor Word)) (i : ℕ) → length xs ≤ i → drop i (texts xs) ≡ []
no_more xs i h = drop_of_length-le (texts xs) (omega (arith, h, length-map xs (λ w. w.now)))

-- all from a place on
pub rest_of : (xs : List (Bor Word)) (i : ℕ) → texts (take (length xs - i) (drop i xs)) ≡ drop i (texts xs)
rest_of xs i = ap texts (take_rest xs i) ∙ sym (drop-map (λ w. w.now) i xs)
