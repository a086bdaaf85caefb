-- The names of one input, of two, and of three.
use Rattle.std.proofs.Common.{◌≡◌, ◌∙◌, List, [], ◌∷◌, length, ap, arith, Bor}
use Rattle.lk_model.specs.Texts.Lines.{Word}
use Rattle.command_words.proofs.Texts.{texts, text_at, one_more, no_more}

pub one_name : (xs : List (Bor Word)) → length xs ≡ 1 → texts xs ≡ text_at xs 0 ∷ []
one_name xs h = one_more xs 0 (omega (arith, h)) ∙ ap (λ (ws : List Word). text_at xs 0 ∷ ws) (no_more xs 1 (omega (arith, h)))

pub two_names : (xs : List (Bor Word)) → length xs ≡ 2 → texts xs ≡ text_at xs 0 ∷ text_at xs 1 ∷ []
two_names xs h =
    one_more xs 0 (omega (arith, h))
    ∙ ap (λ (ws : List Word). text_at xs 0 ∷ ws) (one_more xs 1 (omega (arith, h)) ∙ ap (λ (ws : List Word). text_at xs 1 ∷ ws) (no_more xs 2 (omega (arith, h))))

pub three_names : (xs : List (Bor Word)) → length xs ≡ 3 → texts xs ≡ text_at xs 0 ∷ text_at xs 1 ∷ text_at xs 2 ∷ []
three_names xs h =
    one_more xs 0 (omega (arith, h))
    ∙ ap (λ (ws : List Word). text_at xs 0 ∷ ws)
    (one_more xs 1 (omega (arith, h))
    ∙ ap (λ (ws : List Word). text_at xs 1 ∷ ws) (one_more xs 2 (omega (arith, h)) ∙ ap (λ (ws : List Word). text_at xs 2 ∷ ws) (no_more xs 3 (omega (arith, h)))))
