-- Crossed clauses, one literal more at a time.
use Rattle.std.proofs.Common.{◌≡◌, ◌∙◌, ℕ, ◌+◌, ◌<◌, ◌++◌, ◌∷◌, [], Bool, true, false, not, cond, List, ℤ, length, take, get_or, filter, sym, ap}
use Rattle.std.proofs.lemmas.List.{append-nil, take_more}
use Rattle.std.proofs.lemmas.List.Elements.{filter-append}
use Rattle.lk_model.specs.Formulas.Literal.{variable}
use Rattle.lk_model.specs.Formulas.Crossed.{Variables, crossed_out}

-- the literal that is read next
pub read_more : (c : List ℤ) (i : ℕ) (l : ℤ) → i < length c → l ≡ get_or c i l → take (i + 1) c ≡ take i c ++ l ∷ []
read_more c i l lt read = take_more c i l lt ∙ ap (λ (m : ℤ). take i c ++ m ∷ []) (sym read)

-- is crossed out
pub crossed_gone : (b : Variables) (c : List ℤ) (i : ℕ) (l : ℤ) → i < length c → l ≡ get_or c i l → b (variable l) ≡ true
    → crossed_out b (take (i + 1) c) ≡ crossed_out b (take i c)
crossed_gone b c i l lt read e =
    ap (crossed_out b) (read_more c i l lt read) ∙ filter-append (λ k. not (b (variable k))) (take i c) (l ∷ [])
    ∙ ap (λ (x : Bool). crossed_out b (take i c) ++ cond (not x) (l ∷ []) []) e ∙ append-nil (crossed_out b (take i c))

-- or stays
pub crossed_more : (b : Variables) (c : List ℤ) (i : ℕ) (l : ℤ) → i < length c → l ≡ get_or c i l → b (variable l) ≡ false
    → crossed_out b (take (i + 1) c) ≡ crossed_out b (take i c) ++ l ∷ []
crossed_more b c i l lt read e =
    ap (crossed_out b) (read_more c i l lt read) ∙ filter-append (λ k. not (b (variable k))) (take i c) (l ∷ [])
    ∙ ap (λ (x : Bool). crossed_out b (take i c) ++ cond (not x) (l ∷ []) []) e
