-- Equal lists have equal heads and tails.
use Rattle.std.proofs.Common.{◌≡◌, List, ◌∷◌}

pub cons_parts : {X : Type 0} {x y : X} {xs ys : List X} → x ∷ xs ≡ y ∷ ys → (x ≡ y) × (xs ≡ ys)
cons_parts e = (cc, cc)
