-- What is found first in pieces of a list.
use Rattle.std.proofs.Common.{◌≡◌, ◌∙◌, ℕ, zero, suc, ◌<◌, Bool, List, [], ◌∷◌, ◌++◌, length, get_or, refl, sym, ap, arith, append_assoc, append-nil, Option, Some, None, Ok, Err, find, option_map}
use Rattle.std.specs.Prelude.{IfOk}
use Rattle.std.specs.Option.{option_or}
use Rattle.std.proofs.lemmas.Result.{IfOk-weaker}
use Rattle.std.proofs.lemmas.List.Folds.{find-append}
use denote.Ref.{Bor}
use Rattle.check_tables.specs.Places.{Answer, IsPart, joined}
use Rattle.check_places.specs.FirstAnswers.{first_answer}

-- what is found of the first of two
pub map_or : {X Y : Type 0} (f : X → Y) (a b : Option X) → option_map f (option_or a b) ≡ option_or (option_map f a) (option_map f b)
map_or f None b = refl
map_or f (Some x) b = refl

module _ {T : Type 0} where
  -- one piece more
  pub joined_more : (parts : List (Bor (List T))) (part : Bor (List T)) → joined (parts ++ part ∷ []) ≡ joined parts ++ part.now
  joined_more [] part = append-nil part.now
  joined_more (p ∷ parts) part = ap (λ (xs : List T). p.now ++ xs) (joined_more parts part) ∙ sym (append_assoc p.now (joined parts) part.now)

  pub part_within : (parts : List (Bor (List T))) (i : ℕ) (d : Bor (List T)) → i < length parts → IsPart (get_or parts i d).now (joined parts)
  part_within [] i d lt = absurd (omega (arith, lt))
  part_within (p ∷ parts) zero d lt = ([], joined parts, refl)
  part_within (p ∷ parts) (suc i) d lt =
      let w = part_within parts i d (omega (arith, lt)) in
      (p.now ++ w.0, w.1, ap (λ (xs : List T). p.now ++ xs) w.2 ∙ sym (append_assoc p.now w.0 ((get_or parts i d).now ++ w.1)))

  -- the first of all answers is what is found of the first item of all
  pub first_of_parts : (by : T → Bool) (tell : T → ℕ) (parts : List (Bor (List T))) (rs : List Answer) → length rs ≡ length parts
      → ((i : ℕ) (d : Bor (List T)) (r : Answer) → i < length parts → IfOk (get_or rs i r) (λ place. place ≡ option_map tell (find by (get_or parts i d).now)))
      → IfOk (first_answer rs) (λ place. place ≡ option_map tell (find by (joined parts)))
  first_of_parts by tell [] [] len found = refl
  first_of_parts by tell [] (r ∷ rs) len found = absurd (omega (arith, len))
  first_of_parts by tell (p ∷ parts) [] len found = absurd (omega (arith, len))
  first_of_parts by tell (p ∷ parts) (r ∷ rs) len found =
      at_first r (found 0 p r (omega arith)) (first_of_parts by tell parts rs (omega (arith, len)) (λ i d s inside. found (suc i) d s (omega (arith, inside))))
    where
      whole : option_map tell (find by (p.now ++ joined parts)) ≡ option_or (option_map tell (find by p.now)) (option_map tell (find by (joined parts)))
      whole = ap (option_map tell) (find-append by p.now (joined parts)) ∙ map_or tell (find by p.now) (find by (joined parts))

      at_first : (s : Answer) → IfOk s (λ place. place ≡ option_map tell (find by p.now)) → IfOk (first_answer rs) (λ place. place ≡ option_map tell (find by (joined parts)))
          → IfOk (first_answer (s ∷ rs)) (λ place. place ≡ option_map tell (find by (p.now ++ joined parts)))
      at_first (Err e) f rest = tt
      at_first (Ok (Some k)) f rest = sym (whole ∙ ap (λ (o : Option ℕ). option_or o (option_map tell (find by (joined parts)))) (sym f))
      at_first (Ok None) f rest = IfOk-weaker (first_answer rs) _ _
          (λ o e. e ∙ sym (whole ∙ ap (λ (x : Option ℕ). option_or x (option_map tell (find by (joined parts)))) (sym f))) rest
