-- The parts of a formula share no variable and cover its positions.
use Rattle.std.proofs.Common.{◌≡◌, ℕ, zero, suc, ◌<◌, true, List, [], ◌∷◌, length, get_or, map, sym, ◌∙◌, arith, inl, inr}
use Rattle.std.specs.List.{AllByRecursion}
use Rattle.std.proofs.lemmas.Bool.{both_ways, cases_eq}
use Rattle.std.proofs.lemmas.List.{length-map}
use Rattle.std.proofs.Math.ListN.{get_or-map}
use Rattle.lk_model.specs.Formulas.Formula.{Cnf, variable_occurs}
use Rattle.lk_model.specs.Formulas.Lean.{are_positions}
use Rattle.lk_model.specs.Formulas.Parts.{IsPart, AreParts, least_of}
use Rattle.lk_model.proofs.Counting.{Differ-rises, same_place}
use Rattle.lk_model.proofs.Rising.{part_rises as rising}
use Rattle.general_laws.proofs.PartLaws.{differ}
use Rattle.par_parts.specs.Groups.{IsDisjointCover}

-- where a variable occurs there is a part
inside : (F : Cnf) (parts : List (List ℕ)) (k v : ℕ) → variable_occurs F (get_or parts k []) v ≡ true → k < length parts
inside F [] k v e = absurd (let f : ⊥ = cc in f)
inside F (ps ∷ parts) zero v e = omega arith
inside F (ps ∷ parts) (suc k) v e = let lt = inside F parts k v e in omega (arith, lt)

part_at : (F : Cnf) (parts : List (List ℕ)) (k : ℕ) → AllByRecursion (IsPart F) parts → k < length parts → IsPart F (get_or parts k [])
part_at F [] k all lt = absurd (omega (arith, lt))
part_at F (ps ∷ parts) zero all lt = all.0
part_at F (ps ∷ parts) (suc k) all lt = part_at F parts k all.1 (omega (arith, lt))

all_rising : (F : Cnf) (parts : List (List ℕ)) → AllByRecursion (IsPart F) parts → AllByRecursion (λ (part : List ℕ). are_positions F part ≡ true) parts
all_rising F [] all = tt
all_rising F (ps ∷ parts) all = (rising F ps all.0, all_rising F parts all.1)

-- parts with one least position are one
one_place : (F : Cnf) (parts : List (List ℕ)) (j k : ℕ) → AreParts F parts → j < length parts → k < length parts
    → least_of (get_or parts j []) ≡ least_of (get_or parts k []) → j ≡ k
one_place F parts j k are l m e =
    let long = length-map parts least_of in
    same_place (map least_of parts) j k (Differ-rises 0 (length F.clauses) (map least_of parts) are.order) (omega (arith, l, long)) (omega (arith, m, long))
    (get_or-map least_of parts j [] ∙ (e ∙ sym (get_or-map least_of parts k [])))

-- and so are parts with one variable
pub one_part : (F : Cnf) (parts : List (List ℕ)) (j k v : ℕ) → AreParts F parts → variable_occurs F (get_or parts j []) v ≡ true
    → variable_occurs F (get_or parts k []) v ≡ true → j ≡ k
one_part F parts j k v are a b =
    let l = inside F parts j v a in
    let m = inside F parts k v b in
    elim (cases_eq (least_of (get_or parts j [])) (least_of (get_or parts k []))) [
      | inl same ↦ one_place F parts j k are l m same
      | inr other ↦ absurd (both_ways (variable_occurs F (get_or parts k []) v)
          (differ F (get_or parts j []) (get_or parts k []) (part_at F parts j are.each l) (part_at F parts k are.each m) other v a) b)
    ]

pub parts_cover : (F : Cnf) (parts : List (List ℕ)) → AreParts F parts → IsDisjointCover F parts
parts_cover F parts are = record {
  each = all_rising F parts are.each;
  whole = are.whole;
  apart = λ j k v a b. one_part F parts j k v are a b;
}
