-- The positions and literals of general results for the parts of a formula.
use Rattle.std.proofs.Common.{◌≡◌, ℕ, zero, suc, ◌<◌, ◌≤◌, true, List, [], ◌∷◌, length, get_or, map, sym, subst, arith, ℤ, inl, inr, Contains}
use Rattle.std.specs.Ordering.{int_eq}
use Rattle.lk_model.specs.Formulas.Literal.{variable, contains}
use Rattle.lk_model.specs.Formulas.Formula.{Cnf, variable_occurs}
use Rattle.lk_model.specs.Formulas.Parts.{AreParts}
use Rattle.lk_model.specs.declared.result.GeneralResult.{GeneralResult}
use Rattle.lk_model.proofs.Booleans.{or_true, or_left, or_right}
use Rattle.lk_model.proofs.Counting.{Differ-rises}
use Rattle.lk_model.proofs.Keys.{first_in, later_in, key_among}
use Rattle.lk_model.proofs.Literals.{same_int, int_self}
use Rattle.lk_model.proofs.Rising.{bounded}
use Rattle.kernel_laws.proofs.Clauses.{mentions_of}
use Rattle.kernel_laws.proofs.Lists.{among_in as contains_among}
use Rattle.general_laws.specs.GeneralResults.{IsGeneralResult, AreGeneralResults}
use Rattle.autarky_compose.specs.JoinedGeneral.{AreJoinable, all_kept, all_set}
use Rattle.autarky_compose.specs.Tables.{AreDistinct}
use Rattle.autarky_compose.proofs.Orders.{same_item}
use Rattle.autarky_compose.proofs.PartCovers.{one_part}
use Rattle.autarky_compose.proofs.PartItems.{each_item}
use Rattle.autarky_compose.proofs.Sources.{from_all}

-- a result with nothing in it
nothing : GeneralResult
nothing = record { kept = []; set = []; rounds = [] }

-- the result at a place is one for the part at that place
one : (F : Cnf) (parts : List (List ℕ)) (found : List GeneralResult) (k : ℕ) → AreGeneralResults F parts found → k < length found
    → IsGeneralResult F (get_or parts k []) (get_or found k nothing)
unfolding nothing
one F [] [] k all lt = absurd (omega (arith, lt))
one F [] (r ∷ found) k all lt = absurd all
one F (ps ∷ parts) [] k all lt = absurd all
one F (ps ∷ parts) (r ∷ found) zero all lt = all.0
one F (ps ∷ parts) (r ∷ found) (suc k) all lt = one F parts found k all.1 (omega (arith, lt))

-- a literal of a list, in two words
pub contains_literal : (ls : List ℤ) (l : ℤ) → contains ls l ≡ true → Contains ls l
contains_literal [] l e = absurd (let f : ⊥ = cc in f)
contains_literal (k ∷ ls) l e = elim (or_true (int_eq l k) (contains ls l) e) [
  | inl here ↦ subst (λ (j : ℤ). Contains (k ∷ ls) j) (sym (same_int l k here)) (first_in k ls)
  | inr later ↦ later_in k ls l (contains_literal ls l later)
]

pub literal_contains : (ls : List ℤ) (l : ℤ) → Contains ls l → contains ls l ≡ true
literal_contains [] l (k, lt, e) = absurd (omega (arith, lt))
literal_contains (k ∷ ls) l (zero, lt, e) = or_left (int_eq l k) _ (subst (λ (j : ℤ). int_eq l j ≡ true) (sym e) (int_self l))
literal_contains (k ∷ ls) l (suc n, lt, e) = or_right (int_eq l k) _ (literal_contains ls l (n, omega (arith, lt), e))

-- BOUNDS

kept_bounds : (F : Cnf) (parts : List (List ℕ)) (found : List GeneralResult) (p : ℕ) → AreGeneralResults F parts found → Contains (all_kept found) p
    → (0 < p) × (p ≤ length F.clauses)
kept_bounds F parts found p all c =
    let w = from_all nothing (λ (r : GeneralResult). r.kept) found p c in
    let h = one F parts found w.0 all w.1 in
    bounded 0 (length F.clauses) (get_or found w.0 nothing).kept p h.positions (contains_among (get_or found w.0 nothing).kept p w.2)

pub set_bounds : (F : Cnf) (parts : List (List ℕ)) (found : List GeneralResult) (l : ℤ) → AreGeneralResults F parts found → Contains (all_set found) l
    → (0 < variable l) × (variable l ≤ F.vars)
set_bounds F parts found l all c =
    let w = from_all nothing (λ (r : GeneralResult). r.set) found l c in
    let h = one F parts found w.0 all w.1 in
    let set = (get_or found w.0 nothing).set in
    bounded 0 F.vars (map variable set) (variable l) h.set (key_among variable set l w.2)

-- LITERALS ON ONE VARIABLE

-- its variable is one of the part
on_part : (F : Cnf) (part : List ℕ) (r : GeneralResult) (l : ℤ) → IsGeneralResult F part r → Contains r.set l → variable_occurs F part (variable l) ≡ true
on_part F part r l h c = h.on_part (variable l) (mentions_of r.set l (literal_contains r.set l c))

-- they are in one result, and so one
set_apart : (F : Cnf) (parts : List (List ℕ)) (found : List GeneralResult) → AreParts F parts → AreGeneralResults F parts found
    → AreDistinct variable (all_set found)
set_apart F parts found are all l k cl ck e =
    let f : GeneralResult → List ℤ = λ r. r.set in
    let w = from_all nothing f found l cl in
    let u = from_all nothing f found k ck in
    let h = one F parts found w.0 all w.1 in
    let r = get_or found w.0 nothing in
    let other = subst (λ (v : ℕ). variable_occurs F (get_or parts u.0 []) v ≡ true) (sym e)
    (on_part F (get_or parts u.0 []) (get_or found u.0 nothing) k (one F parts found u.0 all u.1) u.2) in
    let same : u.0 ≡ w.0 = one_part F parts u.0 w.0 (variable l) are other (on_part F (get_or parts w.0 []) r l h w.2) in
    same_item variable r.set l k (Differ-rises 0 F.vars (map variable r.set) h.set) w.2
    (subst (λ (n : ℕ). Contains (get_or found n nothing).set k) same u.2) e

-- so the results can be joined
pub joinable : (F : Cnf) (parts : List (List ℕ)) (found : List GeneralResult) → AreParts F parts → AreGeneralResults F parts found
    → AreJoinable (length F.clauses) found
joinable F parts found are all = record {
  kept = each_item (λ (p : ℕ). (0 < p) × (p ≤ length F.clauses)) (all_kept found) (λ p c. kept_bounds F parts found p all c);
  set = each_item (λ (l : ℤ). 0 < variable l) (all_set found) (λ l c. (set_bounds F parts found l all c).0);
  apart = set_apart F parts found are all;
}
