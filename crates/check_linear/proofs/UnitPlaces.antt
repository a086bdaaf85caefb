-- The number of each variable's unit.
use Rattle.std.proofs.Common.{◌≡◌, ◌∙◌, ℕ, zero, suc, ◌+◌, ◌-◌, ◌<◌, ◌≤◌, Bool, List, [], ◌∷◌, length, get_or, drop, refl, sym, ap, subst, arith, Some, None, inl, inr}
use Rattle.std.specs.Prelude.{find, replicate, slice_set, ◌==◌}
use Rattle.std.specs.List.{range_with_len}
use Rattle.std.specs.Option.{option_map_or}
use Rattle.std.proofs.lemmas.Bool.{cases_Bool, cond-false, ne_eqb}
use Rattle.std.proofs.lemmas.List.{drop_all, get_or_default, get_or_read}
use Rattle.std.proofs.lemmas.List.FromFn.{get_or-range_with_len, length-range_with_len}
use Rattle.lk_model.specs.Lists.{up_to}
use Rattle.lk_model.specs.Documents.Documents.{unit_of}
use Rattle.lk_model.specs.declared.document.Unit.{Unit}
use Rattle.check_linear.specs.Linear.{AreUnitPlaces, HasUnitPlaces, no_unit, unit_line, unit_numbered}
use Rattle.kernel_laws.proofs.FirstTables.{first_more, first_none}

-- the first number whose unit passes is that of the first unit that passes
listed : (t : Unit → Bool) (all : List Unit) (a : ℕ) (us : List Unit) → 0 < a → ((j : ℕ) → j < length us → unit_numbered all (a + j) ≡ get_or us j no_unit)
    → unit_line all (option_map_or (λ (k : ℕ). k) (find (λ k. t (unit_numbered all k)) (range_with_len a (length us))) 0) ≡ find t us
listed t all a [] low same = refl
listed t all a (u ∷ us) low same =
    let at : a + 0 ≡ a = omega arith in
    let here : unit_numbered all a ≡ u = ap (unit_numbered all) (sym at) ∙ same 0 (omega arith) in
    let rest = listed t all (a + 1) us (omega arith) (λ j inside. (let next : a + 1 + j ≡ a + suc j = omega arith in ap (unit_numbered all) next ∙ same (suc j) (omega (arith, inside)))) in
    elim (cases_Bool (t u)) [
      | inl passes ↦ rw (here, passes) (cond-false (a == 0) None (Some (unit_numbered all a)) (ne_eqb a 0 (λ e. absurd (omega (arith, low, e)))) ∙ ap (λ (w : Unit). Some w) here)
      | inr fails ↦ rw (here, fails) rest
    ]

-- so the table has each variable's unit
pub line_is : (n : ℕ) (units : List Unit) (table : List ℕ) (v : ℕ) → AreUnitPlaces n units table → 1 ≤ v → v ≤ n → unit_line units (get_or table (v - 1) 0) ≡ unit_of units v
line_is n units table v t low high =
    ap (unit_line units) (t.told v low high)
    ∙ listed (λ (u : Unit). u.var == v) units 1 units (omega arith) (λ j inside. (let at : 1 + j - 1 ≡ j = omega arith in ap (λ (k : ℕ). get_or units k no_unit) at))

-- a number that is found is one of the range
found_below : (t : ℕ → Bool) (a n : ℕ) → 0 < a → option_map_or (λ (k : ℕ). k) (find t (range_with_len a n)) 0 < a + n
found_below t a zero low = omega (arith, low)
found_below t a (suc n) low = elim (cases_Bool (t a)) [
  | inl y ↦ rw y (let b : a < a + suc n = omega arith in b)
  | inr fails ↦ rw fails (let b = found_below t (a + 1) n (omega arith) in omega (arith, b))
]

pub place_within : (n : ℕ) (units : List Unit) (table : List ℕ) (v k : ℕ) → AreUnitPlaces n units table → 0 < v → v ≤ n → k ≡ get_or table (v - 1) k → k ≤ length units
place_within n units table v k t low high is =
    let inside : v - 1 < length table = omega (arith, low, high, t.size_is) in
    let read : k ≡ get_or table (v - 1) 0 = get_or_read table (v - 1) k inside is 0 in
    let b = found_below (λ j. (unit_numbered units j).var == v) 1 (length units) (omega arith) in
    omega (arith, b, read, t.told v low high)

-- before the first unit
pub place_none : (n : ℕ) (units : List Unit) (table : List ℕ) → table ≡ replicate n 0 → HasUnitPlaces n units (drop (length units) (up_to (length units))) table
place_none n units table none =
    subst (λ (numbers : List ℕ). HasUnitPlaces n units numbers table) (sym (drop_all (length units) (up_to (length units)) (omega (arith, length-range_with_len 1 (length units)))))
    (first_none n (λ k. (unit_numbered units k).var) (λ k. k) 0 0 table none)

-- one unit more before the others
pub place_more : (n : ℕ) (units : List Unit) (i j : ℕ) (u : Unit) (table : List ℕ) → j ≡ i + 1 → i < length units → u ≡ get_or units i u → 1 ≤ u.var → u.var ≤ n
    → HasUnitPlaces n units (drop j (up_to (length units))) table → HasUnitPlaces n units (drop i (up_to (length units))) (slice_set table (u.var - 1) j)
place_more n units i j u table next inside is low high h =
    let numbers = up_to (length units) in
    let x : ℕ = get_or numbers i 0 in
    let at : x ≡ j = get_or-range_with_len 1 (length units) i 0 inside ∙ (let k : 1 + i ≡ j = omega (arith, next) in k) in
    let key : (unit_numbered units x).var ≡ u.var =
    ap (λ (k : ℕ). (unit_numbered units k).var) at
    ∙ (let k : j - 1 ≡ i = omega (arith, next) in ap (λ (k : ℕ). (get_or units k no_unit).var) k)
    ∙ ap (λ (w : Unit). w.var) (get_or_default units i no_unit u inside ∙ sym is) in
    let more = first_more n (λ k. (unit_numbered units k).var) (λ k. k) 0 0 numbers i j 0 table next (omega (arith, inside, length-range_with_len 1 (length units)))
    (omega (arith, low, key)) (omega (arith, high, key)) h in
    subst (λ (k : ℕ). HasUnitPlaces n units (drop i numbers) (slice_set table (k - 1) j)) key
    (subst (λ (k : ℕ). HasUnitPlaces n units (drop i numbers) (slice_set table ((unit_numbered units x).var - 1) k)) at more)
