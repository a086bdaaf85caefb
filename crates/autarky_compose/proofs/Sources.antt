-- From which result an item of all results is.
use Rattle.std.proofs.Common.{◌≡◌, ℕ, zero, suc, ◌<◌, true, not, List, [], ◌∷◌, length, get_or, subst, arith, inl, inr, Contains}
use Rattle.std.specs.List.{list_any, flat_map}
use Rattle.std.proofs.lemmas.List.Elements.{Contains-append_left, Contains-append_right, Contains-append_cases}
use Rattle.lk_model.specs.Lists.{among}
use Rattle.lk_model.specs.Formulas.Literal.{mentions}
use Rattle.lk_model.specs.Formulas.Formula.{Cnf, clause_at, variable_occurs, variables_to}
use Rattle.lk_model.specs.declared.document.Own.{Own}
use Rattle.lk_model.specs.declared.document.MatchRow.{MatchRow}
use Rattle.lk_model.specs.declared.result.MatchingResult.{MatchingResult}
use Rattle.lk_model.proofs.Booleans.{and_true, or_true}
use Rattle.lk_model.proofs.Counting.{from_filter}
use Rattle.lk_model.proofs.Keys.{key_among}
use Rattle.lk_model.proofs.Variables.{occurs}
use Rattle.matching_laws.specs.MatchingResults.{IsMatchingResult}
use Rattle.autarky_compose.specs.JoinedMatching.{AreMatchingResults, all_kept, all_own, all_rows}
use Rattle.kernel_laws.proofs.Lists.{among_in as contains_among}

-- a result with nothing in it
abbrev pub nothing : MatchingResult
nothing = record { kept = []; own = []; rows = [] }

-- the result at a place is one for the group at that place
pub one : (F : Cnf) (groups : List (List ℕ)) (found : List MatchingResult) (k : ℕ) → AreMatchingResults F groups found → k < length found
    → IsMatchingResult F (get_or groups k []) (get_or found k nothing)
one F [] [] k all lt = absurd (omega (arith, lt))
one F [] (r ∷ found) k all lt = absurd all
one F (ps ∷ groups) [] k all lt = absurd all
one F (ps ∷ groups) (r ∷ found) zero all lt = all.0
one F (ps ∷ groups) (r ∷ found) (suc k) all lt = one F groups found k all.1 (omega (arith, lt))

-- an item of all results is one of a result
pub from_all : {X Y : Type 0} (d : Y) (f : Y → List X) (found : List Y) (x : X) → Contains (flat_map f found) x
    → (k : ℕ) × (k < length found) × Contains (f (get_or found k d)) x
from_all d f [] x (k, lt, e) = absurd (omega (arith, lt))
from_all d f (r ∷ found) x h = elim (Contains-append_cases (f r) (flat_map f found) x h) [
  | inl here ↦ (zero, omega arith, here)
  | inr later ↦ (let w = from_all d f found x later in let lt = w.1 in (suc w.0, omega (arith, lt), w.2))
]

-- and an item of a result is one of all
pub into_all : {X Y : Type 0} (d : Y) (f : Y → List X) (found : List Y) (x : X) (k : ℕ) → k < length found
    → Contains (f (get_or found k d)) x → Contains (flat_map f found) x
into_all d f [] x k lt h = absurd (omega (arith, lt))
into_all d f (r ∷ found) x zero lt h = Contains-append_left (f r) (flat_map f found) x h
into_all d f (r ∷ found) x (suc k) lt h = Contains-append_right (f r) (flat_map f found) x (into_all d f found x k (omega (arith, lt)) h)

-- a position of some group has a result
pub result_with : (F : Cnf) (groups : List (List ℕ)) (found : List MatchingResult) (p : ℕ) → AreMatchingResults F groups found
    → list_any (λ group. among group p) groups ≡ true → (k : ℕ) × (k < length found) × (among (get_or groups k []) p ≡ true)
result_with F [] found p all e = absurd (let f : ⊥ = cc in f)
result_with F (ps ∷ groups) [] p all e = absurd all
result_with F (ps ∷ groups) (r ∷ found) p all e = elim (or_true (among ps p) (list_any (λ group. among group p) groups) e) [
  | inl here ↦ (zero, omega arith, here)
  | inr later ↦ (let w = result_with F groups found p all.1 later in let lt = w.1 in (suc w.0, omega (arith, lt), w.2))
]

-- ITEMS

-- a position that is kept
pub record KeptFrom (F : Cnf) (groups : List (List ℕ)) (found : List MatchingResult) (p : ℕ) : Type 0 where
  pub place : ℕ
  pub inside : place < length found
  pub result : IsMatchingResult F (get_or groups place []) (get_or found place nothing)
  pub kept : among (get_or found place nothing).kept p ≡ true
  pub in_group : among (get_or groups place []) p ≡ true

pub kept_from : (F : Cnf) (groups : List (List ℕ)) (found : List MatchingResult) (p : ℕ) → AreMatchingResults F groups found → Contains (all_kept found) p
    → KeptFrom F groups found p
kept_from F groups found p all c =
    let w = from_all nothing (λ (r : MatchingResult). r.kept) found p c in
    let h = one F groups found w.0 all w.1 in
    let k = contains_among (get_or found w.0 nothing).kept p w.2 in
    record { place = w.0; inside = w.1; result = h; kept = k; in_group = h.within p k }

-- an own line
pub record OwnFrom (F : Cnf) (groups : List (List ℕ)) (found : List MatchingResult) (o : Own) : Type 0 where
  pub place : ℕ
  pub inside : place < length found
  pub result : IsMatchingResult F (get_or groups place []) (get_or found place nothing)
  pub there : Contains (get_or found place nothing).own o
  pub in_group : among (get_or groups place []) o.pos ≡ true
  pub holds : mentions (clause_at F o.pos) o.var ≡ true
  pub on : variable_occurs F (get_or groups place []) o.var ≡ true

pub own_from : (F : Cnf) (groups : List (List ℕ)) (found : List MatchingResult) (o : Own) → AreMatchingResults F groups found → Contains (all_own found) o
    → OwnFrom F groups found o
own_from F groups found o all c =
    let w = from_all nothing (λ (r : MatchingResult). r.own) found o c in
    let h = one F groups found w.0 all w.1 in
    let r = get_or found w.0 nothing in
    let group = get_or groups w.0 [] in
    let listed = subst (λ (ps : List ℕ). among ps o.pos ≡ true) h.removed (key_among (λ (u : Own). u.pos) r.own o w.2) in
    let inside = (from_filter (λ p. not (among r.kept p)) group o.pos listed).1 in
    let holds = h.owned o w.2 in
    record { place = w.0; inside = w.1; result = h; there = w.2; in_group = inside; holds = holds; on = occurs F group o.pos o.var inside holds }

-- a row
pub record RowFrom (F : Cnf) (groups : List (List ℕ)) (found : List MatchingResult) (w : MatchRow) : Type 0 where
  pub place : ℕ
  pub inside : place < length found
  pub result : IsMatchingResult F (get_or groups place []) (get_or found place nothing)
  pub there : Contains (get_or found place nothing).rows w
  pub own : (among (get_or found place nothing).kept w.own ≡ true) × (mentions (clause_at F w.own) w.var ≡ true)
  pub escape : (among (get_or found place nothing).kept w.escape ≡ true) × (mentions (clause_at F w.escape) w.var ≡ true)
  pub listed : (variable_occurs F (get_or found place nothing).kept w.var ≡ true) × (among (variables_to F.vars) w.var ≡ true)
  pub on : variable_occurs F (get_or groups place []) w.var ≡ true

pub row_from : (F : Cnf) (groups : List (List ℕ)) (found : List MatchingResult) (w : MatchRow) → AreMatchingResults F groups found → Contains (all_rows found) w
    → RowFrom F groups found w
row_from F groups found w all c =
    let u = from_all nothing (λ (r : MatchingResult). r.rows) found w c in
    let h = one F groups found u.0 all u.1 in
    let r = get_or found u.0 nothing in
    let row = h.rows w u.2 in
    let own = and_true (among r.kept w.own) (mentions (clause_at F w.own) w.var) row.own in
    let escape = and_true (among r.kept w.escape) (mentions (clause_at F w.escape) w.var) row.escape in
    let listed = subst (λ (vs : List ℕ). among vs w.var ≡ true) h.variables (key_among (λ (x : MatchRow). x.var) r.rows w u.2) in
    record {
      place = u.0;
      inside = u.1;
      result = h;
      there = u.2;
      own = own;
      escape = escape;
      listed = from_filter (variable_occurs F r.kept) (variables_to F.vars) w.var listed;
      on = occurs F (get_or groups u.0 []) w.own w.var (h.within w.own own.0) own.1;
    }
