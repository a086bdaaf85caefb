-- The items of results for groups of positions: their keys differ, and lie within bounds.
use Rattle.std.proofs.Common.{◌≡◌, ℕ, zero, suc, ◌<◌, ◌≤◌, true, not, List, [], ◌∷◌, length, get_or, sym, subst, arith, Contains, All}
use Rattle.std.specs.List.{AllByRecursion}
use Rattle.std.proofs.lemmas.List.Elements.{Contains-get_or}
use Rattle.lk_model.specs.Lists.{among}
use Rattle.lk_model.specs.Formulas.Formula.{Cnf, variable_occurs, variables_to}
use Rattle.lk_model.specs.Formulas.Lean.{are_positions}
use Rattle.lk_model.specs.declared.document.Own.{Own}
use Rattle.lk_model.specs.declared.document.MatchRow.{MatchRow}
use Rattle.lk_model.specs.declared.result.MatchingResult.{MatchingResult}
use Rattle.lk_model.proofs.Counting.{Differ, none, Differ-filter, Differ-rises, Differ-range}
use Rattle.lk_model.proofs.Rising.{bounded, range_rises}
use Rattle.lk_model.proofs.Variables.{occurs}
use Rattle.autarky_compose.specs.JoinedMatching.{AreOfGroups, all_kept, all_own, all_rows}
use Rattle.autarky_compose.specs.Tables.{AreDistinct}
use Rattle.autarky_compose.proofs.Orders.{same_item}
use Rattle.autarky_compose.proofs.Sources.{nothing, kept_from, own_from, row_from}

-- what holds of each item of a list
pub each_item : {X : Type 0} (P : X → Type 0) (xs : List X) → ((x : X) → Contains xs x → P x) → All P xs
each_item P xs h = λ k d lt. h (get_or xs k d) (Contains-get_or xs k d lt)

-- GROUPS

-- a position of a group is one of the formula
group_bounds : (F : Cnf) (groups : List (List ℕ)) (k p : ℕ) → AllByRecursion (λ (group : List ℕ). are_positions F group ≡ true) groups
    → among (get_or groups k []) p ≡ true → (0 < p) × (p ≤ length F.clauses)
group_bounds F [] k p all e = absurd (let f : ⊥ = cc in f)
group_bounds F (ps ∷ groups) zero p all e = bounded 0 (length F.clauses) ps p all.0 e
group_bounds F (ps ∷ groups) (suc k) p all e = group_bounds F groups k p all.1 e

-- no position stands twice in a group
group_differs : (F : Cnf) (groups : List (List ℕ)) (k : ℕ) → AllByRecursion (λ (group : List ℕ). are_positions F group ≡ true) groups
    → Differ (get_or groups k [])
group_differs F [] k all = none
group_differs F (ps ∷ groups) zero all = Differ-rises 0 (length F.clauses) ps all.0
group_differs F (ps ∷ groups) (suc k) all = group_differs F groups k all.1

-- ITEMS

record Bounds (m n : ℕ) : Type 0 where
  pub low : 0 < n
  pub high : n ≤ m

kept_bounds : (m : ℕ) (found : List MatchingResult) (p : ℕ) → AreOfGroups m found → Contains (all_kept found) p → Bounds m p
kept_bounds m found p h c =
    let k = kept_from h.formula h.groups found p h.results c in
    let b = bounded 0 (length h.formula.clauses) (get_or found k.place nothing).kept p k.result.positions k.kept in
    record { low = b.0; high = subst (λ (n : ℕ). p ≤ n) h.count b.1 }

own_bounds : (m : ℕ) (found : List MatchingResult) (o : Own) → AreOfGroups m found → Contains (all_own found) o → Bounds m o.pos
own_bounds m found o h c =
    let s = own_from h.formula h.groups found o h.results c in
    let b = group_bounds h.formula h.groups s.place o.pos h.cover.each s.in_group in
    record { low = b.0; high = subst (λ (n : ℕ). o.pos ≤ n) h.count b.1 }

row_positive : (m : ℕ) (found : List MatchingResult) (w : MatchRow) → AreOfGroups m found → Contains (all_rows found) w → 0 < w.var
row_positive m found w h c =
    let s = row_from h.formula h.groups found w h.results c in
    let n = h.formula.vars in
    (bounded 0 n (variables_to n) w.var (range_rises 0 n 1 n (omega arith) (omega arith)) s.listed.1).0

pub kept_positive : (m : ℕ) (found : List MatchingResult) → AreOfGroups m found → All (λ (p : ℕ). 0 < p) (all_kept found)
kept_positive m found h = each_item (λ (p : ℕ). 0 < p) (all_kept found) (λ p c. (kept_bounds m found p h c).low)

pub kept_within : (m : ℕ) (found : List MatchingResult) → AreOfGroups m found → All (λ (p : ℕ). p ≤ m) (all_kept found)
kept_within m found h = each_item (λ (p : ℕ). p ≤ m) (all_kept found) (λ p c. (kept_bounds m found p h c).high)

pub own_positive : (m : ℕ) (found : List MatchingResult) → AreOfGroups m found → All (λ (o : Own). 0 < o.pos) (all_own found)
own_positive m found h = each_item (λ (o : Own). 0 < o.pos) (all_own found) (λ o c. (own_bounds m found o h c).low)

pub own_within : (m : ℕ) (found : List MatchingResult) → AreOfGroups m found → All (λ (o : Own). o.pos ≤ m) (all_own found)
own_within m found h = each_item (λ (o : Own). o.pos ≤ m) (all_own found) (λ o c. (own_bounds m found o h c).high)

pub rows_positive : (m : ℕ) (found : List MatchingResult) → AreOfGroups m found → All (λ (w : MatchRow). 0 < w.var) (all_rows found)
rows_positive m found h = each_item (λ (w : MatchRow). 0 < w.var) (all_rows found) (λ w c. row_positive m found w h c)

-- own lines at one position are in one result, and so one
pub own_distinct : (m : ℕ) (found : List MatchingResult) → AreOfGroups m found → AreDistinct (λ (o : Own). o.pos) (all_own found)
own_distinct m found h o u co cu e =
    let F = h.formula in
    let s = own_from F h.groups found o h.results co in
    let r = own_from F h.groups found u h.results cu in
    let inside = subst (λ (p : ℕ). among (get_or h.groups r.place []) p ≡ true) (sym e) r.in_group in
    let same : r.place ≡ s.place = h.cover.apart r.place s.place o.var (occurs F (get_or h.groups r.place []) o.pos o.var inside s.holds) s.on in
    let kept = (get_or found s.place nothing).kept in
    same_item (λ (x : Own). x.pos) (get_or found s.place nothing).own o u
    (subst (λ (ps : List ℕ). Differ ps) (sym s.result.removed) (Differ-filter (λ p. not (among kept p)) (get_or h.groups s.place []) (group_differs F h.groups s.place h.cover.each)))
    s.there (subst (λ (n : ℕ). Contains (get_or found n nothing).own u) same r.there) e

-- and so are rows on one variable
pub rows_distinct : (m : ℕ) (found : List MatchingResult) → AreOfGroups m found → AreDistinct (λ (w : MatchRow). w.var) (all_rows found)
rows_distinct m found h w u cw cu e =
    let F = h.formula in
    let s = row_from F h.groups found w h.results cw in
    let r = row_from F h.groups found u h.results cu in
    let same : r.place ≡ s.place = h.cover.apart r.place s.place u.var r.on
    (subst (λ (v : ℕ). variable_occurs F (get_or h.groups s.place []) v ≡ true) e s.on) in
    let kept = (get_or found s.place nothing).kept in
    same_item (λ (x : MatchRow). x.var) (get_or found s.place nothing).rows w u
    (subst (λ (vs : List ℕ). Differ vs) (sym s.result.variables) (Differ-filter (variable_occurs F kept) (variables_to F.vars) (Differ-range 1 F.vars)))
    s.there (subst (λ (n : ℕ). Contains (get_or found n nothing).rows u) same r.there) e
