-- What stands on a trail up to a level.
use Rattle.std.proofs.Common.{◌≡◌, ◌∙◌, ℕ, ◌<◌, ◌≤◌, ◌==◌, ◌∷◌, [], Bool, true, false, cond, List, ℤ, Option, Some, None, length, filter, find, nat_le, option_map, refl, sym, ap, subst, arith}
use Rattle.std.specs.Option.{option_map_or}
use Rattle.std.specs.Ordering.{int_eq}
use Rattle.std.proofs.lemmas.Bool.{eqb-true, leb-true, le-leb}
use Rattle.lk_model.specs.Lists.{is_between}
use Rattle.lk_model.specs.Formulas.Literal.{variable, complement, is_literal}
use Rattle.lk_model.proofs.Ranks.{literal_bounds}
use Rattle.general_laws.proofs.Numbering.{found_before}
use Rattle.watch_prop.specs.declared.entry.Entry.{Entry}
use Rattle.watch_prop.specs.Trail.{false_in, entry_of, level_of, present_level, up_to_level, is_path, is_trail}
use Rattle.watch_prop.specs.Propagation.{Propagation, IsPropagation}
use Rattle.watch_prop.proofs.Truths.{true_by_entry}
use Rattle.lk_model.proofs.Literals.{variable_complement}
use Rattle.watch_prop.proofs.Trails.{trail_path, trail_prefix}
use Rattle.watch_prop.proofs.Along.{literal_on_path}
use Rattle.watch_prop.proofs.Levels.{prefix_of}
use Rattle.learning_laws.specs.Learned.{stands_at, stands_up_to}

-- what is found in the list of what passes passes
found_passes : {X : Type 0} (t q : X → Bool) (xs : List X) (x : X) → find t (filter q xs) ≡ Some x → q x ≡ true
found_passes {X} t q [] x e = absurd (let f : ⊥ = cc in f)
found_passes {X} t q (y ∷ xs) x e = at_test (q y) refl e (found_passes t q xs x)
  where
    at_found : q y ≡ true → (b : Bool) → cond b (Some y) (find t (filter q xs)) ≡ Some x → (find t (filter q xs) ≡ Some x → q x ≡ true) → q x ≡ true
    at_found f true e rest = (let same : y ≡ x = cc in subst (λ (z : X). q z ≡ true) same f)
    at_found f false e rest = rest e

    at_test : (b : Bool) → q y ≡ b → find t (cond b (y ∷ filter q xs) (filter q xs)) ≡ Some x → (find t (filter q xs) ≡ Some x → q x ≡ true) → q x ≡ true
    at_test true f e rest = at_found f (t y) e rest
    at_test false f e rest = rest e

-- the trail up to a level is one of propagation
pub trail_up_to : (p : Propagation) (level : ℕ) → IsPropagation p → is_trail p.vars p.clauses (up_to_level level p.trail) ≡ true
trail_up_to p level h =
    let pre = prefix_of p.vars p.clauses level (length p.trail) p.trail refl h.trail in
    trail_prefix p.vars p.clauses (up_to_level level p.trail) pre.rest (subst (λ (t : List Entry). is_trail p.vars p.clauses t ≡ true) pre.whole h.trail)

-- and a path
pub path_up_to : (p : Propagation) (level : ℕ) → IsPropagation p → is_path p.vars (up_to_level level p.trail) ≡ true
path_up_to p level h = trail_path p.vars p.clauses (up_to_level level p.trail) (trail_up_to p level h)

-- the whole trail is a path
pub path_of : (p : Propagation) → IsPropagation p → is_path p.vars p.trail ≡ true
path_of p h = trail_path p.vars p.clauses p.trail h.trail

-- it ends at that level, where the present one is no lower
pub level_up_to : (p : Propagation) (level : ℕ) → IsPropagation p → level ≤ present_level p.trail → present_level (up_to_level level p.trail) ≡ level
level_up_to p level h le = (prefix_of p.vars p.clauses level (length p.trail) p.trail refl h.trail).reached le

-- an entry of it is the entry of the whole trail
entry_kept : (p : Propagation) (level v : ℕ) (e : Entry) → IsPropagation p → entry_of (up_to_level level p.trail) v ≡ Some e → entry_of p.trail v ≡ Some e
entry_kept p level v e h f =
    let pre = prefix_of p.vars p.clauses level (length p.trail) p.trail refl h.trail in
    subst (λ (t : List Entry). entry_of t v ≡ Some e) (sym pre.whole)
    (found_before (λ (e : Entry). variable e.lit == v) (up_to_level level p.trail) pre.rest e f)

-- what was set at a higher level is not on it
pub unset_up_to : (p : Propagation) (level high v : ℕ) → IsPropagation p → level_of p.trail v ≡ Some high → level < high → entry_of (up_to_level level p.trail) v ≡ None
unset_up_to p level high v h at_high lt = at_entry (entry_of (up_to_level level p.trail) v) refl
  where
    at_entry : (o : Option Entry) → entry_of (up_to_level level p.trail) v ≡ o → o ≡ None
    at_entry None f = refl
    at_entry (Some e) f =
        let whole = entry_kept p level v e h f in
        let same : Some e.level ≡ Some high = sym (ap (option_map (λ (e : Entry). e.level)) whole) ∙ at_high in
        let same_level : e.level ≡ high = cc same in
        let within = leb-true e.level level (found_passes (λ (e : Entry). variable e.lit == v) (λ (e : Entry). nat_le e.level level) p.trail e f) in
        absurd (omega (arith, same_level, within, lt))

-- what was set at most at the level is
set_there : (level v low : ℕ) (trail : List Entry) → level_of trail v ≡ Some low → low ≤ level → entry_of (up_to_level level trail) v ≡ entry_of trail v
set_there level v low [] f le = refl
set_there level v low (e ∷ trail) f le = at_here (variable e.lit == v) refl f (set_there level v low trail)
  where
    at_here : (b : Bool) → (variable e.lit == v) ≡ b → option_map (λ (e : Entry). e.level) (cond b (Some e) (entry_of trail v)) ≡ Some low
        → (level_of trail v ≡ Some low → low ≤ level → entry_of (up_to_level level trail) v ≡ entry_of trail v)
        → entry_of (cond (nat_le e.level level) (e ∷ up_to_level level trail) (up_to_level level trail)) v ≡ cond b (Some e) (entry_of trail v)
    at_here true f g rest =
        let same : e.level ≡ low = cc in
        let kept : nat_le e.level level ≡ true = le-leb e.level level (omega (arith, same, le)) in
        rw (kept, f) refl
    at_here false f g rest = at_level (nat_le e.level level)
      where
        at_level : (a : Bool) → entry_of (cond a (e ∷ up_to_level level trail) (up_to_level level trail)) v ≡ entry_of trail v
        at_level true = rw (f) (rest g le)
        at_level false = rest g le

-- LITERALS

-- a false literal is one over the variables
pub false_literal : (p : Propagation) (l : ℤ) → IsPropagation p → false_in p.trail l ≡ true → is_literal p.vars l ≡ true
false_literal p l h f =
    let lit = literal_on_path p.vars p.trail (complement l) (path_of p h) f in
    subst (λ (v : ℕ). is_between 1 p.vars v ≡ true) (variable_complement l) lit

-- so its variable is not 0
pub false_low : (p : Propagation) (l : ℤ) → IsPropagation p → false_in p.trail l ≡ true → 0 < variable l
false_low p l h f = let b = literal_bounds p.vars l (false_literal p l h f) in omega (arith, b.0)

-- the level where a literal stands
pub level_there : (trail : List Entry) (level : ℕ) (l : ℤ) → stands_at trail level l ≡ true → level_of trail (variable l) ≡ Some level
level_there trail level l h = at_level (level_of trail (variable l)) h
  where
    at_level : (o : Option ℕ) → option_map_or (λ k. k == level) o false ≡ true → o ≡ Some level
    at_level None h = absurd (let f : ⊥ = cc in f)
    at_level (Some k) h = ap (λ (n : ℕ). Some n) (eqb-true k level h)

-- a level at most as high
pub record IsLow (trail : List Entry) (level : ℕ) (l : ℤ) : Type 0 where
  pub low : ℕ
  pub is : level_of trail (variable l) ≡ Some low
  pub within : low ≤ level

-- of a literal that stands up to a level
pub low_there : (trail : List Entry) (level : ℕ) (l : ℤ) → stands_up_to trail level l ≡ true → IsLow trail level l
low_there trail level l h = at_level (level_of trail (variable l)) refl h
  where
    at_level : (o : Option ℕ) → level_of trail (variable l) ≡ o → option_map_or (λ k. nat_le k level) o false ≡ true → IsLow trail level l
    at_level None f h = absurd (let f : ⊥ = cc in f)
    at_level (Some k) f h = record { low = k; is = f; within = leb-true k level h }

-- a false literal that stands at most at a level is false under the trail up to it
pub false_up_to : (p : Propagation) (level : ℕ) (l : ℤ) → IsPropagation p → false_in p.trail l ≡ true → stands_up_to p.trail level l ≡ true
    → false_in (up_to_level level p.trail) l ≡ true
false_up_to p level l h f low =
    let at_low = low_there p.trail level l low in
    let positive = false_low p l h f in
    let positive' : 0 < variable (complement l) = omega (arith, positive, variable_complement l) in
    let same : entry_of (up_to_level level p.trail) (variable (complement l)) ≡ entry_of p.trail (variable (complement l)) =
    subst (λ (v : ℕ). entry_of (up_to_level level p.trail) v ≡ entry_of p.trail v) (sym (variable_complement l))
    (set_there level (variable l) at_low.low p.trail at_low.is at_low.within) in
    sym (true_by_entry p.vars (up_to_level level p.trail) (complement l) (path_up_to p level h) positive')
    ∙ ap (λ (o : Option Entry). option_map_or (λ (e : Entry). int_eq e.lit (complement l)) o false) same
    ∙ true_by_entry p.vars p.trail (complement l) (path_of p h) positive' ∙ f
