-- Which literals are true, by flags at their places.
use Rattle.std.proofs.Common.{◌≡◌, ℕ, ◌+◌, ◌*◌, ◌<◌, Bool, true, false, cond, ◌||◌, ◌==◌, List, [], ◌∷◌, ◌++◌, refl, sym, ◌∙◌, ap, subst, arith, ℤ, pos, negsuc, Some, None, length, get_or, set, get_or-set_other, get_or-set_same, inl, inr}
use Rattle.std.specs.Ordering.{int_eq}
use Rattle.std.proofs.lemmas.List.{get_or_read}
use Rattle.std.proofs.lemmas.Bool.{eq-eqb, cases_Bool}
use Rattle.lk_model.specs.Formulas.Literal.{variable, is_literal}
use Rattle.lk_model.proofs.Booleans.{or_left, or_right}
use Rattle.lk_model.proofs.Flags.{same_false}
use Rattle.lk_model.proofs.Literals.{same_int}
use Rattle.lk_model.proofs.Ranks.{literal_bounds}
use Rattle.watch_prop.specs.declared.entry.Entry.{Entry}
use Rattle.watch_prop.specs.declared.trail.Trail.TheInside.{Inside}
use Rattle.watch_prop.specs.Trail.{Path, entry_of, true_in}
use Rattle.watch_prop.specs.HeldTrail.{AreValues, place_of, seen, IsHeldTrail}
use Rattle.watch_prop.proofs.Truths.{same_true, false_apart}

-- ONE MORE LITERAL

pub last_true : (trail : List Entry) (e : Entry) → true_in (trail ++ e ∷ []) e.lit ≡ true
last_true [] e = or_left (int_eq e.lit e.lit) false (same_true e.lit e.lit refl)
last_true (d ∷ trail) e = or_right (int_eq e.lit d.lit) (true_in (trail ++ e ∷ []) e.lit) (last_true trail e)

truth_other : (trail : List Entry) (e : Entry) (l : ℤ) → int_eq l e.lit ≡ false → true_in (trail ++ e ∷ []) l ≡ true_in trail l
truth_other [] e l n = rw n refl
truth_other (d ∷ trail) e l n = ap (λ (b : Bool). int_eq l d.lit || b) (truth_other trail e l n)

-- no literal of an unset variable is true
absent_false : (trail : List Entry) (l : ℤ) → entry_of trail (variable l) ≡ None → true_in trail l ≡ false
absent_false [] l n = refl
absent_false (d ∷ trail) l n = elim (cases_Bool (variable d.lit == variable l)) [
  | inl y ↦ (let f : Some d ≡ None = sym (ap (λ (b : Bool). cond b (Some d) (entry_of trail (variable l))) y) ∙ n in absurd (let z : ⊥ = cc in z))
  | inr y ↦
      let apart : int_eq l d.lit ≡ false = same_false l d.lit (λ t. (let b : (variable d.lit == variable l) ≡ true = eq-eqb (variable d.lit) (variable l) (ap variable (sym t)) in let c : true ≡ false = sym b ∙ y in let f : ⊥ = cc in f)) in
      rw apart (absent_false trail l (sym (ap (λ (b : Bool). cond b (Some d) (entry_of trail (variable l))) y) ∙ n))
]

-- THE TABLE

-- two literals have two places
place_apart : (vars : ℕ) (l k : ℤ) → is_literal vars l ≡ true → is_literal vars k ≡ true → place_of vars l ≡ place_of vars k → l ≡ k
place_apart vars (pos a) (pos b) h i e = let same : a ≡ b = omega arith in ap pos same
place_apart vars (pos a) (negsuc b) h i e = let x = literal_bounds vars (pos a) h in let y = literal_bounds vars (negsuc b) i in absurd (omega (arith, x.0, x.1, y.0, y.1, e))
place_apart vars (negsuc a) (pos b) h i e = let x = literal_bounds vars (negsuc a) h in let y = literal_bounds vars (pos b) i in absurd (omega (arith, x.0, x.1, y.0, y.1, e))
place_apart vars (negsuc a) (negsuc b) h i e =
    let x = literal_bounds vars (negsuc a) h in
    let y = literal_bounds vars (negsuc b) i in
    let same : a ≡ b = omega (arith, x.0, x.1, y.0, y.1, e) in ap negsuc same

place_small : (vars : ℕ) (l : ℤ) → is_literal vars l ≡ true → place_of vars l < 2 * vars + 1
place_small vars (pos a) h = let b = literal_bounds vars (pos a) h in omega (arith, b.1)
place_small vars (negsuc a) h = omega arith

pub within_values : (vars : ℕ) (values : List Bool) (l : ℤ) → length values ≡ 2 * vars + 1 → is_literal vars l ≡ true → place_of vars l < length values
within_values vars values l long lit = let small = place_small vars l lit in omega (arith, small, long)

pub values_more : (vars : ℕ) (trail : List Entry) (values : List Bool) (e : Entry) → length values ≡ 2 * vars + 1 → AreValues vars trail values → is_literal vars e.lit ≡ true
    → AreValues vars (trail ++ e ∷ []) (set values (place_of vars e.lit) true)
values_more vars trail values e long t lit l on = elim (cases_Bool (int_eq l e.lit)) [
  | inl y ↦ subst (λ (k : ℤ). get_or (set values (place_of vars e.lit) true) (place_of vars k) false ≡ true_in (trail ++ e ∷ []) k) (sym (same_int l e.lit y))
      (get_or-set_same values (place_of vars e.lit) true false (within_values vars values e.lit long lit) ∙ sym (last_true trail e))
  | inr y ↦ get_or-set_other values (place_of vars e.lit) (place_of vars l) true false (λ same. false_apart l e.lit y (place_apart vars l e.lit on lit same)) ∙ t l on ∙ sym (truth_other trail e l y)
]

pub values_less : (vars : ℕ) (trail : List Entry) (values : List Bool) (e : Entry) → length values ≡ 2 * vars + 1 → AreValues vars (trail ++ e ∷ []) values → is_literal vars e.lit ≡ true
    → entry_of trail (variable e.lit) ≡ None → AreValues vars trail (set values (place_of vars e.lit) false)
values_less vars trail values e long t lit none l on = elim (cases_Bool (int_eq l e.lit)) [
  | inl y ↦ subst (λ (k : ℤ). get_or (set values (place_of vars e.lit) false) (place_of vars k) false ≡ true_in trail k) (sym (same_int l e.lit y))
      (get_or-set_same values (place_of vars e.lit) false false (within_values vars values e.lit long lit) ∙ sym (absent_false trail e.lit none))
  | inr y ↦ get_or-set_other values (place_of vars e.lit) (place_of vars l) false false (λ same. false_apart l e.lit y (place_apart vars l e.lit on lit same)) ∙ t l on ∙ truth_other trail e l y
]

-- WHAT IS READ

pub read_within : (inside : Inside) (path : Path) (l : ℤ) (at : ℕ) → seen inside ≡ path → IsHeldTrail inside → is_literal path.vars l ≡ true → at ≡ place_of path.vars l
    → at < length inside.values.items
read_within inside path l at view kept lit is =
    let within = within_values path.vars inside.values.items l (kept.places ∙ ap (λ (p : Path). 2 * p.vars + 1) view) lit in
    omega (arith, within, is)

pub read_value : (inside : Inside) (path : Path) (l : ℤ) (at : ℕ) (b : Bool) → seen inside ≡ path → IsHeldTrail inside → is_literal path.vars l ≡ true → at ≡ place_of path.vars l
    → b ≡ get_or inside.values.items at b → b ≡ true_in path.entries l
read_value inside path l at b view kept lit is read =
    let within = read_within inside path l at view kept lit is in
    get_or_read inside.values.items at b within read false ∙ ap (λ (n : ℕ). get_or inside.values.items n false) is
    ∙ subst (λ (p : Path). get_or inside.values.items (place_of p.vars l) false ≡ true_in p.entries l) view
    (kept.values l (subst (λ (p : Path). is_literal p.vars l ≡ true) (sym view) lit))
