-- How far the variables are set, in their order.
use Rattle.std.proofs.Common.{◌≡◌, ◌≢◌, ◌∙◌, ℕ, zero, suc, ◌+◌, ◌<◌, ◌≤◌, ◌==◌, ◌++◌, ◌∷◌, [], true, not, ◌&&◌, List, ℤ, Option, Some, None, is_some, option_map, length, length-append, take, get_or, nat_le, refl, sym, ap, subst, arith, inl, inr}
use Rattle.std.specs.Prelude.{nat_lt}
use Rattle.std.proofs.lemmas.Bool.{cases_Bool, eqb-true, eq-eqb, and_from, leb-true, ltb-true, le-leb, lt-ltb}
use Rattle.std.proofs.lemmas.List.{get_or_append_left, get_or-take, length-take-le}
use Rattle.std.proofs.lemmas.List.Sorted.{list_any-IsPermutation}
use Rattle.lk_model.specs.Lists.{among, up_to}
use Rattle.lk_model.specs.Formulas.Literal.{variable, contains, mentions, is_positive}
use Rattle.lk_model.specs.Formulas.Formula.{is_formula, clause_at}
use Rattle.lk_model.specs.Held.VariableSets.{is_in}
use Rattle.lk_model.specs.declared.crossed.Crossed.{Crossed}
use Rattle.lk_model.proofs.Booleans.{and_true}
use Rattle.lk_model.proofs.ListTests.{passing, passes_among, each_number as all_among}
use Rattle.lk_model.proofs.Counting.{in_filter, from_filter, among-range}
use Rattle.lk_model.proofs.Crossings.{contains_crossed}
use Rattle.lk_model.proofs.Variables.{literal_passing, variable_bound}
use Rattle.kernel_laws.proofs.Clauses.{mentions_of}
use Rattle.general_laws.proofs.Numbering.{found_before}
use Rattle.watch_prop.specs.declared.entry.Entry.{Entry}
use Rattle.watch_prop.specs.Trail.{entry_of, present_level, up_to_level, assignment_along}
use Rattle.watch_prop.specs.Propagation.{Propagation, IsPropagation, GoesOn, with_assigned, back_at}
use Rattle.variable_orders.specs.VariableOrders.{IsOrderOver, occurs_over, variables_over}
use Rattle.learning_laws.specs.ModelLaw.{clause_over}
use Rattle.learning_laws.proofs.TrailLaws.{trail_law}
use Rattle.learning_laws.proofs.Tests.{never_both}
use Rattle.cdcl_core.specs.declared.order.Order.{Order}
use Rattle.cdcl_core.specs.Orders.{may_decide, AreVariablesOver, are_set, IsSetTo, place_at, IsPlacedAt}

-- a variable that is set stays so on a longer trail
set_longer : (trail more : List Entry) (v : ℕ) → is_some (assignment_along trail v) ≡ true → is_some (assignment_along (trail ++ more) v) ≡ true
set_longer trail more v s = at_entry (entry_of trail v) refl s
  where
    at_entry : (o : Option Entry) → entry_of trail v ≡ o → is_some (option_map (λ (e : Entry). is_positive e.lit) o) ≡ true → is_some (assignment_along (trail ++ more) v) ≡ true
    at_entry None f g = absurd (let z : ⊥ = cc in z)
    at_entry (Some e) f g = ap (λ (o : Option Entry). is_some (option_map (λ (e : Entry). is_positive e.lit) o)) (found_before (λ (e : Entry). variable e.lit == v) trail more e f)

all_longer : (trail more : List Entry) (vars : List ℕ) → are_set trail vars ≡ true → are_set (trail ++ more) vars ≡ true
all_longer trail more [] h = refl
all_longer trail more (v ∷ vars) h =
    let both = and_true (is_some (assignment_along trail v)) (are_set trail vars) h in
    and_from (is_some (assignment_along (trail ++ more) v)) (are_set (trail ++ more) vars) (set_longer trail more v both.0) (all_longer trail more vars both.1)

set_to_longer : (trail more : List Entry) (vars : List ℕ) (place : ℕ) → IsSetTo trail vars place → IsSetTo (trail ++ more) vars place
set_to_longer trail more vars place h = record { within = h.within; set = all_longer trail more (take place vars) h.set }

-- AT EACH STEP

-- where nothing is set
pub placed_first : (trail : List Entry) (order : Order) → trail ≡ [] → order.place ≡ 0 → order.opened.items ≡ [] → IsPlacedAt trail order
placed_first trail order none first closed = record {
  here = record {
    within = omega (arith, first);
    set = ap (λ (n : ℕ). are_set trail (take n order.vars.items)) first;
  };
  levels = ap (λ (xs : List ℕ). length xs) closed ∙ sym (ap present_level none);
  below = λ level lt. (let zero_level : present_level trail ≡ 0 = ap present_level none in absurd (omega (arith, lt, zero_level)));
}

-- what is forced leaves the places
pub placed_forced : (p q : Propagation) (order : Order) → GoesOn p q → IsPlacedAt p.trail order → IsPlacedAt q.trail order
placed_forced p q order g h =
    let present = trail_law.forced_level p q g in
    record {
      here = subst (λ (t : List Entry). IsSetTo t order.vars.items order.place) (sym g.trail) (set_to_longer p.trail g.forced order.vars.items order.place h.here);
      levels = h.levels ∙ sym present;
      below = λ level lt.
          (let under : level < present_level p.trail = omega (arith, lt, present) in
          subst (λ (t : List Entry). IsSetTo t order.vars.items (place_at order.opened.items level)) (sym (trail_law.forced_below p q level g under)) (h.below level under));
    }

-- the place is noted where a level is opened
pub placed_opened : (p : Propagation) (l : ℤ) (order order' : Order) → IsPropagation p → IsPlacedAt p.trail order
    → order'.vars ≡ order.vars → order'.place ≡ order.place → order'.opened.items ≡ order.opened.items ++ order.place ∷ [] → IsPlacedAt (with_assigned p l).trail order'
placed_opened p l order order' held h vars place opened =
    let q = with_assigned p l in
    let old = order.opened.items in
    let present : present_level q.trail ≡ present_level p.trail + 1 = trail_law.assigned_level p l in
    let levels = h.levels in
    let long : length order'.opened.items ≡ length old + 1 = ap (λ (xs : List ℕ). length xs) opened ∙ length-append old (order.place ∷ []) in
    record {
      here = subst (λ vs. IsSetTo q.trail vs.items order'.place) (sym vars)
          (subst (λ (n : ℕ). IsSetTo q.trail order.vars.items n) (sym place) (set_to_longer p.trail _ order.vars.items order.place h.here));
      levels = omega (arith, long, present, levels);
      below = λ level lt.
          (let under : level ≤ present_level p.trail = omega (arith, lt, present) in
          subst (λ (t : List Entry). IsSetTo t order'.vars.items (place_at order'.opened.items level)) (sym (trail_law.assigned_below p l level under))
          (subst (λ vs. IsSetTo (up_to_level level p.trail) vs.items (place_at order'.opened.items level)) (sym vars)
          (subst (λ (xs : List ℕ). IsSetTo (up_to_level level p.trail) order.vars.items (place_at xs level)) (sym opened)
          (elim (cases_Bool (level == present_level p.trail)) [
            | inl y ↦
                let same = eqb-true level (present_level p.trail) y in
                let last : get_or (old ++ order.place ∷ []) level 0 ≡ order.place = last_place old order.place level (omega (arith, same, levels)) in
                let whole : up_to_level level p.trail ≡ p.trail = trail_law.all p level held (omega (arith, same)) in
                subst (λ (n : ℕ). IsSetTo (up_to_level level p.trail) order.vars.items n) (sym last)
                (subst (λ (t : List Entry). IsSetTo t order.vars.items order.place) (sym whole) h.here)
            | inr y ↦
                let apart : level ≢ present_level p.trail = (λ e. never_both (level == present_level p.trail) (eq-eqb level (present_level p.trail) e) y) in
                let below : level < present_level p.trail = omega (arith, under, apart) in
                let first : get_or (old ++ order.place ∷ []) level 0 ≡ get_or old level 0 = get_or_append_left old (order.place ∷ []) 0 level (omega (arith, below, levels)) in
                subst (λ (n : ℕ). IsSetTo (up_to_level level p.trail) order.vars.items n) (sym first) (h.below level below)
          ]))));
    }
  where
    last_place : (xs : List ℕ) (x level : ℕ) → level ≡ length xs → get_or (xs ++ x ∷ []) level 0 ≡ x
    last_place [] x zero e = refl
    last_place [] x (suc level) e = absurd (omega (arith, e))
    last_place (y ∷ xs) x zero e = absurd (omega (arith, e))
    last_place (y ∷ xs) x (suc level) e = last_place xs x level (omega (arith, e))

-- and comes back with the level
pub placed_back : (p : Propagation) (level : ℕ) (order order' : Order) → IsPropagation p → level < present_level p.trail → IsPlacedAt p.trail order
    → order'.vars ≡ order.vars → order'.place ≡ place_at order.opened.items level → order'.opened.items ≡ take level order.opened.items
    → IsPlacedAt (back_at p level).trail order'
placed_back p level order order' held lt h vars place opened =
    let levels = h.levels in
    let present : present_level (up_to_level level p.trail) ≡ level = trail_law.reached p level held (omega (arith, lt)) in
    record {
      here = subst (λ vs. IsSetTo (up_to_level level p.trail) vs.items order'.place) (sym vars)
          (subst (λ (n : ℕ). IsSetTo (up_to_level level p.trail) order.vars.items n) (sym place) (h.below level lt));
      levels = ap (λ (xs : List ℕ). length xs) opened ∙ length-take-le level order.opened.items (omega (arith, lt, levels)) ∙ sym present;
      below = λ low under.
          (let lower : low < level = omega (arith, under, present) in
          let same : place_at order'.opened.items low ≡ place_at order.opened.items low =
          ap (λ (xs : List ℕ). get_or xs low 0) opened ∙ get_or-take level order.opened.items low 0 lower in
          subst (λ (t : List Entry). IsSetTo t order'.vars.items (place_at order'.opened.items low)) (sym (trail_law.twice low level p.trail (omega (arith, lower))))
          (subst (λ (n : ℕ). IsSetTo (up_to_level low p.trail) order'.vars.items n) (sym same)
          (subst (λ vs. IsSetTo (up_to_level low p.trail) vs.items (place_at order.opened.items low)) (sym vars) (h.below low (omega (arith, lower, lt))))));
    }

-- THE VARIABLES OF A PART

-- a variable that occurs in a crossed clause may be decided
occurring : (over : Crossed) (v : ℕ) → is_formula over.formula.now ≡ true → occurs_over over v ≡ true → may_decide over v ≡ true
occurring over v form o =
    let x = passing (λ p. mentions (clause_over over p) v) over.part.now o in
    let l = literal_passing (λ k. variable k == v) (clause_over over x.0) x.2 in
    let here = and_true (not (is_in over.blocked.now (variable l.0))) (contains (clause_at over.formula.now x.0) l.0)
    (sym (contains_crossed (is_in over.blocked.now) (clause_at over.formula.now x.0) l.0) ∙ l.1) in
    let bounds = variable_bound over.formula.now x.0 (variable l.0) form (mentions_of (clause_at over.formula.now x.0) l.0 here.1) in
    let above = bounds.0 in
    let most = bounds.1 in
    subst (λ (u : ℕ). may_decide over u ≡ true) (eqb-true (variable l.0) v l.2)
    (and_from (nat_lt 0 (variable l.0) && nat_le (variable l.0) over.formula.now.vars) (not (is_in over.blocked.now (variable l.0)))
    (and_from (nat_lt 0 (variable l.0)) (nat_le (variable l.0) over.formula.now.vars) (lt-ltb 0 (variable l.0) (omega (arith, above))) (le-leb (variable l.0) over.formula.now.vars (omega (arith, most)))) here.0)

-- the variables of an order are those of the crossed clauses
pub order_variables : (over : Crossed) (vars : List ℕ) → is_formula over.formula.now ≡ true → IsOrderOver over vars → AreVariablesOver over vars
order_variables over vars form order = record {
  within = all_among (may_decide over) vars (λ v m. occurring over v form (from_filter (occurs_over over) (up_to over.formula.now.vars) v (same v ∙ m)).0);
  all = λ position l part there.
      (let occurs = passes_among (λ p. mentions (clause_over over p) (variable l)) over.part.now position part (mentions_of (clause_over over position) l there) in
      let may = occurring over (variable l) form occurs in
      let range = and_true (nat_lt 0 (variable l)) (nat_le (variable l) over.formula.now.vars)
      (and_true (nat_lt 0 (variable l) && nat_le (variable l) over.formula.now.vars) (not (is_in over.blocked.now (variable l))) may).0 in
      let low = ltb-true 0 (variable l) range.0 in
      let high = leb-true (variable l) over.formula.now.vars range.1 in
      sym (same (variable l))
      ∙ in_filter (occurs_over over) (up_to over.formula.now.vars) (variable l) occurs (among-range 1 over.formula.now.vars (variable l) (omega (arith, low)) (omega (arith, high))));
}
  where
    same : (v : ℕ) → among (variables_over over) v ≡ among vars v
    same v = list_any-IsPermutation (λ u. u == v) (variables_over over) vars order
