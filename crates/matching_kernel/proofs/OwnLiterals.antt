-- The literals that own lines make true.
use Rattle.std.proofs.Common.{◌≡◌, ℕ, suc, ◌+◌, ◌-◌, ◌<◌, ◌≤◌, ◌∙◌, true, List, [], ◌∷◌, length, get_or, refl, sym, ap, arith, ℤ, Option, None, inl, inr, Contains}
use Rattle.std.specs.Prelude.{find, ◌==◌}
use Rattle.std.specs.List.{filter_map, range_with_len}
use Rattle.std.specs.Option.{option_map_or}
use Rattle.std.proofs.lemmas.Bool.{cases_Bool, eqb-true}
use Rattle.std.proofs.lemmas.List.Elements.{Contains-get_or}
use Rattle.lk_model.specs.Formulas.Literal.{mentions}
use Rattle.lk_model.specs.Formulas.Formula.{Cnf, is_formula, clause_at}
use Rattle.lk_model.specs.declared.document.Own.{Own}
use Rattle.lk_model.proofs.Variables.{variable_bound, position_bound}
use Rattle.kernel_laws.specs.FirstTables.{IsFirstTable}
use Rattle.matching_laws.specs.MatchingResults.{IsOwn, literal_on, own_literal, set_line}

-- WHERE AN OWN LINE STANDS

-- its position and its variable are the formula's
pub record IsPlaced (F : Cnf) (o : Own) : Type 0 where
  pub pos_first : 1 ≤ o.pos
  pub pos_last : o.pos ≤ length F.clauses
  pub var_first : 1 ≤ o.var
  pub var_last : o.var ≤ F.vars

pub own_placed : (F : Cnf) (own : List Own) (i : ℕ) (d : Own) → is_formula F ≡ true → ((o : Own) → Contains own o → IsOwn F o) → i < length own → IsPlaced F (get_or own i d)
own_placed F own i d form all lt =
    let o = get_or own i d in
    let there : mentions (clause_at F o.pos) o.var ≡ true = all o (Contains-get_or own i d lt) in
    let p = position_bound F o.pos o.var there in
    let v = variable_bound F o.pos o.var form there in
    record { pos_first = p.0; pos_last = p.1; var_first = omega (arith, v.0); var_last = v.1 }

-- THE SET LINE

-- what a list contains place by place is chosen from these places
pub chosen : (h : ℕ → Option ℤ) (table : List (Option ℤ)) (a : ℕ) → ((i : ℕ) → i < length table → get_or table i None ≡ h (a + i)) → filter_map (λ o. o) table ≡ filter_map h (range_with_len a (length table))
chosen h [] a told = refl
chosen h (o ∷ table) a told =
    let start : a + 0 ≡ a = omega arith in
    let first : o ≡ h a = told 0 (omega arith) ∙ ap h start in
    let rest = chosen h table (a + 1) (λ i lt. (let next : a + suc i ≡ a + 1 + i = omega arith in told (suc i) (omega (arith, lt)) ∙ ap h next)) in
    rw (first, rest) refl

-- the literal of the first line with the variable
same_literal : (F : Cnf) (own : List Own) (v : ℕ) → option_map_or (λ (o : Own). literal_on (clause_at F o.pos) o.var) (find (λ (o : Own). o.var == v) own) None ≡ own_literal F own v
same_literal F [] v = refl
same_literal F (o ∷ own) v = elim (cases_Bool (o.var == v)) [
  | inl y ↦ (let same : o.var ≡ v = eqb-true o.var v y in rw y (ap (literal_on (clause_at F o.pos)) same))
  | inr n ↦ rw n (same_literal F own v)
]

-- the literals of such a table are the set line
pub table_set : (F : Cnf) (own : List Own) (table : List (Option ℤ)) → IsFirstTable F.vars (λ (o : Own). o.var) (λ (o : Own). literal_on (clause_at F o.pos) o.var) None None own table → filter_map (λ o. o) table ≡ set_line F own
table_set F own table t =
    chosen (own_literal F own) table 1 (λ i lt.
    let place : 1 + i - 1 ≡ i = omega arith in
    let size = t.size_is in
    ap (λ (k : ℕ). get_or table k None) (sym place) ∙ t.told (1 + i) (omega arith) (omega (arith, lt, size)) ∙ same_literal F own (1 + i))
    ∙ ap (λ (n : ℕ). filter_map (own_literal F own) (range_with_len 1 n)) t.size_is
