-- What the rows of a tableau have, and keep in a pivot.
use Rattle.std.proofs.Common.{◌≡◌, ℕ, Bool, false, cond, int_lt, ◌+◌, ◌-◌, ◌<◌, ◌^◌, ◌⊎◌, inl, inr, List, [], map, length, get_or, pos, negsuc, ◌≤ℤ◌, true, refl, sym, ap, ◌∙◌, subst, arith}
use Rattle.std.proofs.lemmas.List.{get_or-map, length-map}
use Rattle.std.proofs.lemmas.List.Elements.{All-from_get_or}
use Rattle.std.specs.List.{All}
use Rattle.lk_model.specs.Formulas.Formula.{Cnf, variables_at}
use Rattle.lk_model.specs.Linear.Rows.{Row, TableauRows, entry, row_at, r_of, right_column, start_of, lack, sign_of}
use Rattle.lk_model.specs.Linear.Pivot.{pivoted}
use Rattle.lk_model.specs.Linear.Phases.{next, PivotOn}
use Rattle.exact_pivot.specs.Reached.{IsReached, ByPivot, IsRowOf, IsPivot}
use Rattle.exact_pivot.specs.Shape.{IsRow, IsTableau}
use Rattle.exact_pivot.proofs.Leaving.{HasRights}
use Rattle.exact_pivot.proofs.Bests.{has_rights}
use Rattle.exact_pivot.proofs.ReachedRows.{reached_rows, leaving_rows}

pub rights_of : (t : TableauRows) → IsTableau t → HasRights t
rights_of t shape = has_rights (start_of shape.formula shape.at) t (reached_rows shape.formula shape.at t shape.reached)

pub pivot_of : (t : TableauRows) (i k : ℕ) → IsTableau t → next t ≡ PivotOn i k → IsPivot t i k
pivot_of t i k shape e = leaving_rows.pivots shape.formula shape.at t i k shape.reached e

-- a fact of each row, by its number
each_row : (P : Row → Type 0) (t : TableauRows) → length t.rows ≡ r_of t → ((i : ℕ) → IsRowOf t i → P (row_at t i)) → All P t.rows
each_row P t count f = All-from_get_or P t.rows (record { entries = []; basic = 0 })
    (λ i h. subst (λ n. P (get_or t.rows n (record { entries = []; basic = 0 }))) (let place : i + 1 - 1 ≡ i = omega arith in place) (f (i + 1) (omega arith, omega (arith, h, count))))

is_unit : (b : Bool) → (cond b (negsuc 0) (pos 1) ≡ pos 1) ⊎ (cond b (negsuc 0) (pos 1) ≡ negsuc 0)
is_unit true = inr refl
is_unit false = inl refl

are_units : (F : Cnf) (S vs : List ℕ) → All (λ e. (e ≡ pos 1) ⊎ (e ≡ negsuc 0)) (map (sign_of F S) vs)
are_units F S vs = All-from_get_or (λ e. (e ≡ pos 1) ⊎ (e ≡ negsuc 0)) (map (sign_of F S) vs) (pos 0)
    (λ i h. subst (λ e. (e ≡ pos 1) ⊎ (e ≡ negsuc 0)) (sym (get_or-map (sign_of F S) vs i 0 (pos 0) (omega (arith, h, length-map vs (sign_of F S)))))
    (is_unit (int_lt (lack F S (get_or vs i 0)) (pos 0))))

pub tableau_of : (F : Cnf) (S : List ℕ) (t : TableauRows) → right_column t < 2 ^ 32 → IsReached F S t → IsTableau t
unfolding start_of
tableau_of F S t size reached =
    let r = reached_rows F S t reached in
    record {
      size = size;
      signs = ap length r.signs ∙ length-map (variables_at F S) (sign_of F S) ∙ sym (ap length r.vars);
      units = subst (All (λ e. (e ≡ pos 1) ⊎ (e ≡ negsuc 0))) (sym r.signs) (are_units F S (variables_at F S));
      rows = r.rows;
      shapes = each_row (IsRow (right_column t)) t r.rows (λ i h. record { width = r.widths i h; least = r.basic_least i h; most = omega (arith, r.basic_most i h); positive = r.basic_positive i h });
      cost = r.cost_width;
      rights = each_row (λ (row : Row). pos 0 ≤ℤ entry row.entries (right_column t)) t r.rows r.right_least;
      formula = F;
      at = S;
      reached = reached;
    }

pub tableau_after : (t : TableauRows) (i k : ℕ) → IsTableau t → next t ≡ PivotOn i k → IsTableau (pivoted t i k)
unfolding pivoted
tableau_after t i k shape e = tableau_of shape.formula shape.at (pivoted t i k) shape.size (ByPivot t i k shape.reached e)
