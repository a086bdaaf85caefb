-- The duals of a linear document.
use Rattle.std.proofs.Common.{◌≡◌, ◌∙◌, ℕ, ◌<◌, ◌≤◌, Bool, true, false, not, ◌||◌, List, length, get_or, map, refl, ap, arith, pos, Option, Some, None}
use Rattle.std.specs.Prelude.{find, int_lt}
use Rattle.std.specs.List.{list_all}
use Rattle.std.specs.Option.{option_map_or}
use Rattle.std.proofs.lemmas.Bool.{le-leb}
use Rattle.std.proofs.lemmas.List.{get_or-map, length-map}
use Rattle.lk_model.specs.Lists.{among, rises_within}
use Rattle.lk_model.specs.Limits.{is_in_range}
use Rattle.lk_model.specs.Formulas.Formula.{Cnf, positions_of}
use Rattle.lk_model.specs.Documents.Documents.{dual_of}
use Rattle.lk_model.specs.Documents.Form.{are_duals}
use Rattle.lk_model.specs.Checks.Check.{line_fails}
use Rattle.lk_model.specs.Checks.LinearChecks.{bad_dual}
use Rattle.lk_model.specs.declared.document.Dual.{Dual}
use Rattle.lk_model.specs.declared.document.DoneDocument.{DoneDocument}
use Rattle.lk_model.proofs.Booleans.{and_true}
use Rattle.lk_model.proofs.ListTests.{all_at}
use Rattle.lk_model.proofs.Rising.{rising_bounds}
use Rattle.check_tables.specs.Flags.{is_flagged, AreKeptFlags}
use Rattle.check_linear.specs.Linear.{AreDuals}
use Rattle.check_places.specs.Places.{is_bad_dual}
use Rattle.check_tables.proofs.KeptFlags.{find_to}

-- its position is one of the formula, and its number in range
pub record IsDualWithin (m : ℕ) (y : Dual) : Type 0 where
  pub first : 1 ≤ y.pos
  pub last : y.pos ≤ m
  pub range : is_in_range y.y ≡ true

pub dual_within : (m : ℕ) (dual : List Dual) (i : ℕ) (d : Dual) → are_duals m dual ≡ true → i < length dual → IsDualWithin m (get_or dual i d)
dual_within m dual i d form lt =
    let both = and_true (rises_within 0 m (map (λ (y : Dual). y.pos) dual)) (list_all (λ (y : Dual). is_in_range y.y) dual) form in
    let b = rising_bounds 0 m (map (λ (y : Dual). y.pos) dual) i both.0 (omega (arith, lt, length-map dual (λ (y : Dual). y.pos))) in
    let at = get_or-map (λ (y : Dual). y.pos) dual i d 0 lt in
    record { first = omega (arith, b.0, at); last = omega (arith, b.1, at); range = all_at (λ (y : Dual). is_in_range y.y) dual i d both.1 lt }

-- a line fails by a test where it does by the flag of its opposite
by_flag : (wanted : Bool) (t : Dual → Bool) (o : Option Dual) → line_fails wanted (option_map_or (λ (y : Dual). Some (not (t y))) o None) not ≡ line_fails wanted o t
by_flag wanted t None = refl
by_flag wanted t (Some y) = ap (λ (b : Bool). not wanted || b) (twice (t y))
  where
    twice : (b : Bool) → not (not b) ≡ b
    twice true = refl
    twice false = refl

-- so by the flags the first bad position is found
pub dual_found : (F : Cnf) (d : DoneDocument) (dual : List Dual) (kept : List Bool) (table : List (Option Bool)) → AreKeptFlags (length F.clauses) d.kept kept → AreDuals (length F.clauses) dual table
    → find (is_bad_dual kept table) (positions_of F) ≡ (bad_dual F d dual).place
unfolding bad_dual
dual_found F d dual kept table k t =
    find_to (length F.clauses) (is_bad_dual kept table) (λ p. line_fails (among d.kept p) (dual_of dual p) (λ (y : Dual). int_lt y.y (pos 1))) (λ p low high.
    let is_kept : is_flagged kept p ≡ among d.kept p = k.told p (rw (le-leb 1 p low, le-leb p (length F.clauses) high) refl) in
    (λ j. line_fails (is_kept j) (t.told p low high j) not) ∙ by_flag (among d.kept p) (λ (y : Dual). int_lt y.y (pos 1)) (dual_of dual p))
