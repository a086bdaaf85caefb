-- The literals that have the signs of stages.
use Rattle.std.proofs.Common.{◌≡◌, ◌≢◌, ◌∙◌, ℕ, zero, suc, ◌+◌, ◌-◌, ◌<◌, ◌≤◌, Bool, true, false, List, [], ◌∷◌, length, get_or, drop, map, refl, sym, ap, subst, arith, ℤ, pos, negsuc, Option, Some, None, inl, inr, get_or-set_same, get_or-set_other}
use Rattle.std.specs.Prelude.{find, slice_set, int_lt, option_map, ◌==◌}
use Rattle.std.specs.List.{list_all, filter_map, range_with_len}
use Rattle.std.specs.Option.{option_map_or}
use Rattle.std.proofs.lemmas.Bool.{cases_Bool, cases_eq, cond-true, cond-false, eqb-true, eq-eqb, ne_eqb}
use Rattle.std.proofs.lemmas.Int.{ints, to_z-of_z}
use Rattle.std.proofs.lemmas.List.{length-set, drop_more}
use mir.Syntax.{w128}
use lib.Signed.{lt_z}
use mir.Val.{SFits, of_z, to_z}
use Rattle.exact_rows.proofs.Wides.{fits_in_range}
use Rattle.lk_model.specs.Lists.{is_nonzero, rises_within}
use Rattle.lk_model.specs.Limits.{is_in_range}
use Rattle.lk_model.specs.Formulas.Literal.{literal_of}
use Rattle.lk_model.specs.Formulas.Formula.{variables_to}
use Rattle.lk_model.specs.Formulas.Autarky.{first_sign}
use Rattle.lk_model.specs.Documents.Documents.{weighting_of}
use Rattle.lk_model.specs.Documents.Form.{is_stage, is_weight}
use Rattle.lk_model.specs.declared.document.Weight.{Weight}
use Rattle.lk_model.specs.declared.document.Stage.{Stage}
use Rattle.lk_model.proofs.Booleans.{and_true}
use Rattle.linear_run_laws.specs.RunLaw.{sign_literal}
use Rattle.reductions.specs.SignTables.{weight_literal, AreSigns, NotesSigns}
use Rattle.matching_kernel.proofs.OwnLiterals.{chosen}

-- ONE STAGE

-- a weight that is read has its sign
pub read_above : (x : ℤ) → is_in_range x ≡ true → lt_z (pos 0) (to_z w128 (of_z w128 x)) ≡ int_lt (pos 0) x
read_above x range = let fits : SFits w128 x = fits_in_range x range in simp to_z-of_z (above x)
  where
    above : (z : ℤ) → lt_z (pos 0) z ≡ int_lt (pos 0) z
    above z = grind (arith, ints)

-- one weight more before the others
pub weights_more : (n : ℕ) (weights : List Weight) (i j : ℕ) (d : Weight) (before table : List (Option ℤ)) → j ≡ i + 1 → i < length weights → 1 ≤ (get_or weights i d).var → (get_or weights i d).var ≤ n → n ≤ length table
    → NotesSigns n (drop j weights) before table → NotesSigns n (drop i weights) before (slice_set table ((get_or weights i d).var - 1) (Some (weight_literal (get_or weights i d))))
weights_more n weights i j d before table next lt low high room h =
    let w : Weight = get_or weights i d in
    let rest : List Weight = drop j weights in
    let after : List (Option ℤ) = slice_set table (w.var - 1) (Some (weight_literal w)) in
    subst (λ (ws : List Weight). NotesSigns n ws before after) (sym (drop_more weights i d lt ∙ ap (λ (k : ℕ). w ∷ drop k weights) (sym next))) (record {
      size = length-set table (w.var - 1) (Some (weight_literal w)) ∙ h.size;
      noted = λ v first last. elim (cases_eq w.var v) [
        | inl same ↦
            let at : v - 1 ≡ w.var - 1 = omega (arith, same) in
            ap (λ (k : ℕ). get_or after k None) at
            ∙ get_or-set_same table (w.var - 1) (Some (weight_literal w)) None (omega (arith, low, high, room))
            ∙ sym (ap (λ (o : Option Weight). option_map_or (λ (x : Weight). Some (weight_literal x)) o (get_or before (v - 1) None)) (cond-true (w.var == v) (Some w) (find (λ (x : Weight). x.var == v) rest) (eq-eqb w.var v same)))
        | inr other ↦
            let apart : v - 1 ≢ w.var - 1 = λ e. other (omega (arith, e, low, first)) in
            get_or-set_other table (w.var - 1) (v - 1) (Some (weight_literal w)) None apart ∙ h.noted v first last
            ∙ sym (ap (λ (o : Option Weight). option_map_or (λ (x : Weight). Some (weight_literal x)) o (get_or before (v - 1) None)) (cond-false (w.var == v) (Some w) (find (λ (x : Weight). x.var == v) rest) (ne_eqb w.var v other)))
      ];
    })

-- ALL STAGES

-- a weight that is not 0 gives the sign
sign_of : (x : ℤ) (o : Option Bool) (v : ℕ) → is_nonzero x ≡ true → Some (literal_of v (int_lt (pos 0) x)) ≡ option_map (literal_of v) (elim x [ pos zero ↦ o | pos (suc _) ↦ Some true | negsuc _ ↦ Some false ])
sign_of (pos zero) o v e = absurd (let f : ⊥ = cc e in f)
sign_of (pos (suc k)) o v e = let above : int_lt (pos 0) (pos (suc k)) ≡ true = grind (arith, ints) in rw above refl
sign_of (negsuc k) o v e = refl

-- the weights of a stage come before the later stages
weights_first : (weights : List Weight) (o : Option Bool) (v : ℕ) → list_all (λ (w : Weight). is_weight w.x) weights ≡ true
    → option_map_or (λ (w : Weight). Some (weight_literal w)) (find (λ (w : Weight). w.var == v) weights) (option_map (literal_of v) o)
    ≡ option_map (literal_of v) (elim (option_map_or (λ (w : Weight). w.x) (find (λ (w : Weight). w.var == v) weights) (pos 0)) [ pos zero ↦ o | pos (suc _) ↦ Some true | negsuc _ ↦ Some false ])
weights_first [] o v all = refl
weights_first (w ∷ weights) o v all =
    let both = and_true (is_weight w.x) (list_all (λ (u : Weight). is_weight u.x) weights) all in
    elim (cases_Bool (w.var == v)) [
      | inl y ↦ (let same : w.var ≡ v = eqb-true w.var v y in
          rw y (ap (λ (u : ℕ). Some (literal_of u (int_lt (pos 0) w.x))) same ∙ sign_of w.x o v (and_true (is_nonzero w.x) (is_in_range w.x) both.0).0))
      | inr n ↦ rw n (weights_first weights o v both.1)
    ]

-- one stage more before the others
pub signs_more : (n k j : ℕ) (stages : List Stage) (s d : Stage) (before table : List (Option ℤ)) → j ≡ k + 1 → k < length stages → s ≡ get_or stages k d → is_stage n s ≡ true
    → NotesSigns n s.weights before table → AreSigns n (drop j stages) before → AreSigns n (drop k stages) table
signs_more n k j stages s d before table next lt is form a h =
    let cut : drop k stages ≡ s ∷ drop j stages = drop_more stages k d lt ∙ (λ i. sym is i ∷ drop (sym next i) stages) in
    let parts = and_true (rises_within 0 n (map (λ (w : Weight). w.var) s.weights)) (list_all (λ (w : Weight). is_weight w.x) s.weights) form in
    subst (λ (ss : List Stage). AreSigns n ss table) (sym cut) (record {
      size = a.size ∙ h.size;
      told = λ v first last.
          a.noted v first last
          ∙ ap (λ (o : Option ℤ). option_map_or (λ (w : Weight). Some (weight_literal w)) (find (λ (w : Weight). w.var == v) s.weights) o) (h.told v first last)
          ∙ weights_first s.weights (first_sign (map weighting_of (drop j stages)) v) v parts.1;
    })

-- THE SET LINE

-- the literals of such a table are those of the stages
pub signs_line : (n : ℕ) (stages : List Stage) (table : List (Option ℤ)) → AreSigns n stages table → filter_map (λ o. o) table ≡ filter_map (sign_literal stages) (variables_to n)
signs_line n stages table t =
    chosen (sign_literal stages) table 1 (λ i lt.
    let place : 1 + i - 1 ≡ i = omega arith in
    let size = t.size in
    ap (λ (k : ℕ). get_or table k None) (sym place) ∙ t.told (1 + i) (omega arith) (omega (arith, lt, size)))
    ∙ ap (λ (m : ℕ). filter_map (sign_literal stages) (range_with_len 1 m)) t.size
