-- The stages of a linear document.
use Rattle.std.proofs.Common.{◌≡◌, ◌≢◌, ◌∙◌, ℕ, zero, suc, ◌+◌, ◌-◌, ◌<◌, ◌≤◌, Bool, true, false, cond, not, List, [], ◌∷◌, length, get_or, drop, map, refl, sym, ap, subst, arith, ℤ, pos, negsuc, Option, Some, inl, inr, get_or-set_same, get_or-set_other}
use Rattle.std.specs.Prelude.{find, slice_set, int_lt}
use Rattle.std.specs.Option.{option_map_or}
use Rattle.std.proofs.lemmas.Bool.{cases_eq, cond-true, eq-eqb, ne_eqb}
use Rattle.std.proofs.lemmas.List.{length-set, drop_more, drop_all}
use Rattle.lk_model.specs.Lists.{is_nonzero}
use Rattle.lk_model.specs.Formulas.Formula.{Cnf, clause_at, positions_of, variables_to}
use Rattle.lk_model.specs.Formulas.Assignment.{assignment_of}
use Rattle.lk_model.specs.Formulas.Autarky.{first_sign, first_balance}
use Rattle.lk_model.specs.Held.PartialValues.{assignment_by}
use Rattle.lk_model.specs.Documents.Documents.{weighting_of}
use Rattle.lk_model.specs.Checks.LinearChecks.{bad_sign, bad_stage, is_same_value}
use Rattle.lk_model.specs.declared.document.Weight.{Weight}
use Rattle.lk_model.specs.declared.document.Stage.{Stage}
use Rattle.lk_model.specs.declared.document.DoneDocument.{DoneDocument}
use Rattle.lk_model.proofs.Flags.{same_false}
use Rattle.kernel_laws.proofs.WeightLines.{IsWeightWithin}
use Rattle.check_linear.specs.Linear.{weight_in, first_stage, first_weight, AreFirsts, NotesStage, sign_of, is_bad_sign}
use Rattle.check_tables.proofs.KeptFlags.{find_to}

-- one weight more before the others
pub stage_more : (n k : ℕ) (stage : List Weight) (i j : ℕ) (d : Weight) (places_before : List ℕ) (weights_before : List ℤ) (places : List ℕ) (weights : List ℤ) → j ≡ i + 1 → i < length stage → IsWeightWithin n (get_or stage i d)
    → n ≤ length places → n ≤ length weights → NotesStage n k (drop j stage) places_before weights_before places weights
    → NotesStage n k (drop i stage) places_before weights_before (slice_set places ((get_or stage i d).var - 1) k) (slice_set weights ((get_or stage i d).var - 1) (get_or stage i d).x)
stage_more n k stage i j d places_before weights_before places weights next lt within room space h =
    let w : Weight = get_or stage i d in
    let rest : List Weight = drop j stage in
    subst (λ (ws : List Weight). NotesStage n k ws places_before weights_before (slice_set places (w.var - 1) k) (slice_set weights (w.var - 1) w.x)) (sym (drop_more stage i d lt ∙ ap (λ (m : ℕ). w ∷ drop m stage) (sym next))) (record {
      places_size = length-set places (w.var - 1) k ∙ h.places_size;
      weights_size = length-set weights (w.var - 1) w.x ∙ h.weights_size;
      place = λ v first last. elim (cases_eq w.var v) [
        | inl same ↦
            let at : v - 1 ≡ w.var - 1 = omega (arith, same) in
            let is : weight_in (w ∷ rest) v ≡ w.x = own w rest v same in
            ap (λ (m : ℕ). get_or (slice_set places (w.var - 1) k) m 0) at
            ∙ get_or-set_same places (w.var - 1) k 0 (omega (arith, within.first, within.last, room))
            ∙ sym (cond-true (is_nonzero (weight_in (w ∷ rest) v)) k (get_or places_before (v - 1) 0) (ap is_nonzero is ∙ within.nonzero))
        | inr other ↦
            let apart : v - 1 ≢ w.var - 1 = λ e. other (omega (arith, e, within.first, first)) in
            get_or-set_other places (w.var - 1) (v - 1) k 0 apart ∙ h.place v first last
            ∙ sym (ap (λ (x : ℤ). cond (is_nonzero x) k (get_or places_before (v - 1) 0)) (others w rest v other))
      ];
      weight = λ v first last. elim (cases_eq w.var v) [
        | inl same ↦
            let at : v - 1 ≡ w.var - 1 = omega (arith, same) in
            let is : weight_in (w ∷ rest) v ≡ w.x = own w rest v same in
            ap (λ (m : ℕ). get_or (slice_set weights (w.var - 1) w.x) m (pos 0)) at
            ∙ get_or-set_same weights (w.var - 1) w.x (pos 0) (omega (arith, within.first, within.last, space))
            ∙ sym (cond-true (is_nonzero (weight_in (w ∷ rest) v)) (weight_in (w ∷ rest) v) (get_or weights_before (v - 1) (pos 0)) (ap is_nonzero is ∙ within.nonzero) ∙ is)
        | inr other ↦
            let apart : v - 1 ≢ w.var - 1 = λ e. other (omega (arith, e, within.first, first)) in
            get_or-set_other weights (w.var - 1) (v - 1) w.x (pos 0) apart ∙ h.weight v first last
            ∙ sym (ap (λ (x : ℤ). cond (is_nonzero x) x (get_or weights_before (v - 1) (pos 0))) (others w rest v other))
      ];
    })
  where
    own : (w : Weight) (rest : List Weight) (v : ℕ) → w.var ≡ v → weight_in (w ∷ rest) v ≡ w.x
    own w rest v same = rw (eq-eqb w.var v same) refl

    others : (w : Weight) (rest : List Weight) (v : ℕ) → w.var ≢ v → weight_in (w ∷ rest) v ≡ weight_in rest v
    others w rest v other = rw (ne_eqb w.var v other) refl

-- no stage
pub firsts_none : (n k : ℕ) (stages : List Stage) (places : List ℕ) (weights : List ℤ) → length places ≡ n → length weights ≡ n → ((v : ℕ) → 1 ≤ v → v ≤ n → get_or places (v - 1) 0 ≡ k)
    → ((v : ℕ) → 1 ≤ v → v ≤ n → get_or weights (v - 1) (pos 0) ≡ pos 0) → length stages ≤ k → AreFirsts n k (drop k stages) places weights
firsts_none n k stages places weights a b place weight le =
    subst (λ (ss : List Stage). AreFirsts n k ss places weights) (sym (drop_all k stages le)) (record { places_size = a; weights_size = b; place = place; weight = weight })

-- one stage more before the others
pub firsts_more : (n k j : ℕ) (stages : List Stage) (s : Stage) (places_before : List ℕ) (weights_before : List ℤ) (places : List ℕ) (weights : List ℤ) → j ≡ k + 1 → k < length stages → s ≡ get_or stages k s
    → NotesStage n k s.weights places_before weights_before places weights → AreFirsts n j (drop j stages) places_before weights_before → AreFirsts n k (drop k stages) places weights
firsts_more n k j stages s places_before weights_before places weights next lt is a h =
    let cut : drop k stages ≡ s ∷ drop j stages = drop_more stages k s lt ∙ (λ i. sym is i ∷ drop (sym next i) stages) in
    subst (λ (ss : List Stage). AreFirsts n k ss places weights) (sym cut) (record {
      places_size = a.places_size ∙ h.places_size;
      weights_size = a.weights_size ∙ h.weights_size;
      place = λ v first last. a.place v first last ∙ ap (λ (p : ℕ). cond (is_nonzero (weighting_of s v)) k p) (h.place v first last ∙ ap (λ (m : ℕ). first_stage m (drop j stages) v) next);
      weight = λ v first last. a.weight v first last ∙ ap (λ (x : ℤ). cond (is_nonzero (weighting_of s v)) (weighting_of s v) x) (h.weight v first last);
    })

-- SIGNS

-- the sign of the first stages is that of the first weight
sign_is : (stages : List Stage) (v : ℕ) → first_sign (map weighting_of stages) v ≡ sign_of (first_weight stages v)
sign_is [] v = refl
sign_is (s ∷ stages) v = at (weighting_of s v) (sign_is stages v)
  where
    at : (x : ℤ) → first_sign (map weighting_of stages) v ≡ sign_of (first_weight stages v)
        → elim x [ pos zero ↦ first_sign (map weighting_of stages) v | pos (suc _) ↦ Some true | negsuc _ ↦ Some false ] ≡ sign_of (cond (is_nonzero x) x (first_weight stages v))
    at (pos zero) e = e
    at (pos (suc k)) e = let there : is_nonzero (pos (suc k)) ≡ true = ap not (same_false (pos 0) (pos (suc k)) (λ z. absurd (let f : ⊥ = cc z in f))) in rw there refl
    at (negsuc k) e = refl

-- so by the first weights the first bad variable is found
pub sign_found : (F : Cnf) (d : DoneDocument) (stages : List Stage) (values : List (Option Bool)) (places : List ℕ) (weights : List ℤ) → assignment_by values ≡ assignment_of d.set → AreFirsts F.vars 0 stages places weights
    → find (is_bad_sign values weights) (variables_to F.vars) ≡ (bad_sign F d stages).place
unfolding bad_sign
sign_found F d stages values places weights e a =
    find_to F.vars (is_bad_sign values weights) (λ v. not (is_same_value (assignment_of d.set v) (first_sign (map weighting_of stages) v))) (λ v low high.
    let sign : sign_of (get_or weights (v - 1) (pos 0)) ≡ first_sign (map weighting_of stages) v = ap sign_of (a.weight v low high) ∙ sym (sign_is stages v) in
    (λ j. not (is_same_value (e j v) (sign j))))

-- BALANCES

-- the balance that counts at a position is below 0
abbrev pub fails_stage : Cnf → List Stage → ℕ → Bool
fails_stage F stages p = option_map_or (λ b. int_lt b (pos 0)) (first_balance (map weighting_of stages) (clause_at F p)) false

pub bad_stage_is : (F : Cnf) (d : DoneDocument) (stages : List Stage) → (bad_stage F d stages).place ≡ find (fails_stage F stages) (positions_of F)
unfolding bad_stage
bad_stage_is F d stages = refl
