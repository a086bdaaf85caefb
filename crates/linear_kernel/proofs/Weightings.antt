-- The weights of a stage, and the clauses that it leaves.
use Rattle.std.proofs.Common.{◌≡◌, ℕ, zero, suc, ◌+◌, get_or, take, ◌++◌, ◌<◌, ◌≤◌, Bool, true, false, cond, not, ◌||◌, ◌==◌, List, [], ◌∷◌, map, zip, filter, find, length, ℤ, pos, Some, refl, sym, ◌∙◌, subst, arith}
use Rattle.std.specs.List.{All, list_any}
use Rattle.std.specs.Option.{option_map_or}
use Rattle.std.proofs.lemmas.List.{length-map}
use Rattle.std.proofs.lemmas.List.Elements.{filter_more, All-nil, All-cons, All-head, All-tail, All-from_get_or}
use Rattle.lk_model.specs.Lists.{among, is_nonzero}
use Rattle.lk_model.specs.Formulas.Literal.{variable}
use Rattle.lk_model.specs.Formulas.Formula.{Cnf, clause_at, variables_at, variable_occurs}
use Rattle.lk_model.specs.Formulas.Lean.{are_positions}
use Rattle.lk_model.specs.Documents.Documents.{weighting_of}
use Rattle.lk_model.specs.Linear.Rows.{TableauRows, start_of}
use Rattle.lk_model.specs.Linear.Phases.{stage_of, unweighted}
use Rattle.lk_model.specs.Held.VariableSets.{is_in, with_variable}
use Rattle.lk_model.specs.declared.document.Stage.{Stage}
use Rattle.lk_model.specs.declared.document.Weight.{Weight}
use Rattle.lk_model.proofs.Founds.{filtered_rise}
use Rattle.lk_model.proofs.VariableLists.{in_more}
use Rattle.lk_model.proofs.Rising.{rising_bounds, filter_rises}
use Rattle.exact_pivot.specs.Reached.{IsReached}
use Rattle.exact_pivot.proofs.ReachedRows.{reached_rows}
use Rattle.linear_kernel.specs.Weights.{IsWeight, has_weight, left_by}

-- A variable has a weight that is not 0 exactly where one of the weights is its.
pub weighted_is : (n : ℕ) (ws : List Weight) (v : ℕ) → All (IsWeight n) ws
    → is_nonzero (option_map_or (λ (w : Weight). w.x) (find (λ (w : Weight). w.var == v) ws) (pos 0)) ≡ has_weight ws v
weighted_is n [] v all = refl
weighted_is n (w ∷ ws) v all = by_test (w.var == v) (weighted_is n ws v (All-tail (IsWeight n) w ws all))
  where
    by_test : (b : Bool) → is_nonzero (option_map_or (λ (w : Weight). w.x) (find (λ (w : Weight). w.var == v) ws) (pos 0)) ≡ has_weight ws v
        → is_nonzero (option_map_or (λ (w : Weight). w.x) (cond b (Some w) (find (λ (w : Weight). w.var == v) ws)) (pos 0)) ≡ (b || has_weight ws v)
    by_test true rest = (All-head (IsWeight n) w ws all).2
    by_test false rest = rest

-- the variable of a weight
var_at : (ws : List Weight) (i : ℕ) (d : Weight) → i < length ws → get_or (map (λ (w : Weight). w.var) ws) i 0 ≡ (get_or ws i d).var
var_at [] i d lt = absurd (omega (arith, lt))
var_at (w ∷ ws) zero d lt = refl
var_at (w ∷ ws) (suc i) d lt = var_at ws i d (omega (arith, lt))

-- one more of their variables is put into a set
pub weight_more : (n : ℕ) (ws : List Weight) (start flags : List Bool) (i v : ℕ) (d : Weight) → i < length ws → All (IsWeight n) ws → length flags ≡ n
    → is_in flags v ≡ (is_in start v || among (take i (map (λ (w : Weight). w.var) ws)) v)
    → is_in (with_variable flags (get_or ws i d).var) v ≡ (is_in start v || among (take (i + 1) (map (λ (w : Weight). w.var) ws)) v)
weight_more n ws start flags i v d lt all size e =
    let at = var_at ws i d lt in
    let is = all i d lt in
    let first = is.0 in
    let last = is.1 in
    let inside : i < length (map (λ (w : Weight). w.var) ws) = omega (arith, lt, length-map ws (λ (w : Weight). w.var)) in
    subst (λ x. is_in (with_variable flags x) v ≡ (is_in start v || among (take (i + 1) (map (λ (w : Weight). w.var) ws)) v)) at
    (in_more start flags (map (λ (w : Weight). w.var) ws) i v inside (omega (arith, at, first)) (omega (arith, at, last, size)) e)

-- THE WEIGHTS OF A STAGE

-- one more number, where it is not 0
weight_or_none : (n v : ℕ) (x : ℤ) (ws : List Weight) (b : Bool) → (0 < v) × (v ≤ n) → is_nonzero x ≡ b → All (IsWeight n) ws
    → All (IsWeight n) (cond b (record { var = v; x = x } ∷ ws) ws)
weight_or_none n v x ws true here e later = All-cons (IsWeight n) (record { var = v; x = x }) ws (here.0, here.1, e) later
weight_or_none n v x ws false here e later = later

-- those of the numbers that are not 0 are of these variables
weights_of : (n : ℕ) (vs : List ℕ) (xs : List ℤ) → All (λ v. (0 < v) × (v ≤ n)) vs
    → All (IsWeight n) (filter (λ (w : Weight). is_nonzero w.x) (map (λ (e : ℕ × ℤ). let w : Weight = record { var = e.0; x = e.1 } in w) (zip vs xs)))
weights_of n [] xs all = All-nil (IsWeight n)
weights_of n (v ∷ vs) [] all = All-nil (IsWeight n)
weights_of n (v ∷ vs) (x ∷ xs) all = weight_or_none n v x _ (is_nonzero x) (All-head (λ v. (0 < v) × (v ≤ n)) v vs all) refl (weights_of n vs xs (All-tail (λ v. (0 < v) × (v ≤ n)) v vs all))

-- variables that occur are variables
occurring : (F : Cnf) (S : List ℕ) → All (λ v. (0 < v) × (v ≤ F.vars)) (variables_at F S)
occurring F S = All-from_get_or (λ v. (0 < v) × (v ≤ F.vars)) (variables_at F S) 0 (λ k lt. rising_bounds 0 F.vars (variables_at F S) k (filtered_rise F.vars (variable_occurs F S)) lt)

-- the weights of a stage of rows that are reached
pub stage_weights : (F : Cnf) (S : List ℕ) (t : TableauRows) → IsReached F S t → All (IsWeight F.vars) (stage_of t).weights
unfolding stage_of start_of
stage_weights F S t reached =
    weights_of F.vars t.vars _ (subst (All (λ v. (0 < v) × (v ≤ F.vars))) (sym (reached_rows F S t reached).vars) (occurring F S))

-- THE CLAUSES THAT IT LEAVES

-- as those without a variable of a set that has the weighted ones
pub unweighted_is : (F : Cnf) (s : Stage) (set : List Bool) (S : List ℕ) → All (IsWeight F.vars) s.weights → ((v : ℕ) → is_in set v ≡ has_weight s.weights v)
    → left_by F set S ≡ unweighted F s S
unfolding unweighted
unweighted_is F s set S all same =
    let tests : (v : ℕ) → is_in set v ≡ is_nonzero (weighting_of s v) = λ v. same v ∙ sym (weighted_is F.vars s.weights v all) in
    λ i. filter (λ p. not (list_any (λ l. tests (variable l) i) (clause_at F p))) S

-- one more of them is looked at
pub left_more : (F : Cnf) (set : List Bool) (S : List ℕ) (i : ℕ) (before after : List ℕ) (touched : Bool) → i < length S
    → before ≡ left_by F set (take i S) → touched ≡ list_any (λ l. is_in set (variable l)) (clause_at F (get_or S i 0))
    → after ≡ before ++ cond (not touched) (get_or S i 0 ∷ []) [] → after ≡ left_by F set (take (i + 1) S)
left_more F set S i before after touched lt e t a =
    a ∙ (λ j. e j ++ cond (not (t j)) (get_or S i 0 ∷ []) []) ∙ sym (filter_more (λ p. not (list_any (λ l. is_in set (variable l)) (clause_at F p))) S i 0 lt)

-- positions stay positions
pub left_rises : (F : Cnf) (s : Stage) (S : List ℕ) → are_positions F S ≡ true → are_positions F (unweighted F s S) ≡ true
unfolding unweighted
left_rises F s S rise = filter_rises 0 (length F.clauses) (λ p. not (list_any (λ l. is_nonzero (weighting_of s (variable l))) (clause_at F p))) S rise
