-- The numbers of a stage, one after another, and the stage in the words of its definition.
use Rattle.std.proofs.Common.{◌≡◌, ℕ, ◌+◌, ◌-◌, ◌<◌, Bool, cond, List, [], ◌∷◌, map, length, get_or, Some, None, Result, Ok, Err, ℤ, pos, ◌*ℤ◌, refl, sym, ap, ◌∙◌, arith, subst}
use Rattle.std.proofs.lemmas.List.FromFn.{get_or-range_with_len, get_or-map-range_with_len, length-range_with_len, length-map-range_with_len}
use Rattle.lk_model.specs.Lists.{up_to}
use Rattle.lk_model.specs.Linear.Arithmetic.{first_wide, made, primitive}
use Rattle.lk_model.specs.Linear.Rows.{Row, TableauRows, entry, m_of, r_of}
use Rattle.lk_model.specs.Linear.Phases.{stage_of, made_in_stage}
use Rattle.lk_model.specs.declared.wide.Op.TheVariants.{Difference}
use Rattle.lk_model.specs.declared.wide.Wide.{Wide}
use Rattle.lk_model.specs.declared.document.Stage.{Stage}
use Rattle.exact_rows.specs.Made.{IsMade}
use Rattle.exact_pivot.specs.declared.stop.PivotStop.{PivotStop}
use Rattle.exact_pivot.specs.Moves.{Gives}
use Rattle.exact_pivot.specs.Staged.{difference_at, made_in_difference, row_number, signed_number, stage_numbers, made_in_numbers, lasts, weights_with}
use Rattle.exact_pivot.proofs.Firsts.{made-err, made-one, flat_single}

-- the number of one variable, times its sign, in the list of all
pub number_at : (signs : List ℤ) (f : ℕ → ℤ) (r j : ℕ) (sign x z : ℤ) → j < r → sign ≡ get_or signs j (pos 0) → x ≡ f (1 + j) → z ≡ sign *ℤ x
    → z ≡ get_or (map (signed_number signs f) (up_to r)) j (pos 0)
number_at signs f r j sign x z h s e g =
    let place : j ≡ 1 + j - 1 = omega arith in
    let signed : sign ≡ entry signs (1 + j) = s ∙ ap (λ n. get_or signs n (pos 0)) place in
    g ∙ (λ i. signed i *ℤ e i) ∙ sym (get_or-map-range_with_len (signed_number signs f) 1 r j (1 + j) (pos 0) h refl)

-- how many there are
pub numbers_long : (signs : List ℤ) (f : ℕ → ℤ) (r : ℕ) → length (map (signed_number signs f) (up_to r)) ≡ r
numbers_long signs f r = length-map-range_with_len (signed_number signs f) 1 r

-- the entry of a row at one variable
pub entry_at : (row : List ℤ) (m j k : ℕ) (x : ℤ) → k ≡ m + j + 1 → x ≡ entry row k → x ≡ entry row (m + (1 + j))
entry_at row m j k x col e = (let column : k ≡ m + (1 + j) = omega (arith, col) in e ∙ ap (entry row) column)

-- a difference in the cost row
pub difference_value : (m r : ℕ) (cost : List ℤ) (j : ℕ) (a u x : ℤ) → a ≡ entry cost (m + (1 + j)) → u ≡ entry cost (m + r + 1) → IsMade Difference a u (Ok x)
    → x ≡ difference_at m r cost (1 + j)
difference_value m r cost j a u x e f h = rw (← e, ← f) h.1

-- the operands of a difference that is too wide
pub difference_wide : (m r : ℕ) (cost : List ℤ) (j : ℕ) (a u : ℤ) (w : Wide) → a ≡ entry cost (m + (1 + j)) → u ≡ entry cost (m + r + 1) → IsMade Difference a u (Err w)
    → Some w ≡ first_wide (made_in_difference m r cost (1 + j))
difference_wide m r cost j a u w e f h = made-err Difference a u [] w h ∙ (λ i. first_wide (made Difference (e i) (f i) ∷ []))

-- what a difference in range leaves to the later ones
pub difference_none : (m r : ℕ) (cost : List ℤ) (j : ℕ) (a u x : ℤ) → a ≡ entry cost (m + (1 + j)) → u ≡ entry cost (m + r + 1) → IsMade Difference a u (Ok x)
    → None ≡ first_wide (made_in_difference m r cost (1 + j))
difference_none m r cost j a u x e f h = made-one Difference a u x h ∙ (λ i. first_wide (made Difference (e i) (f i) ∷ []))

-- a variable's number, from 1 on
pub variable_at : (r j : ℕ) → j < r → 1 + j ≡ get_or (up_to r) j (1 + j)
variable_at r j h = sym (get_or-range_with_len 1 r j (1 + j) h)

-- how many numbers of variables there are
pub variables_long : (r : ℕ) → length (up_to r) ≡ r
variables_long r = length-range_with_len 1 r

-- the stage by its definition
stage_self : (t : TableauRows) → ◌≡◌ {A = Stage} (stage_of t)
    (record { weights = weights_with t.vars (primitive (stage_numbers (lasts (m_of t) (r_of t) t.cost) (m_of t) (r_of t) t.signs t.rows t.cost)) })
unfolding stage_of
stage_self t = refl

-- what the stage makes, by the definition
made_self : (t : TableauRows) → made_in_stage t ≡ made_in_numbers (lasts (m_of t) (r_of t) t.cost) (m_of t) (r_of t) t.cost
unfolding made_in_stage
made_self t = ap (λ ms. cond (lasts (m_of t) (r_of t) t.cost) ms [])
    (flat_single (λ j. made Difference (entry t.cost (m_of t + j)) (entry t.cost (m_of t + r_of t + 1))) (up_to (r_of t)))

-- the stage for rows with these parts
pub gives_stage : (m n : ℕ) (vars : List ℕ) (signs : List ℤ) (rows : List Row) (cost : List ℤ) (r : Result Stage PivotStop) → n ≡ length vars
    → Gives (made_in_numbers (lasts m n cost) m n cost) (record { weights = weights_with vars (primitive (stage_numbers (lasts m n cost) m n signs rows cost)) }) r
    → (t : TableauRows) → m_of t ≡ m → t.vars ≡ vars → t.signs ≡ signs → t.rows ≡ rows → t.cost ≡ cost → Gives (made_in_stage t) (stage_of t) r
gives_stage m n vars signs rows cost r l h t a b c d e =
    let count : r_of t ≡ n = ap length b ∙ sym l in
    let made : made_in_stage t ≡ made_in_numbers (lasts m n cost) m n cost = made_self t ∙ (λ i. made_in_numbers (lasts (a i) (count i) (e i)) (a i) (count i) (e i)) in
    let there : Stage = record { weights = weights_with vars (primitive (stage_numbers (lasts m n cost) m n signs rows cost)) } in
    let value : stage_of t ≡ there = stage_self t
    ∙ (λ i. record { weights = weights_with (b i) (primitive (stage_numbers (lasts (a i) (count i) (e i)) (a i) (count i) (c i) (d i) (e i))) }) in
    subst (λ ms. Gives ms (stage_of t) r) (sym made) (subst (λ s. Gives (made_in_numbers (lasts m n cost) m n cost) s r) (sym value) h)

-- how many numbers a stage has before those that are 0 are left out
pub stage_numbers_long : (first : Bool) (m r : ℕ) (signs : List ℤ) (rows : List Row) (cost : List ℤ) → length (stage_numbers first m r signs rows cost) ≡ r
stage_numbers_long first m r signs rows cost = numbers_long signs (λ j. cond first (difference_at m r cost j) (row_number m r rows j)) r
