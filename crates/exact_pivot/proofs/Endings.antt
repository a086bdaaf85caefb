-- What a run that ends lean gives, in the words of its definitions and in those of the code.
use Rattle.std.proofs.Common.{◌≡◌, ℕ, zero, suc, ◌+◌, ◌-◌, ◌<◌, ◌≤◌, ◌==◌, Bool, true, false, cond, List, [], ◌∷◌, ◌++◌, map, filter, find, zip, take, drop, length, get_or, Option, Some, None, Result, Err, ℤ, pos, int_div, refl, sym, ap, ◌∙◌, arith, subst}
use Rattle.std.specs.List.{All, flat_map, range_with_len}
use Rattle.std.specs.Option.{option_or, option_map_or}
use Rattle.std.proofs.lemmas.List.{take_more, take_all}
use Rattle.std.proofs.lemmas.List.FromFn.{length-range_with_len}
use Rattle.lk_model.specs.Lists.{up_to, is_nonzero}
use Rattle.lk_model.specs.Linear.Arithmetic.{first_wide, made}
use Rattle.lk_model.specs.Linear.Rows.{Row, TableauRows, entry, m_of, r_of, sign_at, artificial, right_column}
use Rattle.lk_model.specs.Linear.Ends.{numerator, denominator, common, dual_number, share_number, shares_of, dual_at_end, made_in_dual, units_at_end, made_in_units}
use Rattle.lk_model.specs.declared.wide.Op.TheVariants.{Product}
use Rattle.lk_model.specs.declared.wide.Wide.{Wide as Operands}
use Rattle.lk_model.specs.declared.document.Dual.{Dual}
use Rattle.lk_model.specs.declared.document.Share.{Share}
use Rattle.lk_model.specs.declared.document.Unit.{Unit}
use Rattle.exact_rows.proofs.Wides.{first_wide-append}
use Rattle.exact_pivot.specs.declared.stop.PivotStop.{PivotStop}
use Rattle.exact_pivot.specs.declared.stop.PivotStop.TheVariants.{Wide, OutOfMemory}
use Rattle.exact_pivot.specs.Moves.{Gives}
use Rattle.exact_pivot.specs.Shape.{IsRow}
use Rattle.exact_pivot.specs.Placed.{IsBasic, sum_with, signed_of, placed_at, placed, common_of, made_in_common, duals_with, shares_with, duals_in, made_in_duals, unit_in, made_in_unit, made_in_unit_at, units_in, made_in_all}
use Rattle.exact_pivot.proofs.Firsts.{flat_single, flat_at, flat_past, flat_end}
use Rattle.exact_pivot.proofs.Stagings.{variable_at}

-- rows of a tableau have basic columns
pub all_basic : (n : ℕ) (rows : List Row) → All (IsRow n) rows → All IsBasic rows
all_basic n rows all = λ k d h. (let row = all k d h in (row.least, row.positive))

-- the first wide result of two lists where the first list has one
pub wide_first : (vs ws : List Operands) (w : Operands) → Some w ≡ first_wide vs → first_wide (vs ++ ws) ≡ Some w
wide_first vs ws w e = (let told : option_or (first_wide vs) (first_wide ws) ≡ Some w = rw (← e) refl in first_wide-append vs ws ∙ told)

-- the first wide result of two lists where the first list has none
pub wide_second : (vs ws : List Operands) (o : Option Operands) → None ≡ first_wide vs → o ≡ first_wide ws → first_wide (vs ++ ws) ≡ o
wide_second vs ws o e f = (let told : option_or (first_wide vs) (first_wide ws) ≡ first_wide ws = rw (← e) refl in first_wide-append vs ws ∙ told ∙ sym f)

-- a choice inside of an option
chosen : (f : Row → ℤ) (d : ℤ) (b : Bool) (row : Row) (later : Option Row) → option_map_or f (cond b (Some row) later) d ≡ cond b (f row) (option_map_or f later d)
chosen f d true row later = refl
chosen f d false row later = refl

-- the number of the first row with a basic column, as it is found and as it is placed
placed_find : (d : ℤ) (f : Row → ℤ) (rows : List Row) (c : ℕ) → option_map_or f (find (λ (row : Row). row.basic == c) rows) d ≡ placed_at d rows (map f rows) c
placed_find d f [] c = refl
placed_find d f (row ∷ rows) c = chosen f d (row.basic == c) row (find (λ (row : Row). row.basic == c) rows) ∙ ap (cond (row.basic == c) (f row)) (placed_find d f rows c)

-- numbers of columns beside positions
zip_swap : {X : Type 0} (F : ℕ → ℤ → X) (g h : ℕ → ℤ) → ((c : ℕ) → g c ≡ h c) → (a : ℕ) (ps : List ℕ)
    → map (λ (c, p). F p (g c)) (zip (range_with_len a (length ps)) ps) ≡ map (λ (p, y). F p y) (zip ps (map h (range_with_len a (length ps))))
zip_swap F g h e a [] = refl
zip_swap F g h e a (p ∷ ps) =
    let first : F p (g a) ≡ F p (h a) = ap (F p) (e a) in
    let rest = zip_swap F g h e (a + 1) ps in
    λ i. first i ∷ rest i

-- the duals by the definitions
dual_self : (t : TableauRows) → dual_at_end t ≡ duals_in (right_column t) t.positions t.rows
unfolding dual_at_end
dual_self t = zip_swap {X = Dual} (λ p y. record { pos = p; y = y }) (dual_number t) (placed_at (common_of (right_column t) t.rows) t.rows (map (sum_with (common_of (right_column t) t.rows) (right_column t)) t.rows))
    (placed_find (common_of (right_column t) t.rows) (sum_with (common_of (right_column t) t.rows) (right_column t)) t.rows) 1 t.positions

-- what the duals make, by the definitions
made_dual_self : (t : TableauRows) → made_in_dual t ≡ made_in_duals (right_column t) t.rows
unfolding made_in_dual
made_dual_self t = refl

-- for rows with these parts
pub gives_duals : (k : ℕ) (ps : List ℕ) (rows : List Row) (r : Result (List Dual) PivotStop) → Gives (made_in_duals k rows) (duals_in k ps rows) r
    → (t : TableauRows) → t.positions ≡ ps → t.rows ≡ rows → right_column t ≡ k → Gives (made_in_dual t) (dual_at_end t) r
gives_duals k ps rows r h t e f g =
    let made : made_in_dual t ≡ made_in_duals k rows = made_dual_self t ∙ (λ i. made_in_duals (g i) (f i)) in
    let value : dual_at_end t ≡ duals_in k ps rows = dual_self t ∙ (λ i. duals_in (g i) (e i) (f i)) in
    subst (λ ms. Gives ms (dual_at_end t) r) (sym made) (subst (λ there. Gives (made_in_duals k rows) there r) (sym value) h)

-- the duals that the code finds step by step
pub duals_found : (k : ℕ) (ps : List ℕ) (rows : List Row) (l : ℤ) (values numbers : List ℤ) (duals : List Dual) → l ≡ common_of k rows
    → values ≡ map (sum_with l k) rows → numbers ≡ placed l (length ps) rows values → duals ≡ duals_with ps numbers → duals ≡ duals_in k ps rows
duals_found k ps rows l values numbers duals e f g h = rw (h, g, f, e) refl

-- the unit that the code finds step by step
pub unit_found : (k : ℕ) (ps : List ℕ) (rows : List Row) (sign l : ℤ) (v : ℕ) (values numbers : List ℤ) (shares : List Share) → l ≡ common_of k rows
    → values ≡ map (signed_of sign l k) rows → numbers ≡ placed (pos 0) (length ps) rows values → shares ≡ shares_with ps numbers
    → ◌≡◌ {A = Unit} (record { var = v; d = l; shares = shares }) (unit_in ps rows k sign v)
unit_found k ps rows sign l v values numbers shares e f g h = rw (h, g, f, e) refl

-- a variable's shares by the definitions
shares_self : (t : TableauRows) (j : ℕ) → shares_of t j
    ≡ shares_with t.positions (placed (pos 0) (length t.positions) t.rows (map (signed_of (sign_at t j) (common_of (artificial t j) t.rows) (artificial t j)) t.rows))
shares_self t j = ap (filter (λ (s : Share). is_nonzero s.z))
    (zip_swap {X = Share} (λ p z. record { pos = p; z = z }) (share_number t j) (placed_at (pos 0) t.rows (map (signed_of (sign_at t j) (common_of (artificial t j) t.rows) (artificial t j)) t.rows))
    (placed_find (pos 0) (signed_of (sign_at t j) (common_of (artificial t j) t.rows) (artificial t j)) t.rows) 1 t.positions)

-- the units by the definitions
units_self : (t : TableauRows) → units_at_end t ≡ units_in t.positions t.vars t.signs t.rows
unfolding units_at_end
units_self t = λ i. map (λ (j, v). record { var = v; d = common t (artificial t j); shares = shares_self t j i }) (zip (up_to (r_of t)) t.vars)

-- what the units make, by the definitions
made_units_self : (t : TableauRows) → made_in_units t ≡ made_in_all (m_of t) (r_of t) t.rows
unfolding made_in_units
made_units_self t = λ i. flat_map (λ j. made_in_common (artificial t j) t.rows
    ++ flat_single (λ (row : Row). made Product (int_div (common t (artificial t j)) (denominator (artificial t j) row)) (numerator (artificial t j) row)) t.rows i) (up_to (r_of t))

-- for rows with these parts
pub gives_units : (ps vars : List ℕ) (signs : List ℤ) (rows : List Row) (r : Result (List Unit) PivotStop)
    → Gives (made_in_all (length ps) (length vars) rows) (units_in ps vars signs rows) r
    → (t : TableauRows) → t.positions ≡ ps → t.vars ≡ vars → t.signs ≡ signs → t.rows ≡ rows → Gives (made_in_units t) (units_at_end t) r
gives_units ps vars signs rows r h t e f g k =
    let made : made_in_units t ≡ made_in_all (length ps) (length vars) rows = made_units_self t ∙ (λ i. made_in_all (length (e i)) (length (f i)) (k i)) in
    let value : units_at_end t ≡ units_in ps vars signs rows = units_self t ∙ (λ i. units_in (e i) (f i) (g i) (k i)) in
    subst (λ ms. Gives ms (units_at_end t) r) (sym made) (subst (λ there. Gives (made_in_all (length ps) (length vars) rows) there r) (sym value) h)

-- a place in a list that is made from numbers beside variables
zip_at : {X : Type 0} (F : ℕ → ℕ → X) (a : ℕ) (vs : List ℕ) (i : ℕ) (d : X) (v z : ℕ) → i < length vs → v ≡ get_or vs i z
    → get_or (map (λ (j, w). F j w) (zip (range_with_len a (length vs)) vs)) i d ≡ F (a + i) v
zip_at F a [] i d v z h e = absurd (omega (arith, h))
zip_at F a (w ∷ vs) zero d v z h e = (let here : a ≡ a + 0 = omega arith in λ k. F (here k) (sym e k))
zip_at F a (w ∷ vs) (suc i) d v z h e = (let next : a + 1 + i ≡ a + suc i = omega arith in zip_at F (a + 1) vs i d v z (omega (arith, h)) e ∙ ap (λ j. F j v) next)

-- and how long it is
zip_long : {X : Type 0} (F : ℕ → ℕ → X) (a : ℕ) (vs : List ℕ) → length (map (λ (j, w). F j w) (zip (range_with_len a (length vs)) vs)) ≡ length vs
zip_long F a [] = refl
zip_long F a (w ∷ vs) = ap suc (zip_long F (a + 1) vs)

-- a unit is put behind the earlier ones
pub units_step : (ps vars : List ℕ) (signs : List ℤ) (rows : List Row) (i k : ℕ) (sign : ℤ) (v : ℕ) (us : List Unit) (u : Unit) → i < length vars → v ≡ get_or vars i 0
    → k ≡ length ps + i + 1 → sign ≡ get_or signs i (pos 0) → u ≡ unit_in ps rows k sign v → us ≡ take i (units_in ps vars signs rows)
    → us ++ u ∷ [] ≡ take (i + 1) (units_in ps vars signs rows)
units_step ps vars signs rows i k sign v us u h at col s e f =
    let F : ℕ → ℕ → Unit = λ j w. unit_in ps rows (length ps + j) (entry signs j) w in
    let column : k ≡ length ps + (1 + i) = omega (arith, col) in
    let place : i ≡ 1 + i - 1 = omega arith in
    let signed : sign ≡ entry signs (1 + i) = s ∙ ap (λ n. get_or signs n (pos 0)) place in
    let here : u ≡ F (1 + i) v = e ∙ (λ n. unit_in ps rows (column n) (signed n) v) in
    let found : u ≡ get_or (units_in ps vars signs rows) i u = here ∙ sym (zip_at F 1 vars i u v 0 h at) in
    let more = take_more (units_in ps vars signs rows) i u (omega (arith, h, zip_long F 1 vars)) in
    (λ n. f n ++ found n ∷ []) ∙ sym more

-- behind the last variable
pub units_end : (ps vars : List ℕ) (signs : List ℤ) (rows : List Row) (i : ℕ) (us : List Unit) → length vars ≤ i → us ≡ take i (units_in ps vars signs rows) → us ≡ units_in ps vars signs rows
units_end ps vars signs rows i us h e =
    e ∙ take_all i (units_in ps vars signs rows) (omega (arith, h, zip_long (λ j w. unit_in ps rows (length ps + j) (entry signs j) w) 1 vars))

-- what the units make where this one stops
pub units_stop : (m r : ℕ) (rows : List Row) (i k : ℕ) (there : Unit) (all : List Unit) (stop : PivotStop) → i < r → k ≡ m + i + 1
    → first_wide (made_in_all m r rows) ≡ first_wide (flat_map (made_in_unit_at m rows) (drop i (up_to r)))
    → Gives (made_in_unit k rows) there (Err stop) → Gives (made_in_all m r rows) all (Err stop)
units_stop m r rows i k there all (Wide w) h col e g =
    let column : k ≡ m + (1 + i) = omega (arith, col) in
    let told : Some w ≡ first_wide (made_in_unit (m + (1 + i)) rows) = sym g ∙ ap (λ c. first_wide (made_in_unit c rows)) column in
    sym (flat_at (made_in_unit_at m rows) (up_to r) i (1 + i) w (omega (arith, h, length-range_with_len 1 r)) (variable_at r i h) e told)
units_stop m r rows i k there all OutOfMemory h col e g = tt

-- what the units make where this one makes nothing wide
pub units_past : (m r : ℕ) (rows : List Row) (i k : ℕ) → i < r → k ≡ m + i + 1
    → first_wide (made_in_all m r rows) ≡ first_wide (flat_map (made_in_unit_at m rows) (drop i (up_to r)))
    → first_wide (made_in_unit k rows) ≡ None
    → first_wide (made_in_all m r rows) ≡ first_wide (flat_map (made_in_unit_at m rows) (drop (i + 1) (up_to r)))
units_past m r rows i k h col e g =
    let column : k ≡ m + (1 + i) = omega (arith, col) in
    let told : None ≡ first_wide (made_in_unit (m + (1 + i)) rows) = sym g ∙ ap (λ c. first_wide (made_in_unit c rows)) column in
    flat_past (made_in_unit_at m rows) (up_to r) i (1 + i) (omega (arith, h, length-range_with_len 1 r)) (variable_at r i h) e told

-- what the units make where none of them makes anything wide
pub units_none : (m r : ℕ) (rows : List Row) (i : ℕ) → r ≤ i
    → first_wide (made_in_all m r rows) ≡ first_wide (flat_map (made_in_unit_at m rows) (drop i (up_to r))) → first_wide (made_in_all m r rows) ≡ None
units_none m r rows i h e = sym (flat_end (made_in_unit_at m rows) (up_to r) i (omega (arith, h, length-range_with_len 1 r)) e)
