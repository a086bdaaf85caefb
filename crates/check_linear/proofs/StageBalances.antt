-- The balances of stages, by the first weights of the variables.
use Rattle.std.proofs.Common.{◌≡◌, ◌≢◌, ◌∙◌, ℕ, ◌+◌, ◌-◌, ◌<◌, ◌≤◌, Bool, true, false, cond, List, [], ◌∷◌, ◌++◌, length, get_or, drop, map, min, refl, sym, ap, arith, ℤ, pos, negsuc, ◌+ℤ◌, Option, Some, inl, inr}
use Rattle.std.specs.Prelude.{find, ◌==◌, nat_le, int_lt}
use Rattle.std.specs.List.{list_any, list_all}
use Rattle.std.specs.Option.{option_map_or}
use Rattle.std.proofs.lemmas.Bool.{cases_Bool, cond-true, cond-false, eq-eqb, ne_eqb, leb-true}
use Rattle.std.proofs.lemmas.Int.{ints}
use Rattle.lk_model.specs.Lists.{is_nonzero, sum_of}
use Rattle.lk_model.specs.Formulas.Literal.{variable, is_literal}
use Rattle.lk_model.specs.Formulas.Formula.{Cnf, clause_at, is_formula, positions_of}
use Rattle.lk_model.specs.Formulas.Balance.{Weighting, balance}
use Rattle.lk_model.specs.Formulas.Autarky.{first_balance}
use Rattle.lk_model.specs.Documents.Documents.{weighting_of}
use Rattle.lk_model.specs.Checks.LinearChecks.{bad_stage}
use Rattle.lk_model.specs.declared.document.DoneDocument.{DoneDocument}
use Rattle.lk_model.specs.declared.document.Stage.{Stage}
use Rattle.lk_model.proofs.Clauses.{literals_of}
use Rattle.lk_model.proofs.Booleans.{and_true, or_true, or_false}
use Rattle.lk_model.proofs.Lists.{drop_read}
use Rattle.lk_model.proofs.ListTests.{zero_is}
use Rattle.check_tables.proofs.KeptFlags.{find_to}
use Rattle.check_linear.proofs.StageChecks.{bad_stage_is, fails_stage}
use Rattle.check_linear.specs.Linear.{signed, first_stage, first_weight, AreFirsts, least_stage, weights_at, is_bad_stage}

-- the least stage of a clause, and the weights at it, by functions in place of tables
abbrev least_by : ℕ → (ℕ → ℕ) → List ℤ → ℕ
least_by last f [] = last
least_by last f (l ∷ c) = min (f (variable l)) (least_by last f c)

abbrev weights_by : ℕ → (ℕ → ℕ) → (ℕ → ℤ) → List ℤ → List ℤ
weights_by m f g [] = []
weights_by m f g (l ∷ c) = cond (f (variable l) == m) (signed l (g (variable l)) ∷ weights_by m f g c) (weights_by m f g c)

-- ONE STAGE

-- no variable has a lesser stage
stage_least : (k : ℕ) (stages : List Stage) (v : ℕ) → k ≤ first_stage k stages v
stage_least k [] v = omega arith
stage_least k (s ∷ stages) v = elim (cases_Bool (is_nonzero (weighting_of s v))) [
  | inl y ↦ (let is = cond-true (is_nonzero (weighting_of s v)) k (first_stage (k + 1) stages v) y in omega (arith, is))
  | inr n ↦ (let is = cond-false (is_nonzero (weighting_of s v)) k (first_stage (k + 1) stages v) n in omega (arith, is, stage_least (k + 1) stages v))
]

least_above : (last k : ℕ) (f : ℕ → ℕ) (c : List ℤ) → k ≤ last → ((v : ℕ) → k ≤ f v) → k ≤ least_by last f c
least_above last k f [] le h = le
least_above last k f (l ∷ c) le h = omega (arith, h (variable l), least_above last k f c le h)

least_reached : (last k : ℕ) (f : ℕ → ℕ) (x : Weighting) (c : List ℤ) → list_any (λ l. is_nonzero (x (variable l))) c ≡ true → ((v : ℕ) → is_nonzero (x v) ≡ true → f v ≡ k) → least_by last f c ≤ k
least_reached last k f x [] some h = absurd (let g : ⊥ = cc in g)
least_reached last k f x (l ∷ c) some h = elim (or_true (is_nonzero (x (variable l))) (list_any (λ l. is_nonzero (x (variable l))) c) some) [
  | inl here ↦ omega (arith, h (variable l) here)
  | inr later ↦ omega (arith, least_reached last k f x c later h)
]

balance_signed : (x : Weighting) (l : ℤ) (c : List ℤ) → balance x (l ∷ c) ≡ signed l (x (variable l)) +ℤ balance x c
balance_signed x (pos v) c = refl
balance_signed x (negsuc k) c = refl

signed_zero : (l : ℤ) → signed l (pos 0) ≡ pos 0
signed_zero (pos v) = refl
signed_zero (negsuc k) = refl

nothing_more : (z : ℤ) → z ≡ pos 0 +ℤ z
nothing_more z = omega (arith, ints)

-- the weights at a stage have the sum that is its balance
stage_sum : (x : Weighting) (k : ℕ) (f : ℕ → ℕ) (g : ℕ → ℤ) (c : List ℤ) → ((v : ℕ) → is_nonzero (x v) ≡ true → f v ≡ k) → ((v : ℕ) → is_nonzero (x v) ≡ true → g v ≡ x v)
    → ((v : ℕ) → is_nonzero (x v) ≡ false → f v ≢ k) → sum_of (weights_by k f g c) ≡ balance x c
stage_sum x k f g [] a b o = refl
stage_sum x k f g (l ∷ c) a b o =
    let v : ℕ = variable l in
    let more : List ℤ = weights_by k f g c in
    let rest = stage_sum x k f g c a b o in
    elim (cases_Bool (is_nonzero (x v))) [
      | inl y ↦
          ap sum_of (cond-true (f v == k) (signed l (g v) ∷ more) more (eq-eqb (f v) k (a v y)))
          ∙ (λ j. signed l (b v y j) +ℤ rest j) ∙ sym (balance_signed x l c)
      | inr n ↦
          ap sum_of (cond-false (f v == k) (signed l (g v) ∷ more) more (ne_eqb (f v) k (o v n)))
          ∙ rest ∙ nothing_more (balance x c)
          ∙ sym (balance_signed x l c ∙ ap (λ (y : ℤ). signed l y +ℤ balance x c) (zero_is (x v) n) ∙ ap (λ (y : ℤ). y +ℤ balance x c) (signed_zero l))
    ]

-- functions that agree on a clause
least_same : (last : ℕ) (f h : ℕ → ℕ) (x : Weighting) (c : List ℤ) → list_any (λ l. is_nonzero (x (variable l))) c ≡ false → ((v : ℕ) → is_nonzero (x v) ≡ false → f v ≡ h v) → least_by last f c ≡ least_by last h c
least_same last f h x [] none e = refl
least_same last f h x (l ∷ c) none e =
    let both = or_false (is_nonzero (x (variable l))) (list_any (λ l. is_nonzero (x (variable l))) c) none in
    (λ j. min (e (variable l) both.0 j) (least_same last f h x c both.1 e j))

weights_same : (m : ℕ) (f h : ℕ → ℕ) (g u : ℕ → ℤ) (x : Weighting) (c : List ℤ) → list_any (λ l. is_nonzero (x (variable l))) c ≡ false → ((v : ℕ) → is_nonzero (x v) ≡ false → f v ≡ h v)
    → ((v : ℕ) → is_nonzero (x v) ≡ false → g v ≡ u v) → weights_by m f g c ≡ weights_by m h u c
weights_same m f h g u x [] none e z = refl
weights_same m f h g u x (l ∷ c) none e z =
    let both = or_false (is_nonzero (x (variable l))) (list_any (λ l. is_nonzero (x (variable l))) c) none in
    (λ j. cond (e (variable l) both.0 j == m) (signed l (z (variable l) both.0 j) ∷ weights_same m f h g u x c both.1 e z j) (weights_same m f h g u x c both.1 e z j))

zero_sum : (m : ℕ) (f : ℕ → ℕ) (c : List ℤ) → sum_of (weights_by m f (λ v. pos 0) c) ≡ pos 0
zero_sum m f [] = refl
zero_sum m f (l ∷ c) = elim (cases_Bool (f (variable l) == m)) [
  | inl y ↦ rw y ((λ j. signed_zero l j +ℤ zero_sum m f c j))
  | inr n ↦ rw n (zero_sum m f c)
]

-- ALL STAGES

-- the sum of the weights at the least stage is below 0 where the balance that counts is
sum_counts : (k : ℕ) (stages : List Stage) (c : List ℤ)
    → int_lt (sum_of (weights_by (least_by (k + length stages) (first_stage k stages) c) (first_stage k stages) (first_weight stages) c)) (pos 0)
    ≡ option_map_or (λ b. int_lt b (pos 0)) (first_balance (map weighting_of stages) c) false
sum_counts k [] c = ap (λ (z : ℤ). int_lt z (pos 0)) (zero_sum (least_by (k + 0) (first_stage k []) c) (first_stage k []) c)
sum_counts k (s ∷ stages) c =
    let x : Weighting = weighting_of s in
    let f : ℕ → ℕ = first_stage k (s ∷ stages) in
    let g : ℕ → ℤ = first_weight (s ∷ stages) in
    let h : ℕ → ℕ = first_stage (k + 1) stages in
    let u : ℕ → ℤ = first_weight stages in
    let last : ℕ = k + length (s ∷ stages) in
    let low : Option ℤ → Bool = λ o. option_map_or (λ b. int_lt b (pos 0)) o false in
    let f_own : (v : ℕ) → is_nonzero (x v) ≡ true → f v ≡ k = λ v y. cond-true (is_nonzero (x v)) k (h v) y in
    let g_own : (v : ℕ) → is_nonzero (x v) ≡ true → g v ≡ x v = λ v y. cond-true (is_nonzero (x v)) (x v) (u v) y in
    let f_later : (v : ℕ) → is_nonzero (x v) ≡ false → f v ≡ h v = λ v n. cond-false (is_nonzero (x v)) k (h v) n in
    let g_later : (v : ℕ) → is_nonzero (x v) ≡ false → g v ≡ u v = λ v n. cond-false (is_nonzero (x v)) (x v) (u v) n in
    elim (cases_Bool (list_any (λ l. is_nonzero (x (variable l))) c)) [
      | inl some ↦
          let least : least_by last f c ≡ k = omega (arith, least_above last k f c (omega arith) (stage_least k (s ∷ stages)), least_reached last k f x c some f_own) in
          ap (λ (m : ℕ). int_lt (sum_of (weights_by m f g c)) (pos 0)) least
          ∙ ap (λ (z : ℤ). int_lt z (pos 0)) (stage_sum x k f g c f_own g_own (λ v n e. absurd (omega (arith, e, f_later v n, stage_least (k + 1) stages v))))
          ∙ sym (ap low (cond-true (list_any (λ l. is_nonzero (x (variable l))) c) (Some (balance x c)) (first_balance (map weighting_of stages) c) some))
      | inr none ↦
          let end : last ≡ (k + 1) + length stages = omega arith in
          let least : least_by last f c ≡ least_by ((k + 1) + length stages) h c = least_same last f h x c none f_later ∙ ap (λ (e : ℕ). least_by e h c) end in
          ap (λ (m : ℕ). int_lt (sum_of (weights_by m f g c)) (pos 0)) least
          ∙ ap (λ (ws : List ℤ). int_lt (sum_of ws) (pos 0)) (weights_same (least_by ((k + 1) + length stages) h c) f h g u x c none f_later g_later)
          ∙ sum_counts (k + 1) stages c
          ∙ sym (ap low (cond-false (list_any (λ l. is_nonzero (x (variable l))) c) (Some (balance x c)) (first_balance (map weighting_of stages) c) none))
    ]

-- TABLES

least_told : (n last : ℕ) (places : List ℕ) (f : ℕ → ℕ) (c : List ℤ) → list_all (is_literal n) c ≡ true → ((v : ℕ) → 1 ≤ v → v ≤ n → get_or places (v - 1) 0 ≡ f v) → least_stage last places c ≡ least_by last f c
least_told n last places f [] all t = refl
least_told n last places f (l ∷ c) all t =
    let both = and_true (is_literal n l) (list_all (is_literal n) c) all in
    let b = and_true (nat_le 1 (variable l)) (nat_le (variable l) n) both.0 in
    (λ j. min (t (variable l) (leb-true 1 (variable l) b.0) (leb-true (variable l) n b.1) j) (least_told n last places f c both.1 t j))

weights_told : (n m : ℕ) (places : List ℕ) (weights : List ℤ) (f : ℕ → ℕ) (g : ℕ → ℤ) (c : List ℤ) → list_all (is_literal n) c ≡ true → ((v : ℕ) → 1 ≤ v → v ≤ n → get_or places (v - 1) 0 ≡ f v)
    → ((v : ℕ) → 1 ≤ v → v ≤ n → get_or weights (v - 1) (pos 0) ≡ g v) → weights_at m places weights c ≡ weights_by m f g c
weights_told n m places weights f g [] all t u = refl
weights_told n m places weights f g (l ∷ c) all t u =
    let both = and_true (is_literal n l) (list_all (is_literal n) c) all in
    let b = and_true (nat_le 1 (variable l)) (nat_le (variable l) n) both.0 in
    let low = leb-true 1 (variable l) b.0 in
    let high = leb-true (variable l) n b.1 in
    let rest = weights_told n m places weights f g c both.1 t u in
    (λ j. cond (t (variable l) low high j == m) (signed l (u (variable l) low high j) ∷ rest j) (rest j))

-- so the tables tell whether a clause fails
pub stage_told : (n : ℕ) (stages : List Stage) (places : List ℕ) (weights : List ℤ) (c : List ℤ) → AreFirsts n 0 stages places weights → list_all (is_literal n) c ≡ true
    → is_bad_stage (length stages) places weights c ≡ option_map_or (λ b. int_lt b (pos 0)) (first_balance (map weighting_of stages) c) false
stage_told n stages places weights c a all =
    let f : ℕ → ℕ = first_stage 0 stages in
    let g : ℕ → ℤ = first_weight stages in
    let last : ℕ = 0 + length stages in
    let end : length stages ≡ last = omega arith in
    ap (λ (e : ℕ). is_bad_stage e places weights c) end
    ∙ ap (λ (m : ℕ). int_lt (sum_of (weights_at m places weights c)) (pos 0)) (least_told n last places f c all a.place)
    ∙ ap (λ (ws : List ℤ). int_lt (sum_of ws) (pos 0)) (weights_told n (least_by last f c) places weights f g c all a.place a.weight)
    ∙ sum_counts 0 stages c

-- ONE LITERAL MORE

pub least_small : (last : ℕ) (places : List ℕ) (c : List ℤ) → least_stage last places c ≤ last
least_small last places [] = omega arith
least_small last places (l ∷ c) = omega (arith, least_small last places c)

pub weights_next : (m : ℕ) (places : List ℕ) (weights : List ℤ) (c : List ℤ) (i : ℕ) (l : ℤ) → i < length c → l ≡ get_or c i l → weights_at m places weights (drop i c) ≡ weights_at m places weights (l ∷ []) ++ weights_at m places weights (drop (i + 1) c)
weights_next m places weights c i l lt is = ap (weights_at m places weights) (drop_read c i l lt is) ∙ apart (get_or places (variable l - 1) 0 == m) (weights_at m places weights (drop (i + 1) c))
  where
    apart : (b : Bool) (rest : List ℤ) → cond b (signed l (get_or weights (variable l - 1) (pos 0)) ∷ rest) rest ≡ cond b (signed l (get_or weights (variable l - 1) (pos 0)) ∷ []) [] ++ rest
    apart true rest = refl
    apart false rest = refl

-- so the first position that fails is the first one by the tables
pub stage_found : (F : Cnf) (d : DoneDocument) (stages : List Stage) (places : List ℕ) (weights : List ℤ) → is_formula F ≡ true → AreFirsts F.vars 0 stages places weights
    → find (λ p. is_bad_stage (length stages) places weights (clause_at F p)) (positions_of F) ≡ (bad_stage F d stages).place
stage_found F d stages places weights form a =
    find_to (length F.clauses) (λ p. is_bad_stage (length stages) places weights (clause_at F p)) (fails_stage F stages)
    (λ p low high. stage_told F.vars stages places weights (clause_at F p) a (literals_of F p form))
    ∙ sym (bad_stage_is F d stages)
