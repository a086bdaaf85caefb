-- The units of a linear document.
use Rattle.std.proofs.Common.{◌≡◌, ◌≢◌, ◌∙◌, ℕ, zero, suc, ◌+◌, ◌-◌, ◌<◌, ◌≤◌, Bool, true, false, cond, not, ◌&&◌, ◌||◌, List, [], ◌∷◌, ◌++◌, length, get_or, take, map, refl, sym, ap, arith, ℤ, pos, neg_ℤ, ◌+ℤ◌, Option, Some, None, inl, inr, get_or-set_same, get_or-set_other}
use Rattle.std.specs.Prelude.{find, slice_set, ◌==◌, nat_le}
use Rattle.std.specs.List.{list_any, list_all, range_with_len}
use Rattle.std.specs.Ordering.{int_eq}
use Rattle.std.proofs.lemmas.Bool.{cases_Bool, cases_eq, cond-true, cond-false, eq-eqb, eqb-true, ne_eqb, leb-true, le-leb}
use Rattle.std.proofs.lemmas.Bool.Decides.{Decides-int_eq}
use Rattle.std.proofs.lemmas.Int.{ints}
use Rattle.std.proofs.lemmas.List.{get_or_default, length-set, take_more, append-nil, get_or-map, length-map}
use Rattle.lk_model.specs.Lists.{among, is_zero, is_nonzero, sum_of, rises_within}
use Rattle.lk_model.specs.Limits.{is_in_range}
use Rattle.lk_model.specs.Formulas.Literal.{variable, mentions, is_literal}
use Rattle.lk_model.specs.Formulas.Formula.{Cnf, clause_at, is_formula, variable_occurs, variables_to}
use Rattle.lk_model.specs.Formulas.Crossed.{no_variable}
use Rattle.lk_model.specs.Formulas.Balance.{balance_in}
use Rattle.lk_model.specs.Held.VariableSets.{is_in}
use Rattle.lk_model.specs.Documents.Documents.{unit_of, shares_at}
use Rattle.lk_model.specs.Documents.Form.{is_linear_unit, is_weight}
use Rattle.lk_model.specs.Checks.Check.{line_fails}
use Rattle.lk_model.specs.Checks.LinearChecks.{bad_unit}
use Rattle.lk_model.specs.declared.document.Share.{Share}
use Rattle.lk_model.specs.declared.document.Unit.{Unit}
use Rattle.lk_model.specs.declared.document.DoneDocument.{DoneDocument}
use Rattle.lk_model.proofs.Booleans.{and_true, or_true, or_false, or_left, or_right, same_tests}
use Rattle.lk_model.proofs.Clauses.{literals_of}
use Rattle.lk_model.proofs.ListTests.{all_at, passes_among, passes_each, passing}
use Rattle.lk_model.proofs.Rising.{rises, rising_bounds}
use Rattle.lk_model.proofs.Founds.{up_to_bounds}
use Rattle.lk_model.proofs.Variables.{literal_passing, in_variables}
use Rattle.check_tables.specs.Flags.{is_flagged, AreKeptFlags}
use Rattle.check_tables.specs.Occurring.{AreOccurring}
use Rattle.check_linear.specs.Linear.{numbers_in, numbers_at, numbers_of, numbers_by, unit_numbers, AreNumbers, AddsNumbers, AreUnitNumbers, AreNone, ClearsShares, is_shared, is_unbalanced, is_unbalanced_clause, is_unbalanced_share, is_bad_unit_line, AreUnitPlaces, no_unit, unit_numbered, is_bad_unit}
use Rattle.check_tables.proofs.FirstTables.{found_passes}
use Rattle.check_tables.proofs.KeptFlags.{find_to}
use Rattle.check_linear.proofs.UnitPlaces.{line_is}
use Rattle.check_linear.proofs.Numbers.{numbers_at_both, sum_append, balance_sum}

-- SHARES

pub share_bounds : (m : ℕ) (shares : List Share) (i : ℕ) (d : Share) → rises_within 0 m (map (λ (s : Share). s.pos) shares) ≡ true → i < length shares → (1 ≤ (get_or shares i d).pos) × ((get_or shares i d).pos ≤ m)
share_bounds m shares i d rising lt =
    let b = rising_bounds 0 m (map (λ (s : Share). s.pos) shares) i rising (omega (arith, lt, length-map shares (λ (s : Share). s.pos))) in
    let at = get_or-map (λ (s : Share). s.pos) shares i d 0 lt in
    (omega (arith, b.0, at), omega (arith, b.1, at))

pub share_range : (shares : List Share) (i : ℕ) (d : Share) → list_all (λ (s : Share). is_weight s.z) shares ≡ true → i < length shares → is_in_range (get_or shares i d).z ≡ true
share_range shares i d all lt = (and_true (is_nonzero (get_or shares i d).z) (is_in_range (get_or shares i d).z) (all_at (λ (s : Share). is_weight s.z) shares i d all lt)).1

-- the parts of a unit's form
pub record HasUnitForm (m : ℕ) (u : Unit) : Type 0 where
  pub range : is_in_range u.d ≡ true
  pub rising : rises_within 0 m (map (λ (s : Share). s.pos) u.shares) ≡ true
  pub weights : list_all (λ (s : Share). is_weight s.z) u.shares ≡ true

pub unit_form : (m : ℕ) (u : Unit) → is_linear_unit m u ≡ true → HasUnitForm m u
unit_form m u form =
    let a = and_true (is_in_range u.d && rises_within 0 m (map (λ (s : Share). s.pos) u.shares)) (list_all (λ (s : Share). is_weight s.z) u.shares) form in
    let b = and_true (is_in_range u.d) (rises_within 0 m (map (λ (s : Share). s.pos) u.shares)) a.0 in
    record { range = b.0; rising = b.1; weights = a.1 }

-- a share more
pub share_added : (F : Cnf) (shares : List Share) (i : ℕ) (d : Share) (before after : List (List ℤ)) (clause : List ℤ) → i < length shares → clause ≡ clause_at F (get_or shares i d).pos
    → AddsNumbers F.vars (get_or shares i d).z clause before after → AreNumbers F (numbers_by (take i shares)) before → AreNumbers F (numbers_by (take (i + 1) shares)) after
share_added F shares i d before after clause lt is a h =
    let line : Share = get_or shares i d in
    let more : numbers_by (take (i + 1) shares) ≡ numbers_by (take i shares) ++ (line.pos, line.z) ∷ [] = ap numbers_by (take_more shares i d lt) ∙ both (take i shares) (line ∷ []) in
    record {
      size = a.size ∙ h.size;
      told = λ v low high.
          a.added v low high
          ∙ (λ j. h.told v low high j ++ numbers_in line.z (is j) v)
          ∙ ap (λ (xs : List ℤ). numbers_at F (numbers_by (take i shares)) v ++ xs) (sym (append-nil (numbers_in line.z (clause_at F line.pos) v)))
          ∙ sym (numbers_at_both F (numbers_by (take i shares)) ((line.pos, line.z) ∷ []) v)
          ∙ sym (ap (λ (ys : List (ℕ × ℤ)). numbers_at F ys v) more);
    }
  where
    both : (xs ys : List Share) → numbers_by (xs ++ ys) ≡ numbers_by xs ++ numbers_by ys
    both [] ys = refl
    both (x ∷ xs) ys = ap (λ (zs : List (ℕ × ℤ)). (x.pos, x.z) ∷ zs) (both xs ys)

-- with d taken off at the unit's variable
pub unit_told : (F : Cnf) (u : Unit) (mid : List (List ℤ)) (more : List ℤ) → AreNumbers F (numbers_by u.shares) mid → 1 ≤ u.var → u.var ≤ F.vars → more ≡ numbers_of mid u.var ++ neg_ℤ u.d ∷ [] → AreUnitNumbers F u (slice_set mid (u.var - 1) more)
unit_told F u mid more h low high pushed = record {
  size = length-set mid (u.var - 1) more ∙ h.size;
  told = λ w first last. elim (cases_eq w u.var) [
    | inl same ↦
        ap (λ (k : ℕ). get_or (slice_set mid (u.var - 1) more) (k - 1) []) same
        ∙ get_or-set_same mid (u.var - 1) more [] (omega (arith, low, high, h.size)) ∙ pushed
        ∙ ap (λ (xs : List ℤ). xs ++ neg_ℤ u.d ∷ []) (h.told u.var low high ∙ ap (numbers_at F (numbers_by u.shares)) (sym same))
        ∙ sym (ap (λ (xs : List ℤ). numbers_at F (numbers_by u.shares) w ++ xs) (cond-true (w == u.var) (neg_ℤ u.d ∷ []) [] (eq-eqb w u.var same)))
    | inr other ↦
        let apart : w - 1 ≢ u.var - 1 = λ e. other (omega (arith, e, low, first)) in
        get_or-set_other mid (u.var - 1) (w - 1) more [] apart ∙ h.told w first last
        ∙ sym (ap (λ (xs : List ℤ). numbers_at F (numbers_by u.shares) w ++ xs) (cond-false (w == u.var) (neg_ℤ u.d ∷ []) [] (ne_eqb w u.var other)) ∙ append-nil (numbers_at F (numbers_by u.shares) w))
  ];
}

-- A VARIABLE THAT NO SHARE REACHES

none_in : (y : ℤ) (c : List ℤ) (w : ℕ) → mentions c w ≡ false → numbers_in y c w ≡ []
none_in y [] w none = refl
none_in y (l ∷ c) w none = let both = or_false (variable l == w) (mentions c w) none in rw (both.0) (none_in y c w both.1)

none_shared : (F : Cnf) (shares : List Share) (w : ℕ) → is_shared F shares w ≡ false → numbers_at F (numbers_by shares) w ≡ []
none_shared F [] w none = refl
none_shared F (s ∷ shares) w none =
    let both = or_false (mentions (clause_at F s.pos) w) (is_shared F shares w) none in
    (λ j. none_in s.z (clause_at F s.pos) w both.0 j ++ none_shared F shares w both.1 j)

none_unit : (F : Cnf) (u : Unit) (w : ℕ) → is_shared F u.shares w ≡ false → w ≢ u.var → unit_numbers F u w ≡ []
none_unit F u w none other = (λ j. none_shared F u.shares w none j ++ cond-false (w == u.var) (neg_ℤ u.d ∷ []) [] (ne_eqb w u.var other) j)

-- so clearing the shares and the unit's variable leaves none
pub none_again : (F : Cnf) (u : Unit) (table cleared : List (List ℤ)) → 1 ≤ u.var → u.var ≤ F.vars → AreUnitNumbers F u table → ClearsShares F u.shares table cleared → AreNone F.vars (slice_set cleared (u.var - 1) [])
none_again F u table cleared low high h c = record {
  size = length-set cleared (u.var - 1) [] ∙ c.size ∙ h.size;
  told = λ w first last. elim (cases_eq w u.var) [
    | inl same ↦
        ap (λ (k : ℕ). get_or (slice_set cleared (u.var - 1) []) (k - 1) []) same
        ∙ get_or-set_same cleared (u.var - 1) [] [] (omega (arith, low, high, c.size, h.size))
    | inr other ↦
        let apart : w - 1 ≢ u.var - 1 = λ e. other (omega (arith, e, low, first)) in
        get_or-set_other cleared (u.var - 1) (w - 1) [] [] apart ∙ c.cleared w first last
        ∙ elim (cases_Bool (is_shared F u.shares w)) [
          | inl there ↦ cond-true (is_shared F u.shares w) [] (numbers_of table w) there
          | inr gone ↦ cond-false (is_shared F u.shares w) [] (numbers_of table w) gone ∙ h.told w first last ∙ none_unit F u w gone other
        ]
  ];
}

-- THE TEST OF A UNIT

-- a variable of a share's clause that is out of balance
reached : (F : Cnf) (occurring : List Bool) (table : List (List ℤ)) (shares : List Share) → is_formula F ≡ true → is_unbalanced_share F occurring table shares ≡ true
    → (w : ℕ) × (1 ≤ w) × (w ≤ F.vars) × (is_unbalanced occurring table w ≡ true)
reached F occurring table [] form e = absurd (let f : ⊥ = cc in f)
reached F occurring table (s ∷ shares) form e = elim (or_true (is_unbalanced_clause occurring table (clause_at F s.pos)) (is_unbalanced_share F occurring table shares) e) [
  | inl here ↦
      let found = literal_passing (λ l. is_unbalanced occurring table (variable l)) (clause_at F s.pos) here in
      let b = and_true (nat_le 1 (variable found.0)) (nat_le (variable found.0) F.vars) (passes_each (is_literal F.vars) (clause_at F s.pos) found.0 (literals_of F s.pos form) found.1) in
      (variable found.0, leb-true 1 (variable found.0) b.0, leb-true (variable found.0) F.vars b.1, found.2)
  | inr later ↦ reached F occurring table shares form later
]

pub in_clause : (occurring : List Bool) (table : List (List ℤ)) (c : List ℤ) (w : ℕ) → mentions c w ≡ true → is_unbalanced occurring table w ≡ true → is_unbalanced_clause occurring table c ≡ true
in_clause occurring table [] w there e = absurd (let f : ⊥ = cc in f)
in_clause occurring table (l ∷ c) w there e = elim (or_true (variable l == w) (mentions c w) there) [
  | inl here ↦ or_left (is_unbalanced occurring table (variable l)) (is_unbalanced_clause occurring table c) (ap (is_unbalanced occurring table) (eqb-true (variable l) w here) ∙ e)
  | inr later ↦ or_right (is_unbalanced occurring table (variable l)) (is_unbalanced_clause occurring table c) (in_clause occurring table c w later e)
]

pub in_shares : (F : Cnf) (occurring : List Bool) (table : List (List ℤ)) (shares : List Share) (w : ℕ) → is_shared F shares w ≡ true → is_unbalanced occurring table w ≡ true → is_unbalanced_share F occurring table shares ≡ true
in_shares F occurring table [] w there e = absurd (let f : ⊥ = cc in f)
in_shares F occurring table (s ∷ shares) w there e = elim (or_true (mentions (clause_at F s.pos) w) (is_shared F shares w) there) [
  | inl here ↦ or_left (is_unbalanced_clause occurring table (clause_at F s.pos)) (is_unbalanced_share F occurring table shares) (in_clause occurring table (clause_at F s.pos) w here e)
  | inr later ↦ or_right (is_unbalanced_clause occurring table (clause_at F s.pos)) (is_unbalanced_share F occurring table shares) (in_shares F occurring table shares w later e)
]

-- so what is seen at the shares and at the unit's variable is what all variables show
pub balanced_is : (F : Cnf) (occurring : List Bool) (u : Unit) (table : List (List ℤ)) → is_formula F ≡ true → AreUnitNumbers F u table → 1 ≤ u.var → u.var ≤ F.vars
    → (is_unbalanced occurring table u.var || is_unbalanced_share F occurring table u.shares) ≡ list_any (λ w. is_in occurring w && is_nonzero (sum_of (unit_numbers F u w))) (variables_to F.vars)
balanced_is F occurring u table form h low high =
    let t : ℕ → Bool = λ w. is_in occurring w && is_nonzero (sum_of (unit_numbers F u w)) in
    let told : (w : ℕ) → 1 ≤ w → w ≤ F.vars → is_unbalanced occurring table w ≡ t w = λ w first last. ap (λ (xs : List ℤ). is_in occurring w && is_nonzero (sum_of xs)) (h.told w first last) in
    same_tests (is_unbalanced occurring table u.var || is_unbalanced_share F occurring table u.shares) (list_any t (variables_to F.vars))
    (λ e. elim (or_true (is_unbalanced occurring table u.var) (is_unbalanced_share F occurring table u.shares) e) [
      | inl own ↦ passes_among t (variables_to F.vars) u.var (in_variables F.vars u.var (low, high)) (sym (told u.var low high) ∙ own)
      | inr shared ↦ (let r = reached F occurring table u.shares form shared in passes_among t (variables_to F.vars) r.0 (in_variables F.vars r.0 (r.1, r.2)) (sym (told r.0 r.1 r.2) ∙ r.3))
    ])
    (λ e.
    let p = passing t (variables_to F.vars) e in
    let b = up_to_bounds F.vars p.0 p.1 in
    let there : is_unbalanced occurring table p.0 ≡ true = told p.0 b.0 b.1 ∙ p.2 in
    elim (cases_eq p.0 u.var) [
      | inl same ↦ or_left (is_unbalanced occurring table u.var) (is_unbalanced_share F occurring table u.shares) (ap (is_unbalanced occurring table) (sym same) ∙ there)
      | inr other ↦ elim (cases_Bool (is_shared F u.shares p.0)) [
        | inl shared ↦ or_right (is_unbalanced occurring table u.var) (is_unbalanced_share F occurring table u.shares) (in_shares F occurring table u.shares p.0 shared there)
        | inr gone ↦
            let nothing : is_nonzero (sum_of (unit_numbers F u p.0)) ≡ false = ap (λ (xs : List ℤ). is_nonzero (sum_of xs)) (none_unit F u p.0 gone other) in
            let some = and_true (is_in occurring p.0) (is_nonzero (sum_of (unit_numbers F u p.0))) p.2 in
            absurd (let f : ⊥ = cc (nothing, some.1) in f)
      ]
    ])

-- a unit that is not void is bad where a variable is out of balance
pub line_told : (F : Cnf) (kept occurring : List Bool) (u : Unit) (void bad : Bool) → void ≡ (is_zero u.d || list_any (λ (s : Share). not (is_flagged kept s.pos)) u.shares) → void ≡ false
    → bad ≡ list_any (λ w. is_in occurring w && is_nonzero (sum_of (unit_numbers F u w))) (variables_to F.vars) → bad ≡ is_bad_unit_line F kept occurring u
line_told F kept occurring u void bad is gone e = e ∙ ap (λ (b : Bool). b || list_any (λ w. is_in occurring w && is_nonzero (sum_of (unit_numbers F u w))) (variables_to F.vars)) (sym gone ∙ is)

-- ALL UNITS

pub unit_bounds : (n : ℕ) (units : List Unit) (i : ℕ) (u : Unit) → rises_within 0 n (map (λ (u : Unit). u.var) units) ≡ true → i < length units → u ≡ get_or units i u → (1 ≤ u.var) × (u.var ≤ n)
unit_bounds n units i u rising lt is =
    let b = rising_bounds 0 n (map (λ (w : Unit). w.var) units) i rising (omega (arith, lt, length-map units (λ (w : Unit). w.var))) in
    let at : get_or (map (λ (w : Unit). w.var) units) i 0 ≡ u.var = get_or-map (λ (w : Unit). w.var) units i u 0 lt ∙ ap (λ (w : Unit). w.var) (sym is) in
    (omega (arith, b.0, at), omega (arith, b.1, at))

-- and so of the unit of a number
pub numbered_bounds : (n : ℕ) (units : List Unit) (k : ℕ) (u : Unit) → rises_within 0 n (map (λ (u : Unit). u.var) units) ≡ true → 0 < k → k ≤ length units → u ≡ unit_numbered units k → (1 ≤ u.var) × (u.var ≤ n)
numbered_bounds n units k u rising low high is =
    let inside : k - 1 < length units = omega (arith, low, high) in
    unit_bounds n units (k - 1) u rising inside (is ∙ get_or_default units (k - 1) no_unit u inside)

-- what the definition asks of a unit in a place
abbrev asks : Cnf → List ℕ → ℕ → Unit → Bool
asks F kept v u = is_zero u.d || list_any (λ (s : Share). not (among kept s.pos)) u.shares
    || list_any (λ w. variable_occurs F kept w && not (int_eq (balance_in F (shares_at u) w) (cond (w == v) u.d (pos 0)))) (variables_to F.vars)

-- the flags of shares' positions
shares_kept : (m : ℕ) (kept : List ℕ) (flags : List Bool) (low : ℕ) (shares : List Share) → AreKeptFlags m kept flags → rises_within low m (map (λ (s : Share). s.pos) shares) ≡ true
    → list_any (λ (s : Share). not (is_flagged flags s.pos)) shares ≡ list_any (λ (s : Share). not (among kept s.pos)) shares
shares_kept m kept flags low [] k up = refl
shares_kept m kept flags low (s ∷ shares) k up =
    let r = rises low m s.pos (map (λ (t : Share). t.pos) shares) up in
    let here : is_flagged flags s.pos ≡ among kept s.pos = k.told s.pos (rw (le-leb 1 s.pos (omega (arith, r.above)), le-leb s.pos m r.within) refl) in
    (λ j. not (here j) || shares_kept m kept flags s.pos shares k r.more j)

-- a sum with a number taken off is not 0 where it is not the number
less_is : (b d : ℤ) → is_nonzero (b +ℤ (neg_ℤ d +ℤ pos 0)) ≡ not (int_eq b d)
less_is b d = ap not (same_tests (int_eq (pos 0) (b +ℤ (neg_ℤ d +ℤ pos 0))) (int_eq b d)
    (λ e. let z = (Decides-int_eq (pos 0) (b +ℤ (neg_ℤ d +ℤ pos 0))).0 e in (Decides-int_eq b d).1 (by_sum b d z))
    (λ e. let z = (Decides-int_eq b d).0 e in (Decides-int_eq (pos 0) (b +ℤ (neg_ℤ d +ℤ pos 0))).1 (to_sum b d z)))
  where
    by_sum : (b d : ℤ) → pos 0 ≡ b +ℤ (neg_ℤ d +ℤ pos 0) → b ≡ d
    by_sum b d z = omega (arith, ints)

    to_sum : (b d : ℤ) → b ≡ d → pos 0 ≡ b +ℤ (neg_ℤ d +ℤ pos 0)
    to_sum b d z = omega (arith, ints)

zero_is_less : (b : ℤ) → is_nonzero (b +ℤ pos 0) ≡ not (int_eq b (pos 0))
zero_is_less b = ap (λ (z : ℤ). is_nonzero (b +ℤ z)) refl ∙ less_is b (pos 0)

unit_sum : (F : Cnf) (u : Unit) (v w : ℕ) → is_formula F ≡ true → u.var ≡ v → is_nonzero (sum_of (unit_numbers F u w)) ≡ not (int_eq (balance_in F (shares_at u) w) (cond (w == v) u.d (pos 0)))
unit_sum F u v w form same = elim (cases_eq w v) [
  | inl here ↦
      let own : (w == u.var) ≡ true = eq-eqb w u.var (here ∙ sym same) in
      ap (λ (xs : List ℤ). is_nonzero (sum_of (numbers_at F (shares_at u) w ++ xs))) (cond-true (w == u.var) (neg_ℤ u.d ∷ []) [] own)
      ∙ ap is_nonzero (sum_append (numbers_at F (shares_at u) w) (neg_ℤ u.d ∷ []) ∙ ap (λ (z : ℤ). z +ℤ (neg_ℤ u.d +ℤ pos 0)) (balance_sum F (shares_at u) w form))
      ∙ less_is (balance_in F (shares_at u) w) u.d
      ∙ sym (ap (λ (z : ℤ). not (int_eq (balance_in F (shares_at u) w) z)) (cond-true (w == v) u.d (pos 0) (eq-eqb w v here)))
  | inr other ↦
      let gone : (w == u.var) ≡ false = ne_eqb w u.var (λ e. other (e ∙ same)) in
      ap (λ (xs : List ℤ). is_nonzero (sum_of (numbers_at F (shares_at u) w ++ xs))) (cond-false (w == u.var) (neg_ℤ u.d ∷ []) [] gone)
      ∙ ap is_nonzero (sum_append (numbers_at F (shares_at u) w) [] ∙ ap (λ (z : ℤ). z +ℤ pos 0) (balance_sum F (shares_at u) w form))
      ∙ zero_is_less (balance_in F (shares_at u) w)
      ∙ sym (ap (λ (z : ℤ). not (int_eq (balance_in F (shares_at u) w) z)) (cond-false (w == v) u.d (pos 0) (ne_eqb w v other)))
]

-- tests that agree in a range
any_agree : (s t : ℕ → Bool) (a n : ℕ) → ((w : ℕ) → a ≤ w → w < a + n → s w ≡ t w) → list_any s (range_with_len a n) ≡ list_any t (range_with_len a n)
any_agree s t a zero same = refl
any_agree s t a (suc n) same =
    (λ j. same a (omega arith) (omega arith) j || any_agree s t (a + 1) n (λ w low high. same w (omega (arith, low)) (omega (arith, high))) j)

-- so the line tells what is asked
line_asks : (F : Cnf) (kept : List ℕ) (flags occurring : List Bool) (u : Unit) (v : ℕ) → is_formula F ≡ true → AreKeptFlags (length F.clauses) kept flags → AreOccurring F kept occurring → is_linear_unit (length F.clauses) u ≡ true → u.var ≡ v
    → is_bad_unit_line F flags occurring u ≡ asks F kept v u
line_asks F kept flags occurring u v form k o unit same =
    let shares = shares_kept (length F.clauses) kept flags 0 u.shares k (unit_form (length F.clauses) u unit).rising in
    let variables = any_agree (λ w. is_in occurring w && is_nonzero (sum_of (unit_numbers F u w))) (λ w. variable_occurs F kept w && not (int_eq (balance_in F (shares_at u) w) (cond (w == v) u.d (pos 0)))) 1 F.vars
    (λ w low high. (λ j. o.told w low (omega (arith, high)) j && unit_sum F u v w form same j)) in
    (λ j. is_zero u.d || shares j || variables j)

unit_var : (units : List Unit) (v : ℕ) (u : Unit) → unit_of units v ≡ Some u → u.var ≡ v
unit_var [] v u e = absurd (let f : ⊥ = cc in f)
unit_var (x ∷ units) v u e = elim (cases_Bool (x.var == v)) [
  | inl there ↦ (let same : x ≡ u = cc (rw there at e) in ap (λ (w : Unit). w.var) (sym same) ∙ eqb-true x.var v there)
  | inr gone ↦ unit_var units v u (rw gone at e)
]

line_told_by : (F : Cnf) (kept : List ℕ) (flags occurring : List Bool) (units : List Unit) (v : ℕ) (o : Option Unit) → is_formula F ≡ true → AreKeptFlags (length F.clauses) kept flags → AreOccurring F kept occurring
    → list_all (is_linear_unit (length F.clauses)) units ≡ true → unit_of units v ≡ o
    → line_fails (variable_occurs F kept v) o (is_bad_unit_line F flags occurring) ≡ line_fails (variable_occurs F kept v) o (asks F kept v)
line_told_by F kept flags occurring units v None form k o all is = refl
line_told_by F kept flags occurring units v (Some u) form k o all is =
    ap (λ (b : Bool). not (variable_occurs F kept v) || b) (line_asks F kept flags occurring u v form k o (found_passes (is_linear_unit (length F.clauses)) (λ (x : Unit). x.var == v) units u all is) (unit_var units v u is))

pub unit_found : (F : Cnf) (d : DoneDocument) (units : List Unit) (flags occurring : List Bool) (table : List ℕ) → is_formula F ≡ true → AreKeptFlags (length F.clauses) d.kept flags → AreOccurring F d.kept occurring
    → list_all (is_linear_unit (length F.clauses)) units ≡ true → AreUnitPlaces F.vars units table → find (is_bad_unit F flags occurring units table) (variables_to F.vars) ≡ (bad_unit no_variable F d units).place
unfolding bad_unit
unit_found F d units flags occurring table form k o all t =
    find_to F.vars (is_bad_unit F flags occurring units table) (λ v. line_fails (variable_occurs F d.kept v) (unit_of units v) (asks F d.kept v)) (λ v low high.
    (λ j. line_fails (o.told v low high j) (line_is F.vars units table v t low high j) (is_bad_unit_line F flags occurring)) ∙ line_told_by F d.kept flags occurring units v (unit_of units v) form k o all refl)
