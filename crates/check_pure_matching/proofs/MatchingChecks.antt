-- What the tables of a matching document tell of its checks.
use Rattle.std.proofs.Common.{◌≡◌, ◌≢◌, ◌∙◌, ℕ, ◌+◌, ◌-◌, ◌^◌, ◌<◌, ◌≤◌, Bool, true, false, cond, not, ◌&&◌, ◌||◌, List, [], ◌∷◌, length, get_or, take, drop, map, max, refl, sym, ap, subst, arith, ℤ, Option, Some, None, inl, inr, get_or-set_same, get_or-set_other}
use Rattle.std.specs.Prelude.{find, replicate, slice_set, ◌==◌, nat_lt, nat_le}
use Rattle.std.specs.List.{list_any, list_all}
use Rattle.std.specs.Option.{option_map_or}
use Rattle.std.proofs.lemmas.Bool.{cases_Bool, cases_eq, cond-true, cond-false, eq-eqb, ne_eqb, leb-true, le-leb, ltb-true, lt-ltb, ltb-false, le-ltb}
use Rattle.std.proofs.lemmas.List.{get_or-replicate, get_or-map, length-map, length-replicate, length-set, drop_more}
use Rattle.std.proofs.lemmas.List.Folds.{list_any_more}
use Rattle.std.proofs.Math.Bool.{or_assoc}
use Rattle.lk_model.specs.Lists.{among, is_between, rises_within}
use Rattle.lk_model.specs.Formulas.Literal.{variable, mentions}
use Rattle.lk_model.specs.Formulas.Formula.{Cnf, clause_at, positions_of, variable_occurs, variables_to}
use Rattle.lk_model.specs.Formulas.Crossed.{no_variable}
use Rattle.lk_model.specs.Formulas.Assignment.{Assignment, assignment_of}
use Rattle.lk_model.specs.Held.VariableSets.{is_in}
use Rattle.lk_model.specs.Documents.Documents.{own_of, row_of}
use Rattle.lk_model.specs.Documents.Form.{are_own, are_rows, is_match_row}
use Rattle.lk_model.specs.Checks.Check.{line_fails, is_kept_with}
use Rattle.lk_model.specs.Checks.MatchingChecks.{owner_fails, bad_owner, row_fails, bad_row}
use Rattle.lk_model.specs.declared.document.Own.{Own}
use Rattle.lk_model.specs.declared.document.MatchRow.{MatchRow}
use Rattle.lk_model.specs.declared.document.DoneDocument.{DoneDocument}
use Rattle.lk_model.proofs.Booleans.{and_true, same_tests}
use Rattle.lk_model.proofs.ListTests.{all_at}
use Rattle.lk_model.proofs.Rising.{rising_bounds}
use Rattle.check_tables.specs.Flags.{is_flagged, AreKeptFlags}
use Rattle.check_tables.specs.Occurring.{AreOccurring}
use Rattle.check_pure_matching.specs.Matching.{AreOwners, AreFirstOwners, AreRows, AreFirstRows, AreRankBounds, AreNamedThere, NotesNamed, rank_bound, row_in, has_own, has_escape, is_bad_row}
use Rattle.check_places.specs.Places.{holds_true, is_bad_owner}
use Rattle.check_tables.proofs.FirstTables.{earlier_is, found_passes, map_same}
use Rattle.check_tables.proofs.KeptFlags.{find_to}
use Rattle.check_pure_matching.proofs.PairTables.{shown_is}

-- WHAT THE FORM SAYS OF A LINE

-- its position and its variable are those of the formula
pub record IsOwnWithin (n m : ℕ) (o : Own) : Type 0 where
  pub pos_first : 1 ≤ o.pos
  pub pos_last : o.pos ≤ m
  pub var_first : 1 ≤ o.var
  pub var_last : o.var ≤ n

pub own_within : (n m : ℕ) (own : List Own) (i : ℕ) (d : Own) → are_own n m own ≡ true → i < length own → IsOwnWithin n m (get_or own i d)
own_within n m own i d form lt =
    let both = and_true (rises_within 0 m (map (λ (o : Own). o.pos) own)) (list_all (λ (o : Own). is_between 1 n o.var) own) form in
    let b = rising_bounds 0 m (map (λ (o : Own). o.pos) own) i both.0 (omega (arith, lt, length-map own (λ (o : Own). o.pos))) in
    let at = get_or-map (λ (o : Own). o.pos) own i d 0 lt in
    let var = and_true (nat_le 1 (get_or own i d).var) (nat_le (get_or own i d).var n) (all_at (λ (o : Own). is_between 1 n o.var) own i d both.1 lt) in
    record {
      pos_first = omega (arith, b.0, at);
      pos_last = omega (arith, b.1, at);
      var_first = leb-true 1 (get_or own i d).var var.0;
      var_last = leb-true (get_or own i d).var n var.1;
    }

-- its variable, own position and escape are those of the formula
pub record IsRowWithin (n m : ℕ) (r : MatchRow) : Type 0 where
  pub var_first : 1 ≤ r.var
  pub var_last : r.var ≤ n
  pub own_first : 1 ≤ r.own
  pub own_last : r.own ≤ m

row_parts : (m : ℕ) (r : MatchRow) → is_match_row m r ≡ true → (is_between 1 m r.own ≡ true) × (is_between 1 m r.escape ≡ true)
row_parts m r form =
    let a = and_true (is_between 1 m r.own && is_between 1 m r.escape) (nat_lt r.rank (2 ^ 32)) form in
    and_true (is_between 1 m r.own) (is_between 1 m r.escape) a.0

between : (m p : ℕ) → is_between 1 m p ≡ true → (1 ≤ p) × (p ≤ m)
between m p e = let b = and_true (nat_le 1 p) (nat_le p m) e in (leb-true 1 p b.0, leb-true p m b.1)

pub row_within : (n m : ℕ) (rows : List MatchRow) (i : ℕ) (d : MatchRow) → are_rows n m rows ≡ true → i < length rows → IsRowWithin n m (get_or rows i d)
row_within n m rows i d form lt =
    let both = and_true (rises_within 0 n (map (λ (r : MatchRow). r.var) rows)) (list_all (is_match_row m) rows) form in
    let b = rising_bounds 0 n (map (λ (r : MatchRow). r.var) rows) i both.0 (omega (arith, lt, length-map rows (λ (r : MatchRow). r.var))) in
    let at = get_or-map (λ (r : MatchRow). r.var) rows i d 0 lt in
    let own = between m (get_or rows i d).own (row_parts m (get_or rows i d) (all_at (is_match_row m) rows i d both.1 lt)).0 in
    record { var_first = omega (arith, b.0, at); var_last = omega (arith, b.1, at); own_first = own.0; own_last = own.1 }

-- OWN LINES

-- what the tables of the own lines say
pub record AreOwnerTables (F : Cnf) (d : DoneDocument) (own : List Own) (φ : Assignment) (kept : List Bool) (owners first : List ℕ) : Type 0 where
  pub values : φ ≡ assignment_of d.set
  pub kept_so : AreKeptFlags (length F.clauses) d.kept kept
  pub owners_so : AreOwners (length F.clauses) own owners
  pub first_so : AreFirstOwners F.vars (length F.clauses) own first

not_not : (b : Bool) → not (not b) ≡ b
not_not true = refl
not_not false = refl

-- what is bad of an own line by the check
abbrev is_bad_line : Cnf → DoneDocument → List Own → ℕ → Own → Bool
is_bad_line F d own p o = not (holds_true (assignment_of d.set) o.var (clause_at F p)) || list_any (λ (earlier : Own). nat_lt earlier.pos p && earlier.var == o.var) own

-- they tell whether a position fails
owner_told : (F : Cnf) (d : DoneDocument) (own : List Own) (φ : Assignment) (kept : List Bool) (owners first : List ℕ) (p : ℕ) (o : Option Own) → AreOwnerTables F d own φ kept owners first
    → are_own F.vars (length F.clauses) own ≡ true → 1 ≤ p → p ≤ length F.clauses → own_of own p ≡ o → is_bad_owner φ kept owners first p (clause_at F p) ≡ owner_fails F d own p
owner_told F d own φ kept owners first p None t form low high is =
    let is_kept : is_flagged kept p ≡ among d.kept p = t.kept_so.told p (rw (le-leb 1 p low, le-leb p (length F.clauses) high) refl) in
    let none : get_or owners (p - 1) 0 ≡ 0 = t.owners_so.told p low high ∙ ap (λ (q : Option Own). option_map_or (λ (o : Own). o.var) q 0) is in
    cond-true (get_or owners (p - 1) 0 == 0) _ _ (eq-eqb (get_or owners (p - 1) 0) 0 none)
    ∙ ap not is_kept
    ∙ sym (ap (λ (q : Option Own). line_fails (not (among d.kept p)) q (is_bad_line F d own p)) is)
owner_told F d own φ kept owners first p (Some o) t form low high is =
    let m : ℕ = length F.clauses in
    let c : List ℤ = clause_at F p in
    let both = and_true (rises_within 0 m (map (λ (o : Own). o.pos) own)) (list_all (λ (o : Own). is_between 1 F.vars o.var) own) form in
    let var = between F.vars o.var (found_passes (λ (o : Own). is_between 1 F.vars o.var) (λ (o : Own). o.pos == p) own o both.1 is) in
    let is_kept : is_flagged kept p ≡ among d.kept p = t.kept_so.told p (rw (le-leb 1 p low, le-leb p m high) refl) in
    let some : get_or owners (p - 1) 0 ≡ o.var = t.owners_so.told p low high ∙ ap (λ (q : Option Own). option_map_or (λ (o : Own). o.var) q 0) is in
    let found : get_or first (o.var - 1) 0 ≡ option_map_or (λ (o : Own). o.pos) (find (λ (x : Own). x.var == o.var) own) m = t.first_so.told o.var var.0 var.1 in
    let earlier : nat_lt (get_or first (o.var - 1) 0) p ≡ list_any (λ (x : Own). nat_lt x.pos p && x.var == o.var) own =
    ap (λ (k : ℕ). nat_lt k p) found ∙ sym (earlier_is (λ (o : Own). o.pos) (λ (o : Own). o.var) 0 m own o.var p m both.0 high) in
    ap (λ (v : ℕ). cond (v == 0) (not (is_flagged kept p)) ((is_flagged kept p || not (holds_true φ v c)) || nat_lt (get_or first (v - 1) 0) p)) some
    ∙ cond-false (o.var == 0) _ _ (ne_eqb o.var 0 (λ e. absurd (omega (arith, e, var.0))))
    ∙ (λ j. (is_kept j || not (holds_true (t.values j) o.var c)) || earlier j)
    ∙ or_assoc (among d.kept p) (not (holds_true (assignment_of d.set) o.var c)) (list_any (λ (x : Own). nat_lt x.pos p && x.var == o.var) own)
    ∙ ap (λ (b : Bool). b || is_bad_line F d own p o) (sym (not_not (among d.kept p)))
    ∙ sym (ap (λ (q : Option Own). line_fails (not (among d.kept p)) q (is_bad_line F d own p)) is)

-- so by them the first bad position is found
pub owner_found : (F : Cnf) (d : DoneDocument) (own : List Own) (φ : Assignment) (kept : List Bool) (owners first : List ℕ) → AreOwnerTables F d own φ kept owners first → are_own F.vars (length F.clauses) own ≡ true
    → find (λ p. is_bad_owner φ kept owners first p (clause_at F p)) (positions_of F) ≡ (bad_owner F d own).place
unfolding bad_owner
owner_found F d own φ kept owners first t form =
    find_to (length F.clauses) (λ p. is_bad_owner φ kept owners first p (clause_at F p)) (λ p. owner_fails F d own p)
    (λ p low high. owner_told F d own φ kept owners first p (own_of own p) t form low high refl)

-- RANKS

at_most : (a b c : ℕ) → (not (nat_lt a b) || nat_lt b c) ≡ nat_lt b (max c (a + 1))
at_most a b c = elim (cases_Bool (nat_lt a b)) [
  | inl y ↦
      let less = ltb-true a b y in
      rw y (same_tests (nat_lt b c) (nat_lt b (max c (a + 1)))
      (λ e. lt-ltb b (max c (a + 1)) (omega (arith, ltb-true b c e)))
      (λ e. lt-ltb b c (omega (arith, less, ltb-true b (max c (a + 1)) e))))
  | inr n ↦ rw n (sym (lt-ltb b (max c (a + 1)) (omega (arith, ltb-false a b n))))
]

-- a row with this own position has no lower rank exactly where the rank is below the bound
pub bounded_is : (rows : List MatchRow) (p rank : ℕ) → list_any (λ (w : MatchRow). w.own == p && not (nat_lt w.rank rank)) rows ≡ nat_lt rank (rank_bound rows p)
bounded_is [] p rank = sym (le-ltb rank 0 (omega arith))
bounded_is (w ∷ rows) p rank = elim (cases_Bool (w.own == p)) [
  | inl y ↦ rw (y, bounded_is rows p rank) (at_most w.rank rank (rank_bound rows p))
  | inr n ↦ rw n (bounded_is rows p rank)
]

-- no bound at first
pub bounds_none : (m : ℕ) (table : List ℕ) → table ≡ replicate m 0 → AreRankBounds m [] table
bounds_none m table e = record {
  size_is = ap length e ∙ length-replicate m 0;
  told = λ p low high. ap (λ (t : List ℕ). get_or t (p - 1) 0) e ∙ get_or-replicate m (p - 1) 0 0 (omega (arith, low, high));
}

-- one row more before the others
pub bounds_more : (m : ℕ) (rows : List MatchRow) (i j : ℕ) (d : MatchRow) (table : List ℕ) (bound : ℕ) → j ≡ i + 1 → i < length rows → 1 ≤ (get_or rows i d).own → (get_or rows i d).own ≤ m
    → bound ≡ max (get_or table ((get_or rows i d).own - 1) 0) ((get_or rows i d).rank + 1) → AreRankBounds m (drop j rows) table
    → AreRankBounds m (drop i rows) (slice_set table ((get_or rows i d).own - 1) bound)
bounds_more m rows i j d table bound next lt low high is h =
    let r : MatchRow = get_or rows i d in
    let rest : List MatchRow = drop j rows in
    subst (λ (rs : List MatchRow). AreRankBounds m rs (slice_set table (r.own - 1) bound)) (sym (drop_more rows i d lt ∙ ap (λ (k : ℕ). r ∷ drop k rows) (sym next))) (record {
      size_is = length-set table (r.own - 1) bound ∙ h.size_is;
      told = λ p first last. elim (cases_eq r.own p) [
        | inl same ↦
            let at : p - 1 ≡ r.own - 1 = omega (arith, same) in
            let before : get_or table (r.own - 1) 0 ≡ rank_bound rest p = ap (λ (k : ℕ). get_or table (k - 1) 0) same ∙ h.told p first last in
            ap (λ (j : ℕ). get_or (slice_set table (r.own - 1) bound) j 0) at
            ∙ get_or-set_same table (r.own - 1) bound 0 (omega (arith, low, high, h.size_is))
            ∙ is ∙ ap (λ (b : ℕ). max b (r.rank + 1)) before
            ∙ sym (cond-true (r.own == p) (max (rank_bound rest p) (r.rank + 1)) (rank_bound rest p) (eq-eqb r.own p same))
        | inr other ↦
            let apart : p - 1 ≢ r.own - 1 = λ e. other (omega (arith, e, low, first)) in
            get_or-set_other table (r.own - 1) (p - 1) bound 0 apart ∙ h.told p first last
            ∙ sym (cond-false (r.own == p) (max (rank_bound rest p) (r.rank + 1)) (rank_bound rest p) (ne_eqb r.own p other))
      ];
    })

-- A CLAUSE THAT IS NOTED

own_step : (b s m : Bool) → ((b || (s && m)) || (s && true)) ≡ (b || (s && (m || true)))
own_step true s m = refl
own_step false false m = refl
own_step false true true = refl
own_step false true false = refl

other_step : (b s r m : Bool) → ((b || (s && m)) || (r && false)) ≡ (b || (s && (m || false)))
other_step true s r m = refl
other_step false false true m = refl
other_step false false false m = refl
other_step false true true true = refl
other_step false true true false = refl
other_step false true false true = refl
other_step false true false false = refl

-- one literal more of it
pub noted_more : (n : ℕ) (clause : List ℤ) (i : ℕ) (d : ℤ) (position : ℕ) (table : List (Option MatchRow)) (names : Option MatchRow → ℕ → Bool) (before mid after : List Bool) (v : ℕ) → i < length clause → v ≡ variable (get_or clause i d)
    → NotesNamed n (take i clause) position table names before mid → length after ≡ length mid → ((k : ℕ) → is_in after k ≡ (is_in mid k || (names (row_in table v) position && v == k)))
    → NotesNamed n (take (i + 1) clause) position table names before after
noted_more n clause i d position table names before mid after v lt is h size added = record {
  size = size ∙ h.size;
  noted = λ k low high.
      let more : mentions (take (i + 1) clause) k ≡ (mentions (take i clause) k || v == k) =
      list_any_more (λ (l : ℤ). variable l == k) clause i d lt ∙ ap (λ (w : ℕ). mentions (take i clause) k || w == k) (sym is) in
      added k ∙ ap (λ (b : Bool). b || (names (row_in table v) position && v == k)) (h.noted k low high) ∙ at_variable k
      ∙ sym (ap (λ (b : Bool). is_in before k || (names (row_in table k) position && b)) more);
}
  where
    at_variable : (k : ℕ) → ((is_in before k || (names (row_in table k) position && mentions (take i clause) k)) || (names (row_in table v) position && v == k))
        ≡ (is_in before k || (names (row_in table k) position && (mentions (take i clause) k || v == k)))
    at_variable k = elim (cases_eq v k) [
      | inl same ↦
          ap (λ (w : ℕ). (is_in before k || (names (row_in table k) position && mentions (take i clause) k)) || (names (row_in table w) position && v == k)) same
          ∙ rw (eq-eqb v k same) (own_step (is_in before k) (names (row_in table k) position) (mentions (take i clause) k))
      | inr other ↦ rw (ne_eqb v k other) (other_step (is_in before k) (names (row_in table k) position) (names (row_in table v) position) (mentions (take i clause) k))
    ]

-- ROWS

-- what the tables of the rows say
pub record AreRowTables (F : Cnf) (kept : List ℕ) (rows : List MatchRow) (table : List (Option MatchRow)) (first bounds : List ℕ) (occurring own escape : List Bool) : Type 0 where
  pub table_so : AreRows F.vars rows table
  pub first_so : AreFirstRows (length F.clauses) F.vars rows first
  pub bounds_so : AreRankBounds (length F.clauses) rows bounds
  pub occurring_so : AreOccurring F kept occurring
  pub own_so : AreNamedThere F kept table has_own own
  pub escape_so : AreNamedThere F kept table has_escape escape

-- what is bad of a row by the check
abbrev is_bad_by : Cnf → List ℕ → List MatchRow → ℕ → MatchRow → Bool
is_bad_by F kept rows v r =
    not (is_kept_with F kept r.own (λ c. mentions c v)) || not (is_kept_with F kept r.escape (λ c. mentions c v))
    || list_any (λ (x : MatchRow). nat_lt x.var v && x.own == r.own) rows || list_any (λ (w : MatchRow). w.own == r.escape && not (nat_lt w.rank r.rank)) rows

-- and by the tables
abbrev is_bad_in : List ℕ → List ℕ → List Bool → List Bool → ℕ → MatchRow → Bool
is_bad_in first bounds own escape v r = not (is_in own v) || not (is_in escape v) || nat_lt (get_or first (r.own - 1) 0) v || nat_lt r.rank (get_or bounds (r.escape - 1) 0)

row_is : (F : Cnf) (kept : List ℕ) (rows : List MatchRow) (table : List (Option MatchRow)) (first bounds : List ℕ) (occurring own escape : List Bool) (v : ℕ)
    → AreRowTables F kept rows table first bounds occurring own escape → 1 ≤ v → v ≤ F.vars → row_in table v ≡ row_of rows v
row_is F kept rows table first bounds occurring own escape v t low high = t.table_so.told v low high ∙ map_same (row_of rows v)

-- they tell whether a row is bad
bad_row_told : (F : Cnf) (kept : List ℕ) (rows : List MatchRow) (table : List (Option MatchRow)) (first bounds : List ℕ) (occurring own escape : List Bool) (v : ℕ) (r : MatchRow)
    → AreRowTables F kept rows table first bounds occurring own escape → are_rows F.vars (length F.clauses) rows ≡ true → 1 ≤ v → v ≤ F.vars → row_of rows v ≡ Some r
    → is_bad_in first bounds own escape v r ≡ is_bad_by F kept rows v r
bad_row_told F kept rows table first bounds occurring own escape v r t form low high is =
    let m : ℕ = length F.clauses in
    let both = and_true (rises_within 0 F.vars (map (λ (r : MatchRow). r.var) rows)) (list_all (is_match_row m) rows) form in
    let parts = row_parts m r (found_passes (is_match_row m) (λ (x : MatchRow). x.var == v) rows r both.1 is) in
    let own_at = between m r.own parts.0 in
    let escape_at = between m r.escape parts.1 in
    let there : row_in table v ≡ Some r = row_is F kept rows table first bounds occurring own escape v t low high ∙ is in
    let own_is : is_in own v ≡ is_kept_with F kept r.own (λ c. mentions c v) =
    t.own_so.told v low high ∙ ap (λ (o : Option MatchRow). list_any (λ p. has_own o p && mentions (clause_at F p) v) kept) there ∙ shown_is (λ (p : ℕ). mentions (clause_at F p) v) kept r.own in
    let escape_is : is_in escape v ≡ is_kept_with F kept r.escape (λ c. mentions c v) =
    t.escape_so.told v low high ∙ ap (λ (o : Option MatchRow). list_any (λ p. has_escape o p && mentions (clause_at F p) v) kept) there ∙ shown_is (λ (p : ℕ). mentions (clause_at F p) v) kept r.escape in
    let first_is : nat_lt (get_or first (r.own - 1) 0) v ≡ list_any (λ (x : MatchRow). nat_lt x.var v && x.own == r.own) rows =
    ap (λ (k : ℕ). nat_lt k v) (t.first_so.told r.own own_at.0 own_at.1) ∙ sym (earlier_is (λ (x : MatchRow). x.var) (λ (x : MatchRow). x.own) 0 F.vars rows r.own v F.vars both.0 high) in
    let bound_is : nat_lt r.rank (get_or bounds (r.escape - 1) 0) ≡ list_any (λ (w : MatchRow). w.own == r.escape && not (nat_lt w.rank r.rank)) rows =
    ap (λ (k : ℕ). nat_lt r.rank k) (t.bounds_so.told r.escape escape_at.0 escape_at.1) ∙ sym (bounded_is rows r.escape r.rank) in
    λ j. not (own_is j) || not (escape_is j) || first_is j || bound_is j

-- and so whether a variable fails
row_told : (F : Cnf) (d : DoneDocument) (rows : List MatchRow) (table : List (Option MatchRow)) (first bounds : List ℕ) (occurring own escape : List Bool) (v : ℕ) (o : Option MatchRow)
    → AreRowTables F d.kept rows table first bounds occurring own escape → are_rows F.vars (length F.clauses) rows ≡ true → 1 ≤ v → v ≤ F.vars → row_of rows v ≡ o
    → is_bad_row table first bounds occurring own escape v ≡ row_fails no_variable F d rows v
row_told F d rows table first bounds occurring own escape v None t form low high is =
    ap (λ (q : Option MatchRow). line_fails (is_in occurring v) q (is_bad_in first bounds own escape v)) (row_is F d.kept rows table first bounds occurring own escape v t low high ∙ is)
    ∙ t.occurring_so.told v low high
    ∙ sym (ap (λ (q : Option MatchRow). line_fails (variable_occurs F d.kept v) q (is_bad_by F d.kept rows v)) is)
row_told F d rows table first bounds occurring own escape v (Some r) t form low high is =
    let bad = bad_row_told F d.kept rows table first bounds occurring own escape v r t form low high is in
    let occurs = t.occurring_so.told v low high in
    ap (λ (q : Option MatchRow). line_fails (is_in occurring v) q (is_bad_in first bounds own escape v)) (row_is F d.kept rows table first bounds occurring own escape v t low high ∙ is)
    ∙ (λ j. not (occurs j) || bad j)
    ∙ sym (ap (λ (q : Option MatchRow). line_fails (variable_occurs F d.kept v) q (is_bad_by F d.kept rows v)) is)

-- so by them the first bad variable is found
pub row_found : (F : Cnf) (d : DoneDocument) (rows : List MatchRow) (table : List (Option MatchRow)) (first bounds : List ℕ) (occurring own escape : List Bool)
    → AreRowTables F d.kept rows table first bounds occurring own escape → are_rows F.vars (length F.clauses) rows ≡ true
    → find (is_bad_row table first bounds occurring own escape) (variables_to F.vars) ≡ (bad_row no_variable F d rows).place
unfolding bad_row
row_found F d rows table first bounds occurring own escape t form =
    find_to F.vars (is_bad_row table first bounds occurring own escape) (row_fails no_variable F d rows)
    (λ v low high. row_told F d rows table first bounds occurring own escape v (row_of rows v) t form low high refl)
