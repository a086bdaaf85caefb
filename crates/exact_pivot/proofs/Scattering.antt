-- Entries of a row that come one after another, clause by clause.
use Rattle.std.proofs.Common.{◌≡◌, ◌≢◌, ℕ, zero, suc, ◌+◌, ◌-◌, ◌<◌, ◌≤◌, Bool, true, false, ◌||◌, cond, List, [], ◌∷◌, ◌++◌, map, take, length, get_or, ℤ, pos, negsuc, ◌+ℤ◌, ◌-ℤ◌, ◌⊎◌, inl, inr, refl, sym, ap, ◌∙◌, subst, arith, get_or-set_same, get_or-set_other}
use Rattle.std.specs.Prelude.{slice_set}
use Rattle.std.specs.List.{All}
use Rattle.std.specs.Ordering.{int_eq}
use Rattle.std.proofs.lemmas.Bool.{cases_eq}
use Rattle.std.proofs.lemmas.List.{length-set, length-map, length-take-le, take_more, map_more, get_or_read}
use Rattle.std.proofs.lemmas.List.Elements.{All-from_get_or}
use Rattle.lk_model.specs.Lists.{is_zero, is_nonzero, rises_within}
use Rattle.lk_model.specs.Formulas.Literal.{variable, complement, contains, is_literal, is_clause}
use Rattle.lk_model.specs.Formulas.Formula.{Cnf, clause_at}
use Rattle.lk_model.specs.Formulas.Balance.{incidence}
use Rattle.lk_model.proofs.Booleans.{and_true}
use Rattle.lk_model.proofs.Flags.{contains-push, same_false, push_other as contains_other, contains_here}
use Rattle.lk_model.proofs.Literals.{literal_at, new_at, variable_negative}
use Rattle.lk_model.proofs.Ranks.{literal_bounds}
use Rattle.lk_model.proofs.Rising.{rises}
use Rattle.exact_rows.specs.declared.sparse.Entry.{Entry}
use Rattle.exact_rows.specs.Sparse.{entries_of}
use Rattle.exact_rows.proofs.Entries.{columns_of, entries_behind, entries_rise}
use Rattle.exact_pivot.specs.Scattered.{with_number, last_column, unit_of, AreIncidences, AddsClause}

-- THE ENTRIES OF LONGER ROWS

pub behind_append : (low : ℕ) (xs ys : List ℤ) → entries_behind low (xs ++ ys) ≡ entries_behind low xs ++ entries_behind (low + length xs) ys
behind_append low [] ys = ap (λ k. entries_behind k ys) (let same : low ≡ low + 0 = omega arith in same)
behind_append low (x ∷ xs) ys = at_test (is_nonzero x) refl (behind_append (low + 1) xs ys ∙ ap (λ k. entries_behind (low + 1) xs ++ entries_behind k ys) (let same : low + 1 + length xs ≡ low + suc (length xs) = omega arith in same))
  where
    at_test : (b : Bool) → is_nonzero x ≡ b → entries_behind (low + 1) (xs ++ ys) ≡ entries_behind (low + 1) xs ++ entries_behind (low + suc (length xs)) ys
        → entries_behind low (x ∷ xs ++ ys) ≡ entries_behind low (x ∷ xs) ++ entries_behind (low + suc (length xs)) ys
    at_test true t later = rw t (ap (λ es. record { column = low + 1; value = x } ∷ es) later)
    at_test false t later = rw t later

-- one number more
pub one_behind : (low : ℕ) (x : ℤ) → entries_behind low (x ∷ []) ≡ with_number [] (low + 1) x
one_behind low x = at_test (is_zero x) refl
  where
    at_test : (b : Bool) → is_zero x ≡ b → entries_behind low (x ∷ []) ≡ with_number [] (low + 1) x
    at_test true t = rw t refl
    at_test false t = rw t refl

pub with_append : (es : List Entry) (k : ℕ) (x : ℤ) → es ++ with_number [] k x ≡ with_number es k x
with_append es k x = at_test (is_zero x) refl
  where
    none : (ds : List Entry) → ds ++ [] ≡ ds
    none [] = refl
    none (d ∷ ds) = ap (λ cs. d ∷ cs) (none ds)

    at_test : (b : Bool) → is_zero x ≡ b → es ++ with_number [] k x ≡ with_number es k x
    at_test true t = rw t (none es)
    at_test false t = rw t refl

pub entries_more : (xs : List ℤ) (x : ℤ) (k : ℕ) → k ≡ length xs + 1 → entries_of (xs ++ x ∷ []) ≡ with_number (entries_of xs) k x
entries_more xs x k e =
    let place : 0 + length xs + 1 ≡ k = omega (arith, e) in
    behind_append 0 xs (x ∷ []) ∙ ap (λ es. entries_of xs ++ es) (one_behind (0 + length xs) x ∙ ap (λ n. with_number [] n x) place) ∙ with_append (entries_of xs) k x

-- THE LAST COLUMN

column_most : (low high : ℕ) (es : List Entry) (i : ℕ) → rises_within low high (columns_of es) ≡ true → (get_or es i (record { column = 0; value = pos 0 })).column ≤ high
column_most low high [] i r = omega arith
column_most low high (e ∷ es) zero r = (rises low high e.column (columns_of es) r).within
column_most low high (e ∷ es) (suc i) r = column_most e.column high es i (rises low high e.column (columns_of es) r).more

pub last_within : (xs : List ℤ) → last_column (entries_of xs) ≤ length xs
last_within xs = (let most = column_most 0 (0 + length xs) (entries_of xs) (length (entries_of xs) - 1) (entries_rise 0 xs) in omega (arith, most))

-- ONE CLAUSE

or_false : (b d : Bool) → d ≡ false → (b || (d || false)) ≡ b
or_false true d e = refl
or_false false d e = rw e refl

pub incidence_other : (xs : List ℤ) (l : ℤ) (v : ℕ) → v ≢ variable l → incidence (xs ++ l ∷ []) v ≡ incidence xs v
incidence_other xs l v h =
    let first = contains_other xs l (pos v) h in
    let second = contains_other xs l (complement (pos v)) (λ e. h (sym (variable_negative v) ∙ e)) in
    λ i. cond (first i) (pos 1) (pos 0) -ℤ cond (second i) (pos 1) (pos 0)

-- a literal that is new adds 1 or -1, to 0 or so that it becomes 0
pub record Adds (xs : List ℤ) (l : ℤ) : Type 0 where
  pub sum : incidence (xs ++ l ∷ []) (variable l) ≡ incidence xs (variable l) +ℤ unit_of l
  pub either : (incidence xs (variable l) ≡ pos 0) ⊎ (incidence xs (variable l) +ℤ unit_of l ≡ pos 0)

added : (b d : Bool) → cond true (pos 1) (pos 0) -ℤ cond d (pos 1) (pos 0) ≡ (cond false (pos 1) (pos 0) -ℤ cond d (pos 1) (pos 0)) +ℤ pos 1
added b true = refl
added b false = refl

either_added : (d : Bool) → (cond false (pos 1) (pos 0) -ℤ cond d (pos 1) (pos 0) ≡ pos 0) ⊎ ((cond false (pos 1) (pos 0) -ℤ cond d (pos 1) (pos 0)) +ℤ pos 1 ≡ pos 0)
either_added true = inr refl
either_added false = inl refl

taken : (d : Bool) → cond d (pos 1) (pos 0) -ℤ cond true (pos 1) (pos 0) ≡ (cond d (pos 1) (pos 0) -ℤ cond false (pos 1) (pos 0)) +ℤ negsuc 0
taken true = refl
taken false = refl

either_taken : (d : Bool) → (cond d (pos 1) (pos 0) -ℤ cond false (pos 1) (pos 0) ≡ pos 0) ⊎ ((cond d (pos 1) (pos 0) -ℤ cond false (pos 1) (pos 0)) +ℤ negsuc 0 ≡ pos 0)
either_taken true = inr refl
either_taken false = inl refl

pub adds : (n : ℕ) (xs : List ℤ) (l : ℤ) → is_literal n l ≡ true → contains xs l ≡ false → Adds xs l
adds n xs (pos zero) lit out = absurd (let b = literal_bounds n (pos zero) lit in omega (arith, b.0))
adds n xs (pos (suc m)) lit out =
    let d = contains xs (negsuc m) in
    let same : contains (xs ++ pos (suc m) ∷ []) (negsuc m) ≡ d = contains-push xs (pos (suc m)) (negsuc m) ∙ or_false d (int_eq (negsuc m) (pos (suc m))) (same_false (negsuc m) (pos (suc m)) (λ e. cc)) in
    let now : incidence (xs ++ pos (suc m) ∷ []) (suc m) ≡ cond true (pos 1) (pos 0) -ℤ cond d (pos 1) (pos 0) = λ i. cond (contains_here xs (pos (suc m)) i) (pos 1) (pos 0) -ℤ cond (same i) (pos 1) (pos 0) in
    let before : incidence xs (suc m) ≡ cond false (pos 1) (pos 0) -ℤ cond d (pos 1) (pos 0) = λ i. cond (out i) (pos 1) (pos 0) -ℤ cond d (pos 1) (pos 0) in
    record {
      sum = now ∙ added true d ∙ ap (λ z. z +ℤ pos 1) (sym before);
      either = subst (λ z. (z ≡ pos 0) ⊎ (z +ℤ pos 1 ≡ pos 0)) (sym before) (either_added d);
    }
adds n xs (negsuc m) lit out =
    let d = contains xs (pos (suc m)) in
    let same : contains (xs ++ negsuc m ∷ []) (pos (suc m)) ≡ d = contains-push xs (negsuc m) (pos (suc m)) ∙ or_false d (int_eq (pos (suc m)) (negsuc m)) (same_false (pos (suc m)) (negsuc m) (λ e. cc)) in
    let now : incidence (xs ++ negsuc m ∷ []) (suc m) ≡ cond d (pos 1) (pos 0) -ℤ cond true (pos 1) (pos 0) = λ i. cond (same i) (pos 1) (pos 0) -ℤ cond (contains_here xs (negsuc m) i) (pos 1) (pos 0) in
    let before : incidence xs (suc m) ≡ cond d (pos 1) (pos 0) -ℤ cond false (pos 1) (pos 0) = λ i. cond d (pos 1) (pos 0) -ℤ cond (out i) (pos 1) (pos 0) in
    record {
      sum = now ∙ taken d ∙ ap (λ z. z +ℤ negsuc 0) (sym before);
      either = subst (λ z. (z ≡ pos 0) ⊎ (z +ℤ negsuc 0 ≡ pos 0)) (sym before) (either_taken d);
    }

-- one literal more
clause_more : (n k : ℕ) (c : List ℤ) (i : ℕ) (l : ℤ) (before rows : List (List Entry)) → is_clause n c ≡ true → n < length before → i < length c → l ≡ get_or c i l
    → All (λ es. last_column es < k) before → AddsClause (take i c) k before rows
    → (old now : List Entry) → old ≡ get_or rows (variable l) old
    → ((es : List Entry) (x : ℤ) → last_column es < k → (x ≡ pos 0) ⊎ (x +ℤ unit_of l ≡ pos 0) → old ≡ with_number es k x → now ≡ with_number es k (x +ℤ unit_of l))
    → AddsClause (take (i + 1) c) k before (slice_set rows (variable l) now)
clause_more n k c i l before rows clause wide lt at below done old now read add =
    let parts = and_true _ _ clause in
    let lit : is_literal n l ≡ true = ap (is_literal n) at ∙ literal_at n c i l parts.0 lt in
    let out : contains (take i c) l ≡ false = ap (contains (take i c)) at ∙ new_at c i l parts.1 lt in
    let more : take i c ++ l ∷ [] ≡ take (i + 1) c = ap (λ (m : ℤ). take i c ++ m ∷ []) at ∙ sym (take_more c i l lt) in
    let v = variable l in
    let bounds = literal_bounds n l lit in
    let here : v < length before = omega (arith, wide, bounds.1) in
    let within : v < length rows = omega (arith, here, done.size) in
    let a = adds n (take i c) l lit out in
    let old_is : old ≡ with_number (get_or before v []) k (incidence (take i c) v) = get_or_read rows v old within read [] ∙ done.each v here in
    let now_is : now ≡ with_number (get_or before v []) k (incidence (take (i + 1) c) v) =
    add (get_or before v []) (incidence (take i c) v) (below v [] here) a.either old_is
    ∙ ap (with_number (get_or before v []) k) (sym a.sum ∙ ap (λ ds. incidence ds v) more) in
    record {
      size = length-set rows v now ∙ done.size;
      each = λ w h. elim (cases_eq w v) [
        | inl same ↦ subst (λ (u : ℕ). get_or (slice_set rows v now) u [] ≡ with_number (get_or before u []) k (incidence (take (i + 1) c) u)) (sym same)
            (get_or-set_same rows v now [] within ∙ now_is)
        | inr other ↦ get_or-set_other rows v w now [] other ∙ done.each w h
            ∙ ap (with_number (get_or before w []) k) (sym (incidence_other (take i c) l w other) ∙ ap (λ ds. incidence ds w) more)
      ];
    }

pub clause_next : (n k : ℕ) (c : List ℤ) (i : ℕ) (l : ℤ) (before rows : List (List Entry)) → is_clause n c ≡ true → n < length before → i < length c → l ≡ get_or c i l
    → All (λ es. last_column es < k) before → AddsClause (take i c) k before rows
    → (v : ℕ) → v ≡ variable l → (old now : List Entry) → old ≡ get_or rows v old
    → ((es : List Entry) (x : ℤ) → last_column es < k → (x ≡ pos 0) ⊎ (x +ℤ unit_of l ≡ pos 0) → old ≡ with_number es k x → now ≡ with_number es k (x +ℤ unit_of l))
    → AddsClause (take (i + 1) c) k before (slice_set rows v now)
clause_next n k c i l before rows clause wide lt at below done v e old now read add =
    subst (λ (w : ℕ). AddsClause (take (i + 1) c) k before (slice_set rows w now)) (sym e)
    (clause_more n k c i l before rows clause wide lt at below done old now (subst (λ (w : ℕ). old ≡ get_or rows w old) e read) add)

-- ALL CLAUSES

many : (F : Cnf) (S : List ℕ) (i v : ℕ) → i ≤ length S → length (map (λ p. incidence (clause_at F p) v) (take i S)) ≡ i
many F S i v h = length-map (take i S) (λ p. incidence (clause_at F p) v) ∙ length-take-le i S h

pub rows_behind : (F : Cnf) (S : List ℕ) (i : ℕ) (rows : List (List Entry)) → i ≤ length S → AreIncidences F (take i S) rows → All (λ es. last_column es < i + 1) rows
rows_behind F S i rows h inc = All-from_get_or (λ es. last_column es < i + 1) rows []
    (λ v lt. subst (λ (es : List Entry). last_column es < i + 1) (sym (inc.each v lt))
    (omega (arith, last_within (map (λ p. incidence (clause_at F p) v) (take i S)), many F S i v h)))

pub rows_next : (F : Cnf) (S : List ℕ) (i p : ℕ) (before after : List (List Entry)) → i < length S → p ≡ get_or S i 0 → AreIncidences F (take i S) before
    → AddsClause (clause_at F p) (i + 1) before after → AreIncidences F (take (i + 1) S) after
rows_next F S i p before after lt at inc done = record {
  size = done.size ∙ inc.size;
  each = λ v h.
      let f : ℕ → ℤ = λ q. incidence (clause_at F q) v in
      let here : v < length before = omega (arith, h, done.size) in
      let place : i + 1 ≡ length (map f (take i S)) + 1 = omega (arith, many F S i v (omega arith)) in
      done.each v here ∙ ap (λ es. with_number es (i + 1) (f p)) (inc.each v here) ∙ sym (entries_more (map f (take i S)) (f p) (i + 1) place)
      ∙ ap entries_of (ap (λ q. map f (take i S) ++ f q ∷ []) at ∙ sym (map_more f S i 0 lt));
}
