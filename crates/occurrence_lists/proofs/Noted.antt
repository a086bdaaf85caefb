-- Clause by clause: the numbers and the positions at the ranks of literals.
use Rattle.std.proofs.Common.{◌≡◌, ◌≢◌, ℕ, zero, suc, ◌+◌, ◌*◌, ◌<◌, ◌≤◌, ◌∙◌, Bool, true, false, cond, ◌||◌, ◌==◌, List, [], ◌∷◌, ◌++◌, length, take, get_or, set, map, refl, sym, ap, arith, inl, inr, ℤ, get_or-set_same, get_or-set_other}
use Rattle.std.specs.Prelude.{replicate, sum}
use Rattle.std.proofs.lemmas.Bool.{cases_Bool, eqb-true, eq-eqb}
use Rattle.std.proofs.lemmas.List.{append-nil, length-set, length-map, length-take-le, length-replicate}
use Rattle.std.proofs.lemmas.List.Sums.{sum_by-set, sum_by-cons, sum_by_more}
use Rattle.lk_model.specs.Formulas.Literal.{rank_of, is_clause, is_distinct}
use Rattle.lk_model.specs.Formulas.Formula.{Cnf, clause_at, is_formula}
use Rattle.lk_model.proofs.Booleans.{and_true}
use Rattle.lk_model.proofs.Clauses.{next_clause}
use Rattle.occurrence_lists.specs.Occurrences.{AreOccurrences, has_rank, ranked}
use Rattle.occurrence_lists.specs.Parts.{Filled}
use Rattle.occurrence_lists.specs.Noting.{CountsClause, AreCounts, NotesClause, AreNoted, HaveRoom}
use Rattle.occurrence_lists.proofs.Parts.{empty_for}
use Rattle.occurrence_lists.proofs.FirstPositions.{filter-up_to-more, kept-more, kept-few, kept-lt}
use Rattle.occurrence_lists.proofs.Ranks.{ranked_is, none_ranked, beyond, one_more, new_rank}

-- HOW MANY

or_yes : (b : Bool) → (b || true) ≡ true
or_yes true = refl
or_yes false = refl

or_no : (b : Bool) → (b || false) ≡ b
or_no true = refl
or_no false = refl

-- the number of a literal that was not counted yet
pub count_same : (c : List ℤ) (i : ℕ) (l : ℤ) (before after : List ℕ) → is_distinct c ≡ true → i < length c → l ≡ get_or c i l → CountsClause (take i c) before after → get_or after (rank_of l) 0 ≡ get_or before (rank_of l) 0
count_same c i l before after h lt at counts =
    let one : Bool → ℕ = λ b. cond b 1 0 in
    let none : one (has_rank (take i c) (rank_of l)) ≡ one false = ap one (new_rank c i l h lt at) in
    omega (arith, counts.told (rank_of l), none)

pub Counts-next : (c : List ℤ) (i : ℕ) (l : ℤ) (before after : List ℕ) → is_distinct c ≡ true → i < length c → l ≡ get_or c i l → rank_of l < length before → CountsClause (take i c) before after
    → CountsClause (take (i + 1) c) before (set after (rank_of l) (get_or after (rank_of l) 0 + 1))
Counts-next c i l before after h lt at within counts =
    let r = rank_of l in
    let here : r < length after = omega (arith, within, counts.size) in
    record {
      size = length-set after r (get_or after r 0 + 1) ∙ counts.size;
      told = λ k. elim (cases_Bool (r == k)) [
        | inl e ↦
            let now : has_rank (take (i + 1) c) k ≡ true = one_more c i l k lt at ∙ ap (λ (b : Bool). has_rank (take i c) k || b) e ∙ or_yes (has_rank (take i c) k) in
            let read : get_or (set after r (get_or after r 0 + 1)) k 0 ≡ get_or after r 0 + 1
            = ap (λ (j : ℕ). get_or (set after r (get_or after r 0 + 1)) j 0) (sym (eqb-true r k e)) ∙ get_or-set_same after r (get_or after r 0 + 1) 0 here in
            read ∙ ap (λ (n : ℕ). n + 1) (count_same c i l before after h lt at counts ∙ ap (λ (j : ℕ). get_or before j 0) (eqb-true r k e))
            ∙ ap (λ (b : Bool). get_or before k 0 + cond b 1 0) (sym now)
        | inr e ↦
            let other : k ≢ r = λ same. absurd (cc (e, eq-eqb r k (sym same))) in
            let same : has_rank (take (i + 1) c) k ≡ has_rank (take i c) k = one_more c i l k lt at ∙ ap (λ (b : Bool). has_rank (take i c) k || b) e ∙ or_no (has_rank (take i c) k) in
            get_or-set_other after r k (get_or after r 0 + 1) 0 other ∙ counts.told k ∙ ap (λ (b : Bool). get_or before k 0 + cond b 1 0) (sym same)
      ];
      total =
          let step = sum_by-set (λ (n : ℕ). n) after r (get_or after r 0 + 1) 0 here in
          let old = counts.total in
          let front = length-take-le i c (omega (arith, lt)) in
          let next = length-take-le (i + 1) c (omega (arith, lt)) in
          omega (arith, step, old, front, next);
    }

-- before the first clause
abbrev no_numbers : ℕ → List ℕ
no_numbers n = replicate n 0

zeros : (n k : ℕ) → get_or (no_numbers n) k 0 ≡ zero
zeros zero k = refl
zeros (suc n) zero = refl
zeros (suc n) (suc k) = zeros n k

no_sum : (n : ℕ) → sum (no_numbers n) ≡ zero
no_sum zero = refl
no_sum (suc n) = omega (arith, sum_by-cons (λ (m : ℕ). m) 0 (no_numbers n), no_sum n)

pub AreCounts-none : (F : Cnf) (n : ℕ) (counts : List ℕ) → counts ≡ no_numbers n → n ≡ 2 * F.vars + 2 → AreCounts F 0 counts
AreCounts-none F n counts is size = record {
  size = ap (λ (ns : List ℕ). length ns) is ∙ length-replicate {A = ℕ} n 0 ∙ size;
  told = λ k. ap (λ (ns : List ℕ). get_or ns k 0) is ∙ zeros n k;
  total = ap sum is ∙ no_sum n;
}

pub AreCounts-more : (F : Cnf) (i : ℕ) (before after : List ℕ) → i < length F.clauses → AreCounts F i before → CountsClause (clause_at F (i + 1)) before after → AreCounts F (i + 1) after
AreCounts-more F i before after lt counts clause = record {
  size = clause.size ∙ counts.size;
  told = λ k.
      clause.told k ∙ ap (λ (n : ℕ). n + cond (has_rank (clause_at F (i + 1)) k) 1 0) (counts.told k)
      ∙ sym (kept-more (λ p. has_rank (clause_at F p) k) i);
  total =
      let one : length (clause_at F (i + 1)) ≡ length (get_or F.clauses i []) = ap (λ (c : List ℤ). length c) (next_clause F i) in
      let more = sum_by_more (λ (c : List ℤ). length c) F.clauses i [] lt in
      let step = clause.total in
      let old = counts.total in
      omega (arith, step, old, one, more);
}

-- no number is greater than the number of clauses
pub counts_few : (F : Cnf) (i : ℕ) (counts : List ℕ) → AreCounts F i counts → (k : ℕ) → get_or counts k 0 ≤ i
counts_few F i counts h k = omega (arith, h.told k, kept-few (λ p. has_rank (clause_at F p) k) i)

-- WHICH

-- the list of a literal that was not noted yet
list_same : (c : List ℤ) (p i : ℕ) (l : ℤ) (before after : List (List ℕ)) → is_distinct c ≡ true → i < length c → l ≡ get_or c i l → NotesClause (take i c) p before after → get_or after (rank_of l) [] ≡ get_or before (rank_of l) []
list_same c p i l before after h lt at notes =
    notes.told (rank_of l) ∙ ap (λ (b : Bool). get_or before (rank_of l) [] ++ cond b (p ∷ []) []) (new_rank c i l h lt at) ∙ append-nil (get_or before (rank_of l) [])

pub Notes-next : (c : List ℤ) (p i : ℕ) (l : ℤ) (before after : List (List ℕ)) → is_distinct c ≡ true → i < length c → l ≡ get_or c i l → rank_of l < length before → NotesClause (take i c) p before after
    → NotesClause (take (i + 1) c) p before (set after (rank_of l) (get_or after (rank_of l) [] ++ p ∷ []))
Notes-next c p i l before after h lt at within notes =
    let r = rank_of l in
    let here : r < length after = omega (arith, within, notes.size) in
    record {
      size = length-set after r (get_or after r [] ++ p ∷ []) ∙ notes.size;
      told = λ k. elim (cases_Bool (r == k)) [
        | inl e ↦
            let now : has_rank (take (i + 1) c) k ≡ true = one_more c i l k lt at ∙ ap (λ (b : Bool). has_rank (take i c) k || b) e ∙ or_yes (has_rank (take i c) k) in
            ap (λ (j : ℕ). get_or (set after r (get_or after r [] ++ p ∷ [])) j []) (sym (eqb-true r k e))
            ∙ get_or-set_same after r (get_or after r [] ++ p ∷ []) [] here
            ∙ ap (λ (ps : List ℕ). ps ++ p ∷ []) (list_same c p i l before after h lt at notes ∙ ap (λ (j : ℕ). get_or before j []) (eqb-true r k e))
            ∙ ap (λ (b : Bool). get_or before k [] ++ cond b (p ∷ []) []) (sym now)
        | inr e ↦
            let other : k ≢ r = λ same. absurd (cc (e, eq-eqb r k (sym same))) in
            let same : has_rank (take (i + 1) c) k ≡ has_rank (take i c) k = one_more c i l k lt at ∙ ap (λ (b : Bool). has_rank (take i c) k || b) e ∙ or_no (has_rank (take i c) k) in
            get_or-set_other after r k (get_or after r [] ++ p ∷ []) [] other ∙ notes.told k ∙ ap (λ (b : Bool). get_or before k [] ++ cond b (p ∷ []) []) (sym same)
      ];
    }

-- before the first clause
no_lists : (ns : List ℕ) (k : ℕ) → get_or (map empty_for ns) k [] ≡ []
no_lists [] k = refl
no_lists (n ∷ ns) zero = refl
no_lists (n ∷ ns) (suc k) = no_lists ns k

pub AreNoted-none : (F : Cnf) (counts : List ℕ) (lists : List (List ℕ)) → length counts ≡ 2 * F.vars + 2 → lists ≡ map empty_for counts → AreNoted F 0 lists
AreNoted-none F counts lists size is = record {
  size = ap (λ (ls : List (List ℕ)). length ls) is ∙ length-map counts empty_for ∙ size;
  told = λ k. ap (λ (ls : List (List ℕ)). get_or ls k []) is ∙ no_lists counts k;
}

-- one clause more
pub AreNoted-more : (F : Cnf) (i : ℕ) (before after : List (List ℕ)) → AreNoted F i before → NotesClause (clause_at F (i + 1)) (i + 1) before after → AreNoted F (i + 1) after
AreNoted-more F i before after noted clause = record {
  size = clause.size ∙ noted.size;
  told = λ k.
      clause.told k ∙ ap (λ (ps : List ℕ). ps ++ cond (has_rank (clause_at F (i + 1)) k) ((i + 1) ∷ []) []) (noted.told k)
      ∙ sym (filter-up_to-more (λ p. has_rank (clause_at F p) k) i);
}

-- there is room for one clause more
pub room_for : (F : Cnf) (i : ℕ) (t : Filled) → AreNoted F i t.lists → AreCounts F (length F.clauses) t.sizes → i < length F.clauses → is_clause F.vars (clause_at F (i + 1)) ≡ true → HaveRoom (clause_at F (i + 1)) t
room_for F i t noted counts lt clause = λ k held.
    let inside : k < 2 * F.vars + 2 = beyond F.vars (clause_at F (i + 1)) k (and_true _ _ clause).0 held in
    let one : length (get_or t.lists k []) ≡ length (ranked F i k) = ap (λ (ps : List ℕ). length ps) (noted.told k) in
    let more : length (ranked F i k) < length (ranked F (length F.clauses) k) = kept-lt (λ p. has_rank (clause_at F p) k) i (length F.clauses) lt held in
    (omega (arith, inside, noted.size), omega (arith, one, more, counts.told k))

-- and for one literal more of the clause
pub room_next : (c : List ℤ) (p i : ℕ) (l : ℤ) (before now : Filled) → is_distinct c ≡ true → i < length c → l ≡ get_or c i l → has_rank c (rank_of l) ≡ true → HaveRoom c before → now.sizes ≡ before.sizes → NotesClause (take i c) p before.lists now.lists
    → length (get_or now.lists (rank_of l) []) < get_or now.sizes (rank_of l) 0
room_next c p i l before now h lt at held room sizes notes =
    let same : length (get_or now.lists (rank_of l) []) ≡ length (get_or before.lists (rank_of l) []) = ap (λ (ps : List ℕ). length ps) (list_same c p i l before.lists now.lists h lt at notes) in
    let read : get_or now.sizes (rank_of l) 0 ≡ get_or before.sizes (rank_of l) 0 = ap (λ (ns : List ℕ). get_or ns (rank_of l) 0) sizes in
    omega (arith, same, read, (room (rank_of l) held).1)

-- after the last clause each list has its size
pub sizes_told : (F : Cnf) (t : Filled) → AreNoted F (length F.clauses) t.lists → AreCounts F (length F.clauses) t.sizes → (k : ℕ) → length (get_or t.lists k []) ≡ get_or t.sizes k 0
sizes_told F t noted counts k = ap (λ (ps : List ℕ). length ps) (noted.told k) ∙ sym (counts.told k)

pub occurrences_told : (F : Cnf) (lists : List (List ℕ)) → is_formula F ≡ true → AreNoted F (length F.clauses) lists → AreOccurrences F lists
occurrences_told F lists h noted = record {
  size = noted.size;
  held = λ l _. noted.told (rank_of l) ∙ ranked_is F l;
  none = λ k lt. noted.told k ∙ none_ranked F (length F.clauses) k h lt;
}
