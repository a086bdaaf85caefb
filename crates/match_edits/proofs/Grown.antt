-- One more clause, which is live and has no variable yet.
use Rattle.std.proofs.Common.{◌≡◌, ◌≢◌, ℕ, zero, suc, ◌+◌, ◌-◌, ◌<◌, ◌≤◌, ◌==◌, true, false, List, [], ◌∷◌, ◌++◌, length, get_or, refl, sym, ◌∙◌, ap, subst, arith, inl, inr, IsTrue, ℤ, length-append}
use Rattle.std.proofs.lemmas.Bool.{cases_eq, eqb-true}
use Rattle.std.proofs.lemmas.List.{get_or_push, get_or_append_left}
use Rattle.lk_model.specs.Lists.{among}
use Rattle.lk_model.specs.Formulas.Literal.{is_clause, mentions}
use Rattle.lk_model.specs.Formulas.Formula.{Cnf, clause_at, with_clause, without_last, is_formula}
use Rattle.lk_model.specs.Formulas.Lean.{are_positions}
use Rattle.lk_model.proofs.Booleans.{or_true}
use Rattle.lk_model.proofs.Cuts.{formula_push}
use Rattle.lk_model.proofs.Lists.{among_here, among_left, among_right, among_either}
use Rattle.lk_model.proofs.Rising.{rising_bounds, bounded}
use Rattle.bipartite_match.specs.declared.augmenting.Start.TheVariants.{Clause}
use Rattle.bipartite_match.specs.declared.matching.Matching.{Matching}
use Rattle.bipartite_match.specs.Covers.{IsCover, HasCover, IsCoverBut, CoverLaw}
use Rattle.bipartite_match.specs.Matchings.{IsMatching, IsUnmatched, IsReady}
use Rattle.bipartite_match.proofs.Numbers.{within}
use Rattle.bipartite_match.proofs.Owning.{index_within}
use Rattle.match_edits.specs.EditLaws.{RestoredBy}
use Rattle.match_edits.specs.Followed.{IsLive, with_new}
use Rattle.match_edits.proofs.Rows.{rises_push, popped}

clause_kept : (F : Cnf) (c : List ℤ) (p : ℕ) → 0 < p → p ≤ length F.clauses → clause_at (with_clause F c) p ≡ clause_at F p
clause_kept F c zero some most = absurd (omega (arith, some))
clause_kept F c (suc k) some most = get_or_append_left F.clauses (c ∷ []) [] k (omega (arith, most))

-- a number other than 0 stood there before
read_old : (cl : List ℕ) (i : ℕ) → get_or (cl ++ 0 ∷ []) i 0 ≢ 0 → (i < length cl) × (get_or (cl ++ 0 ∷ []) i 0 ≡ get_or cl i 0)
read_old cl i n =
    let l = within (cl ++ 0 ∷ []) i n in let e = length-append cl (0 ∷ []) in
    elim (cases_eq i (length cl)) [
      | inl same ↦ absurd (n (ap (λ k. get_or (cl ++ 0 ∷ []) k 0) same ∙ get_or_push cl 0 0 (length cl) refl))
      | inr ne ↦ (let low : i < length cl = omega (arith, l, e, ne) in (low, get_or_append_left cl (0 ∷ []) 0 i low))
    ]

-- WHICH CLAUSES HAVE NO VARIABLE

-- those that had none before
still_unmatched : (part : List ℕ) (m : Matching) (n p : ℕ) → length m.of_clause ≡ length part → IsUnmatched part m p → IsUnmatched (part ++ n ∷ []) (with_new m n) p
still_unmatched part m n p e u = record {
  index = u.index;
  inside = let l = u.inside in let a = length-append part (n ∷ []) in omega (arith, l, a);
  is = get_or_append_left part (n ∷ []) 0 u.index u.inside ∙ u.is;
  none = get_or_append_left m.of_clause (0 ∷ []) 0 u.index (subst (λ k. u.index < k) (sym e) u.inside) ∙ u.none;
}

-- the new one
new_unmatched : (part : List ℕ) (m : Matching) (n : ℕ) → length m.of_clause ≡ length part → IsUnmatched (part ++ n ∷ []) (with_new m n) n
new_unmatched part m n e = record {
  index = length part;
  inside = let b = length-append part (n ∷ []) in omega (arith, b);
  is = get_or_push part n 0 (length part) refl;
  none = get_or_push m.of_clause 0 0 (length part) e;
}

-- and no others
unmatched_before : (part : List ℕ) (m : Matching) (n p : ℕ) → length m.of_clause ≡ length part → IsUnmatched (part ++ n ∷ []) (with_new m n) p → p ≢ n → IsUnmatched part m p
unmatched_before part m n p e u other = elim (cases_eq u.index (length part)) [
  | inl same ↦ absurd (other (sym u.is ∙ ap (λ i. get_or (part ++ n ∷ []) i 0) same ∙ get_or_push part n 0 (length part) refl))
  | inr ne ↦
      (let b = length-append part (n ∷ []) in let l = u.inside in
      let low : u.index < length part = omega (arith, b, l, ne) in
      record {
        index = u.index;
        inside = low;
        is = sym (get_or_append_left part (n ∷ []) 0 u.index low) ∙ u.is;
        none = sym (get_or_append_left m.of_clause (0 ∷ []) 0 u.index (subst (λ k. u.index < k) (sym e) low)) ∙ u.none;
      })
]

-- a cover stays one but for the new clause
cover_grown : (F : Cnf) (part : List ℕ) (m : Matching) (c : List ℤ) (R : List ℕ) → are_positions F part ≡ true → IsMatching F part m → IsCover F part m R
    → IsCoverBut (with_clause F c) (part ++ (length F.clauses + 1) ∷ []) (with_new m (length F.clauses + 1)) (Clause (length F.clauses + 1)) R
cover_grown F part m c R r h k = record {
  within = λ p e. among_left part ((length F.clauses + 1) ∷ []) p (k.within p e);
  unmatched = λ p u other. k.unmatched p (unmatched_before part m (length F.clauses + 1) p h.clauses u other);
  closed = λ p v e j.
      let b = bounded 0 (length F.clauses) part p r (k.within p e) in
      inl (k.closed p v e (subst (λ (xs : List ℤ). mentions xs v ≡ true) (clause_kept F c p b.0 b.1) j));
}

-- THE MATCHING WITH THE NEW CLAUSE

matching_grown : (F : Cnf) (part : List ℕ) (m : Matching) (c : List ℤ) → are_positions F part ≡ true → IsMatching F part m
    → IsMatching (with_clause F c) (part ++ (length F.clauses + 1) ∷ []) (with_new m (length F.clauses + 1))
matching_grown F part m c r h = record {
  clauses = let a = length-append m.of_clause (0 ∷ []) in let b = length-append part ((length F.clauses + 1) ∷ []) in let e = h.clauses in omega (arith, a, b, e);
  vars = h.vars;
  joined = λ i n.
      let w = read_old m.of_clause i n in
      let some : get_or m.of_clause i 0 ≢ 0 = λ z. n (w.1 ∙ z) in
      let inside = index_within F part m i h some in
      let b = rising_bounds 0 (length F.clauses) part i r inside in
      subst (λ v. mentions (clause_at (with_clause F c) (get_or longer i 0)) v ≡ true) (sym w.1)
      (subst (λ p. mentions (clause_at (with_clause F c) p) (get_or m.of_clause i 0) ≡ true) (sym (old i inside))
      (subst (λ xs. mentions xs (get_or m.of_clause i 0) ≡ true) (sym (clause_kept F c (get_or part i 0) b.0 b.1)) (h.joined i some)));
  paired = λ i n.
      let w = read_old m.of_clause i n in
      let some : get_or m.of_clause i 0 ≢ 0 = λ z. n (w.1 ∙ z) in
      ap (λ v. get_or m.of_var (v - 1) 0) w.1 ∙ h.paired i some ∙ sym (old i (index_within F part m i h some));
  held = λ k n.
      let w = h.held k n in
      let some : get_or m.of_clause w.0 0 ≢ 0 = λ z. let f = sym w.2 ∙ z in omega (arith, f) in
      (w.0, old w.0 (index_within F part m w.0 h some) ∙ w.1, get_or_append_left m.of_clause (0 ∷ []) 0 w.0 (within m.of_clause w.0 some) ∙ w.2);
}
  where
    longer : List ℕ
    longer = part ++ (length F.clauses + 1) ∷ []

    old : (i : ℕ) → i < length part → get_or longer i 0 ≡ get_or part i 0
    old i l = get_or_append_left part ((length F.clauses + 1) ∷ []) 0 i l

positions_grown : (F : Cnf) (c : List ℤ) (ps : List ℕ) → are_positions F ps ≡ true → are_positions (with_clause F c) (ps ++ (length F.clauses + 1) ∷ []) ≡ true
positions_grown F c ps r =
    let e = length-append F.clauses (c ∷ []) in
    rises_push 0 (length F.clauses) (length F.clauses + 1) (length (F.clauses ++ c ∷ [])) ps r (omega arith) (omega arith) (omega (arith, e))

ready_grown : (F : Cnf) (part : List ℕ) (m : Matching) (c : List ℤ) → are_positions F part ≡ true → IsReady F part m
    → IsReady (with_clause F c) (part ++ (length F.clauses + 1) ∷ []) (with_new m (length F.clauses + 1))
ready_grown F part m c r h = record {
  matching = matching_grown F part m c r h.matching;
  ascending = positions_grown F c m.unmatched h.ascending;
  unmatched = λ p. (
    λ e. elim (among_either m.unmatched (n ∷ []) p e) [
      | inl old ↦ still_unmatched part m n p h.matching.clauses ((h.unmatched p).0 old)
      | inr new ↦ elim (or_true (n == p) false new) [
        | inl same ↦ subst (λ x. IsUnmatched (part ++ n ∷ []) (with_new m n) x) (eqb-true n p same) (new_unmatched part m n h.matching.clauses)
        | inr other ↦ absurd (let f : ⊥ = cc in f)
      ]
    ],
    λ u. elim (cases_eq p n) [
      | inl same ↦ subst (λ x. among (m.unmatched ++ n ∷ []) x ≡ true) (sym same) (among_right m.unmatched (n ∷ []) n (among_here n []))
      | inr other ↦ among_left m.unmatched (n ∷ []) p ((h.unmatched p).1 (unmatched_before part m n p h.matching.clauses u other))
    ],
  );
  unmarked = h.unmarked;
}
  where
    n : ℕ
    n = length F.clauses + 1

-- what is left to do
added_as : CoverLaw → (F : Cnf) (part : List ℕ) (m : Matching) (c : List ℤ) → IsTrue (is_formula F) → IsTrue (is_clause F.vars c) → IsLive F part m
    → RestoredBy (with_clause F c) (part ++ (length F.clauses + 1) ∷ []) (with_new m (length F.clauses + 1)) (Clause (length F.clauses + 1))
added_as law F part m c form d s = record {
  positions = positions_grown F c part s.positions;
  ready = ready_grown F part m c s.positions s.ready;
  start = new_unmatched part m (length F.clauses + 1) s.ready.matching.clauses;
  maximum = λ after h restores.
      law.maximum (with_clause F c) (part ++ (length F.clauses + 1) ∷ []) after (formula_push F c form d) (positions_grown F c part s.positions) h (restores (cover.0, cover_grown F part m c cover.0 s.positions s.ready.matching cover.1));
}
  where
    cover : HasCover F part m
    cover = law.cover F part m form s.positions s.maximum

pub added : CoverLaw → (F : Cnf) (part : List ℕ) (m : Matching) (c : List ℤ) (number : ℕ) → IsTrue (is_formula F) → IsTrue (is_clause F.vars c) → IsLive F part m
    → number ≡ length F.clauses + 1 → RestoredBy (with_clause F c) (part ++ number ∷ []) (with_new m number) (Clause number)
added law F part m c number form d s e =
    subst (λ (n : ℕ). RestoredBy (with_clause F c) (part ++ n ∷ []) (with_new m n) (Clause n)) (sym e) (added_as law F part m c form d s)

-- a clause is added and taken back
pub last_back : (F : Cnf) (c : List ℤ) → without_last (with_clause F c) ≡ F
last_back F c = ap (λ (cs : List (List ℤ)). let G : Cnf = record { vars = F.vars; clauses = cs } in G) (popped F.clauses c)
