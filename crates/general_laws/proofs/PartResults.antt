-- What is found in all parts of a formula, joined.
use Rattle.std.proofs.Common.{◌≡◌, ℕ, ◌<◌, ◌≤◌, ◌+◌, ◌^◌, Bool, true, false, ◌||◌, ◌==◌, List, [], ◌∷◌, ◌++◌, refl, sym, ◌∙◌, ap, subst, ℤ, None, inl, inr, length, length-append, map, arith}
use Rattle.std.specs.Prelude.{⊤, sum_by}
use Rattle.std.specs.List.{list_any, AllByRecursion}
use Rattle.std.proofs.lemmas.Bool.{both_ways, false_from_ne_true, or_from, eqb-true}
use Rattle.std.proofs.lemmas.List.{length-map}
use Rattle.std.proofs.lemmas.List.Sums.{sum_by-cons}
use Rattle.std.proofs.lemmas.List.Folds.{list_any-append}
use Rattle.lk_model.specs.Lists.{among, rises_within}
use Rattle.lk_model.specs.Formulas.Literal.{variable, contains, mentions}
use Rattle.lk_model.specs.Formulas.Formula.{Cnf, clause_at, positions_of, variable_occurs}
use Rattle.lk_model.specs.Formulas.Crossed.{no_variable}
use Rattle.lk_model.specs.Formulas.Assignment.{assignment_of, satisfies}
use Rattle.lk_model.specs.Formulas.Parts.{IsPart, AreParts, least_of}
use Rattle.lk_model.specs.Chains.Rounds.{steps_in_rounds}
use Rattle.lk_model.specs.Documents.Documents.{steps_of}
use Rattle.lk_model.specs.Checks.RoundChecks.{bad_step}
use Rattle.lk_model.specs.declared.document.Step.{Step}
use Rattle.lk_model.specs.declared.document.Round.{Round}
use Rattle.lk_model.specs.declared.result.GeneralResult.{GeneralResult}
use Rattle.lk_model.proofs.Booleans.{or_true, or_false, or_left, or_right}
use Rattle.lk_model.proofs.Rising.{rises, bounded}
use Rattle.lk_model.proofs.Counting.{among-range}
use Rattle.lk_model.proofs.Founds.{is_position}
use Rattle.lk_model.proofs.Variables.{occurs, literal_passing, position_with}
use Rattle.general_laws.specs.JoinLaw.{IsCertified, joined, moved, renumbered}
use Rattle.general_laws.specs.GeneralResults.{IsGeneralResult, AreGeneralResults, all_joined, AreJoined}
use Rattle.general_laws.proofs.PartLaws as part
use Rattle.kernel_laws.proofs.Occurrences.{in_positions, occurs_more}
use Rattle.kernel_laws.proofs.Clauses.{mentions_of}
use Rattle.general_laws.proofs.Carrying.{names_more, names_of_rounds, rounds_carried}
use Rattle.general_laws.proofs.Reaching.{is_misstated}
use Rattle.general_laws.proofs.Stated.{NoneIn}
use Rattle.general_laws.proofs.Renumbering.{stay, same_rounds}
use Rattle.general_laws.proofs.JoinLaws.{joined_certified, steps_joined, misstated_none, none_misstated, rising, occurs_either}
use Rattle.general_laws.proofs.SetUnions.{satisfied_where_same}

-- PARTS WITH NO COMMON VARIABLE

-- a variable of one of these parts
abbrev pub occurs_in : Cnf → List (List ℕ) → ℕ → Bool
occurs_in F parts v = list_any (λ part. variable_occurs F part v) parts

-- no part shares a variable with a later one
abbrev pub AreApart : Cnf → List (List ℕ) → Type 0
AreApart F [] = ⊤
AreApart F (part ∷ parts) = ((v : ℕ) → variable_occurs F part v ≡ true → occurs_in F parts v ≡ false) × AreApart F parts

-- a part with a least position below those of others shares no variable with them
apart_below : (F : Cnf) (ps : List ℕ) (low high : ℕ) (parts : List (List ℕ)) → IsPart F ps → least_of ps ≤ low → rises_within low high (map least_of parts) ≡ true
    → AllByRecursion (IsPart F) parts → (v : ℕ) → variable_occurs F ps v ≡ true → occurs_in F parts v ≡ false
apart_below F ps low high [] h le rise all v there = refl
apart_below F ps low high (qs ∷ parts) h le rise all v there =
    let r = rises low high (least_of qs) (map least_of parts) rise in
    let above = r.above in
    or_from _ _ (part.differ F ps qs h all.0 (λ e. omega (arith, le, above, e)) v there)
    (apart_below F ps (least_of qs) high parts h (omega (arith, le, above)) r.more all.1 v there)

-- so parts in their order share none
pub parts_apart : (F : Cnf) (low high : ℕ) (parts : List (List ℕ)) → rises_within low high (map least_of parts) ≡ true → AllByRecursion (IsPart F) parts → AreApart F parts
parts_apart F low high [] rise all = tt
parts_apart F low high (ps ∷ parts) rise all =
    let r = rises low high (least_of ps) (map least_of parts) rise in
    (apart_below F ps (least_of ps) high parts all.0 (omega arith) r.more all.1, parts_apart F (least_of ps) high parts r.more all.1)

-- ROUNDS

-- no rounds have no step
pub no_rounds : (F : Cnf) → (bad_step no_variable F [] []).place ≡ None
unfolding bad_step steps_in_rounds
no_rounds F = refl

-- rounds show the same of positions in another order
certified_same : (F : Cnf) (ps qs : List ℕ) (rs : List Round) → ((p : ℕ) → among ps p ≡ among qs p) → IsCertified F no_variable ps rs → IsCertified F no_variable qs rs
certified_same F ps qs rs same h =
    let n = misstated_none F no_variable ps rs h.stated in
    let carried = rounds_carried F (λ k. k) ps qs no_variable no_variable (length F.clauses) rs (stay (length F.clauses)) (λ v there. refl) (omega arith) (rising F rs h.steps)
    (names_more F ps qs (steps_of rs) (λ p e. sym (same p) ∙ e) (names_of_rounds F ps no_variable rs n)) n in
    record {
      steps = h.steps;
      whole = h.whole;
      stated = none_misstated F no_variable qs rs (subst (λ (us : List Round). NoneIn is_misstated F qs no_variable us) (same_rounds rs) carried.0);
      blocked = λ v e. h.blocked v (occurs_more F qs ps v (λ p i. same p ∙ i) e);
    }

-- how many steps joined rounds have
count_joined : (F : Cnf) (rs ss : List Round) → length (steps_of (joined F rs ss)) ≡ length (steps_of rs) + length (steps_of ss)
count_joined F rs ss =
    let f = moved (length F.clauses) (length (steps_of rs)) in
    ap (λ (us : List Step). length us) (steps_joined F f rs ss)
    ∙ length-append (steps_of rs) (map (renumbered f) (steps_of ss))
    ∙ ap (λ (n : ℕ). length (steps_of rs) + n) (length-map (steps_of ss) (renumbered f))

-- the positions that are kept of all
all_kept : List ℕ → List GeneralResult → List ℕ
all_kept ks [] = ks
all_kept ks (r ∷ found) = all_kept (ks ++ r.kept) found

-- each of them is kept by some result
among_all_kept : (ks : List ℕ) (found : List GeneralResult) (p : ℕ) → among (all_kept ks found) p ≡ (among ks p || list_any (λ (r : GeneralResult). among r.kept p) found)
unfolding all_kept
among_all_kept ks [] p = or_nothing (among ks p)
  where
    or_nothing : (a : Bool) → a ≡ (a || false)
    or_nothing true = refl
    or_nothing false = refl
among_all_kept ks (r ∷ found) p =
    among_all_kept (ks ++ r.kept) found p
    ∙ ap (λ (a : Bool). a || list_any (λ (r : GeneralResult). among r.kept p) found) (list_any-append (λ k. k == p) ks r.kept)
    ∙ or_assoc (among ks p) (among r.kept p) (list_any (λ (r : GeneralResult). among r.kept p) found)
  where
    or_assoc : (a b c : Bool) → ((a || b) || c) ≡ (a || (b || c))
    or_assoc true b c = refl
    or_assoc false b c = refl

-- rounds over some positions, and those of the results after them, show that all kept positions are lean
all_certified : (F : Cnf) (ks : List ℕ) (rs : List Round) (parts : List (List ℕ)) (found : List GeneralResult) → IsCertified F no_variable ks rs
    → ((v : ℕ) → variable_occurs F ks v ≡ true → occurs_in F parts v ≡ false) → AreApart F parts → AreGeneralResults F parts found
    → length F.clauses + length (steps_of rs) + sum_by (λ (r : GeneralResult). length (steps_of r.rounds)) found < 2 ^ 64
    → IsCertified F no_variable (all_kept ks found) (all_joined F rs found)
unfolding all_kept
all_certified F ks rs [] [] h alone apart results fits = h
all_certified F ks rs [] (r ∷ found) h alone apart results fits = absurd results
all_certified F ks rs (ps ∷ parts) [] h alone apart results fits = absurd results
all_certified F ks rs (ps ∷ parts) (r ∷ found) h alone apart results fits =
    let one = results.0 in
    let fits' : length F.clauses + length (steps_of rs) + (length (steps_of r.rounds) + sum_by (λ (r : GeneralResult). length (steps_of r.rounds)) found) < 2 ^ 64 =
    subst (λ (n : ℕ). length F.clauses + length (steps_of rs) + n < 2 ^ 64) (sum_by-cons (λ (r : GeneralResult). length (steps_of r.rounds)) r found) fits in
    let inside : (v : ℕ) → variable_occurs F r.kept v ≡ true → variable_occurs F ps v ≡ true = λ v e. occurs_more F r.kept ps v one.within e in
    let union : (p : ℕ) → among (ks ++ r.kept) p ≡ (among ks p || among r.kept p) = λ p. list_any-append (λ k. k == p) ks r.kept in
    let next = joined_certified F no_variable ks r.kept (ks ++ r.kept) rs r.rounds h one.rounds
    (λ v a b. absurd (both_ways (variable_occurs F ps v) (or_false (variable_occurs F ps v) (occurs_in F parts v) (alone v a)).0 (inside v b))) union
    (room (length F.clauses) (length (steps_of rs)) (length (steps_of r.rounds)) (sum_by (λ (r : GeneralResult). length (steps_of r.rounds)) found) (2 ^ 64) fits') in
    all_certified F (ks ++ r.kept) (joined F rs r.rounds) parts found next
    (λ v e. elim (or_true (variable_occurs F ks v) (variable_occurs F r.kept v) (occurs_either F ks r.kept (ks ++ r.kept) union v e)) [
      | inl a ↦ (or_false (variable_occurs F ps v) (occurs_in F parts v) (alone v a)).1
      | inr b ↦ apart.0 v (inside v b)
    ]) apart.1 results.1
    (shift (length F.clauses) (length (steps_of rs)) (length (steps_of r.rounds)) (sum_by (λ (r : GeneralResult). length (steps_of r.rounds)) found)
    (length (steps_of (joined F rs r.rounds))) (2 ^ 64) (count_joined F rs r.rounds) fits')
  where
    room : (m a b c top : ℕ) → m + a + (b + c) < top → m + a + b < top
    room m a b c top h = omega (arith, h)

    shift : (m a b c d top : ℕ) → d ≡ a + b → m + a + (b + c) < top → m + d + c < top
    shift m a b c d top e h = omega (arith, e, h)

-- SET LINES

-- a variable of some set line is one of some part
sets_occur : (F : Cnf) (parts : List (List ℕ)) (found : List GeneralResult) → AreGeneralResults F parts found → (v : ℕ)
    → list_any (λ (r : GeneralResult). mentions r.set v) found ≡ true → occurs_in F parts v ≡ true
sets_occur F [] [] results v e = absurd (let f : ⊥ = cc in f)
sets_occur F [] (r ∷ found) results v e = absurd results
sets_occur F (ps ∷ parts) [] results v e = absurd results
sets_occur F (ps ∷ parts) (r ∷ found) results v e = elim (or_true (mentions r.set v) (list_any (λ (r : GeneralResult). mentions r.set v) found) e) [
  | inl here ↦ or_left (variable_occurs F ps v) _ (results.0.on_part v here)
  | inr later ↦ or_right (variable_occurs F ps v) _ (sets_occur F parts found results.1 v later)
]

-- and so is one of some kept clauses
kept_occur : (F : Cnf) (parts : List (List ℕ)) (found : List GeneralResult) → AreGeneralResults F parts found → (v : ℕ)
    → list_any (λ (r : GeneralResult). variable_occurs F r.kept v) found ≡ true → occurs_in F parts v ≡ true
kept_occur F [] [] results v e = absurd (let f : ⊥ = cc in f)
kept_occur F [] (r ∷ found) results v e = absurd results
kept_occur F (ps ∷ parts) [] results v e = absurd results
kept_occur F (ps ∷ parts) (r ∷ found) results v e =
    elim (or_true (variable_occurs F r.kept v) (list_any (λ (r : GeneralResult). variable_occurs F r.kept v) found) e) [
      | inl here ↦ or_left (variable_occurs F ps v) _ (occurs_more F r.kept ps v results.0.within here)
      | inr later ↦ or_right (variable_occurs F ps v) _ (kept_occur F parts found results.1 v later)
    ]

-- no variable of a set line is one of kept clauses
sets_unkept : (F : Cnf) (parts : List (List ℕ)) (found : List GeneralResult) → AreApart F parts → AreGeneralResults F parts found → (v : ℕ)
    → list_any (λ (r : GeneralResult). mentions r.set v) found ≡ true → list_any (λ (r : GeneralResult). variable_occurs F r.kept v) found ≡ true → ⊥
sets_unkept F [] [] apart results v e k = let f : ⊥ = cc in f
sets_unkept F [] (r ∷ found) apart results v e k = results
sets_unkept F (ps ∷ parts) [] apart results v e k = results
sets_unkept F (ps ∷ parts) (r ∷ found) apart results v e k =
    elim (or_true (mentions r.set v) (list_any (λ (r : GeneralResult). mentions r.set v) found) e) [
      | inl here ↦ elim (or_true (variable_occurs F r.kept v) (list_any (λ (r : GeneralResult). variable_occurs F r.kept v) found) k) [
        | inl kept ↦ both_ways (variable_occurs F r.kept v) (results.0.unkept v here) kept
        | inr later ↦ both_ways (occurs_in F parts v) (apart.0 v (results.0.on_part v here)) (kept_occur F parts found results.1 v later)
      ]
      | inr there ↦ elim (or_true (variable_occurs F r.kept v) (list_any (λ (r : GeneralResult). variable_occurs F r.kept v) found) k) [
        | inl kept ↦ both_ways (occurs_in F parts v) (apart.0 v (occurs_more F r.kept ps v results.0.within kept)) (sets_occur F parts found results.1 v there)
        | inr later ↦ sets_unkept F parts found apart.1 results.1 v there later
      ]
    ]

-- a literal of some set line is on a variable that one mentions
literals_mentioned : (found : List GeneralResult) (k : ℤ) → list_any (λ (r : GeneralResult). contains r.set k) found ≡ true
    → list_any (λ (r : GeneralResult). mentions r.set (variable k)) found ≡ true
literals_mentioned [] k e = absurd (let f : ⊥ = cc in f)
literals_mentioned (r ∷ found) k e = elim (or_true (contains r.set k) (list_any (λ (r : GeneralResult). contains r.set k) found) e) [
  | inl here ↦ or_left (mentions r.set (variable k)) _ (mentions_of r.set k here)
  | inr later ↦ or_right (mentions r.set (variable k)) _ (literals_mentioned found k later)
]

-- literals that satisfy the clause, on variables of the parts, which are all there on these
record IsSatisfiedBy (F : Cnf) (parts : List (List ℕ)) (found : List GeneralResult) (p : ℕ) : Type 0 where
  literals : List ℤ
  on_parts : (v : ℕ) → mentions literals v ≡ true → occurs_in F parts v ≡ true
  same : (k : ℤ) → mentions literals (variable k) ≡ true → list_any (λ (r : GeneralResult). contains r.set k) found ≡ contains literals k
  satisfied : satisfies (assignment_of literals) (clause_at F p) ≡ true

-- each clause of a part that is not kept has such literals
removed_satisfied : (F : Cnf) (parts : List (List ℕ)) (found : List GeneralResult) → AreApart F parts → AreGeneralResults F parts found → (p : ℕ)
    → list_any (λ part. among part p) parts ≡ true → list_any (λ (r : GeneralResult). among r.kept p) found ≡ false → IsSatisfiedBy F parts found p
removed_satisfied F [] [] apart results p e n = absurd (let f : ⊥ = cc in f)
removed_satisfied F [] (r ∷ found) apart results p e n = absurd results
removed_satisfied F (ps ∷ parts) [] apart results p e n = absurd results
removed_satisfied F (ps ∷ parts) (r ∷ found) apart results p e n =
    let out = or_false (among r.kept p) (list_any (λ (r : GeneralResult). among r.kept p) found) n in
    elim (or_true (among ps p) (list_any (λ part. among part p) parts) e) [
      | inl here ↦ record {
        literals = r.set;
        on_parts = λ v m. or_left (variable_occurs F ps v) _ (results.0.on_part v m);
        same = λ k m. or_none (contains r.set k) (list_any (λ (r : GeneralResult). contains r.set k) found) (false_from_ne_true _ (λ c.
            both_ways (occurs_in F parts (variable k)) (apart.0 (variable k) (results.0.on_part (variable k) m))
            (sets_occur F parts found results.1 (variable k) (literals_mentioned found k c))));
        satisfied = results.0.satisfied p here out.0;
      }
      | inr later ↦
          (let w = removed_satisfied F parts found apart.1 results.1 p later out.1 in
          record {
            literals = w.literals;
            on_parts = λ v m. or_right (variable_occurs F ps v) _ (w.on_parts v m);
            same = λ k m. none_or (contains r.set k) (list_any (λ (r : GeneralResult). contains r.set k) found) (false_from_ne_true _ (λ c.
                both_ways (occurs_in F parts (variable k)) (apart.0 (variable k) (results.0.on_part (variable k) (mentions_of r.set k c))) (w.on_parts (variable k) m))) ∙ w.same k m;
            satisfied = w.satisfied;
          })
    ]
  where
    or_none : (a b : Bool) → b ≡ false → (a || b) ≡ a
    or_none true b e = refl
    or_none false b e = e

    none_or : (a b : Bool) → a ≡ false → (a || b) ≡ b
    none_or false b e = refl
    none_or true b e = absurd (let f : ⊥ = cc in f)

-- ALL PARTS

-- a variable of all positions, where it is one of a part
part_occurs : (F : Cnf) (parts : List (List ℕ)) (v : ℕ) → occurs_in F parts v ≡ true → variable_occurs F (positions_of F) v ≡ true
part_occurs F [] v e = absurd (let f : ⊥ = cc in f)
part_occurs F (ps ∷ parts) v e = elim (or_true (variable_occurs F ps v) (occurs_in F parts v) e) [
  | inl here ↦ (let w = position_with F ps v here in occurs F (positions_of F) w.0 v (in_positions F w.0 (part.is_position F w.0 v w.2)) w.2)
  | inr later ↦ part_occurs F parts v later
]

-- a variable of what is kept of all is one of what some result keeps
kept_somewhere : (F : Cnf) (found : List GeneralResult) (p v : ℕ) → list_any (λ (r : GeneralResult). among r.kept p) found ≡ true → mentions (clause_at F p) v ≡ true
    → list_any (λ (r : GeneralResult). variable_occurs F r.kept v) found ≡ true
kept_somewhere F [] p v e m = absurd (let f : ⊥ = cc in f)
kept_somewhere F (r ∷ found) p v e m = elim (or_true (among r.kept p) (list_any (λ (r : GeneralResult). among r.kept p) found) e) [
  | inl here ↦ or_left (variable_occurs F r.kept v) _ (occurs F r.kept p v here m)
  | inr later ↦ or_right (variable_occurs F r.kept v) _ (kept_somewhere F found p v later m)
]

-- a variable of the set line is one of some result's
set_somewhere : (found : List GeneralResult) (t : GeneralResult) (v : ℕ) → ((l : ℤ) → contains t.set l ≡ list_any (λ (r : GeneralResult). contains r.set l) found)
    → mentions t.set v ≡ true → list_any (λ (r : GeneralResult). mentions r.set v) found ≡ true
set_somewhere found t v literals m =
    let w = literal_passing (λ l. variable l == v) t.set m in
    subst (λ (u : ℕ). list_any (λ (r : GeneralResult). mentions r.set u) found ≡ true) (eqb-true (variable w.0) v w.2) (literals_mentioned found w.0 (sym (literals w.0) ∙ w.1))

-- no positions need no rounds
nothing_certified : (F : Cnf) → IsCertified F no_variable [] []
nothing_certified F = record { steps = refl; whole = refl; stated = no_rounds F; blocked = λ v e. absurd (let f : ⊥ = cc in f) }

-- so what is found in all parts is found in all positions
pub all_parts : (F : Cnf) (parts : List (List ℕ)) (found : List GeneralResult) (t : GeneralResult) → AreParts F parts → AreGeneralResults F parts found
    → AreJoined F found t → length F.clauses + sum_by (λ (r : GeneralResult). length (steps_of r.rounds)) found < 2 ^ 64 → IsGeneralResult F (positions_of F) t
all_parts F parts found t are results j fits =
    let apart = parts_apart F 0 (length F.clauses) parts are.order are.each in
    let rounds = all_certified F [] [] parts found (nothing_certified F) (λ v e. absurd (let f : ⊥ = cc in f)) apart results
    (start (length F.clauses) (sum_by (λ (r : GeneralResult). length (steps_of r.rounds)) found) (2 ^ 64) fits) in
    let kept = certified_same F (all_kept [] found) t.kept (all_joined F [] found) (λ p. among_all_kept [] found p ∙ sym (j.kept p)) rounds in
    record {
      positions = j.positions;
      within = λ p e. let b = bounded 0 (length F.clauses) t.kept p j.positions e in let most = b.1 in among-range 1 (length F.clauses) p b.0 (omega (arith, most));
      rounds = subst (λ (us : List Round). IsCertified F no_variable t.kept us) (sym j.rounds) kept;
      set = j.set;
      on_part = λ v m. part_occurs F parts v (sets_occur F parts found results v (set_somewhere found t v j.literals m));
      unkept = λ v m. false_from_ne_true _ (λ e.
          let w = position_with F t.kept v e in
          sets_unkept F parts found apart results v (set_somewhere found t v j.literals m) (kept_somewhere F found w.0 v (sym (j.kept w.0) ∙ w.1) w.2));
      satisfied = λ p inside out.
          let w = removed_satisfied F parts found apart results p (are.whole p (is_position F p inside)) (sym (j.kept p) ∙ out) in
          satisfied_where_same w.literals t.set (clause_at F p) (λ k m. j.literals k ∙ w.same k m) w.satisfied;
    }
  where
    start : (m c top : ℕ) → m + c < top → m + 0 + c < top
    start m c top h = omega (arith, h)
