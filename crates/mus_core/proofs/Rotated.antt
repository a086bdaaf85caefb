-- Witnesses that are put and flipped.
use Rattle.std.specs.Prelude.{⊤}
use Rattle.std.proofs.Common.{OnOk, Result, Ok, Err, IsTrue, ◌≡◌, ◌≢◌, ◌⊎◌, ℕ, ◌+◌, ◌<◌, ◌≤◌, Bool, true, false, not, ◌&&◌, ◌||◌, ◌==◌, List, refl, sym, ◌∙◌, ap, subst, arith, ℤ, Option, Some, None, IfSome, is_some, inl, inr, filter, length, take, get_or}
use Rattle.std.specs.List.{list_all}
use Rattle.std.proofs.lemmas.Bool.{both_ways, cases_Bool, eqb-true, eq-eqb}
use Rattle.lk_model.specs.Lists.{among, is_nonzero}
use Rattle.lk_model.specs.Formulas.Literal.{complement, contains}
use Rattle.lk_model.specs.Formulas.Formula.{Cnf, clause_at, positions_of}
use Rattle.lk_model.specs.Formulas.Assignment.{Assignment, satisfies, IsModel}
use Rattle.lk_model.specs.Formulas.Autarky.{Positions}
use Rattle.lk_model.specs.Formulas.Lean.{are_positions}
use Rattle.lk_model.specs.Formulas.Minimal.{all_but, with_made_true}
use Rattle.lk_model.specs.Held.PartialValues.{assignment_by}
use Rattle.lk_model.proofs.Booleans.{and_true, or_true, or_left, or_right}
use Rattle.lk_model.proofs.Counting.{in_filter, from_filter, among-range}
use Rattle.lk_model.proofs.Founds.{up_to_bounds}
use Rattle.lk_model.proofs.ListTests.{all_weaker, one_number}
use Rattle.lk_model.proofs.Rising.{bounded}
use Rattle.general_laws.proofs.WitnessLaws.{witness_law}
use Rattle.occurrence_lists.specs.Occurrences.{AreOccurrences}
use Rattle.mus_core.specs.declared.rotation.Rotating.{Rotating}
use Rattle.mus_core.specs.Flags.{flag_at}
use Rattle.mus_core.specs.Rotations.{fails, IsOnly, IsRotating, IsWitnessOf, WentOn}
use Rattle.mus_core.specs.WitnessValues.{witness_at, AreHeld, IsRotated}
use Rattle.mus_core.proofs.Flagging.{one_more}

-- A WITNESS IS PUT

pub record IsPut (ws us : List (Option (List (Option Bool)))) (p : ℕ) (values : List (Option Bool)) : Type 0 where
  pub size : length us ≡ length ws
  pub own : witness_at us p ≡ Some values
  pub others : (q : ℕ) → 0 < q → q ≢ p → witness_at us q ≡ witness_at ws q

-- each place has the new values, or what it had
either : (ws us : List (Option (List (Option Bool)))) (p : ℕ) (values : List (Option Bool)) → IsPut ws us p values → (q : ℕ)
    → (witness_at us q ≡ Some values) ⊎ (witness_at us q ≡ witness_at ws q)
either ws us p values put q = elim (cases_Bool (q == p)) [
  | inl here ↦ inl (ap (witness_at us) (eqb-true q p here) ∙ put.own)
  | inr other ↦ elim (cases_Bool (q == 0)) [
    | inl none ↦ (let zero_is = eqb-true q 0 none in elim (cases_Bool (1 == p)) [
      | inl here ↦ inl (ap (witness_at us) zero_is ∙ ap (witness_at us) (eqb-true 1 p here) ∙ put.own)
      | inr apart ↦ inr (ap (witness_at us) zero_is ∙ put.others 1 (omega arith) (λ s. both_ways (1 == p) apart (eq-eqb 1 p s)) ∙ ap (witness_at ws) (sym zero_is))
    ])
    | inr some ↦ inr (put.others q (above q some) (λ s. both_ways (q == p) other (eq-eqb q p s)))
  ]
]
  where
    above : (q : ℕ) → (q == 0) ≡ false → 0 < q
    above q e = let apart : q ≢ 0 = λ s. both_ways (q == 0) e (eq-eqb q 0 s) in omega (arith, apart)

some_of : {X : Type 0} (a b : X) → (let o : Option X = Some a in o) ≡ Some b → a ≡ b
some_of a b e = let f : a ≡ b = cc in f

pub put_held : (F : Cnf) (S : Positions) (ws us : List (Option (List (Option Bool)))) (p : ℕ) (values : List (Option Bool)) → AreHeld F S ws
    → ((q : ℕ) → S q ≡ true → 0 < q) → IsModel F (all_but S p) (assignment_by values) → length values ≡ F.vars → IsPut ws us p values → IsRotated F S ws us
put_held F S ws us p values h above model vars put = record {
  held = record {
    size = put.size ∙ h.size;
    vars = λ q. elim (either ws us p values put q) [
      | inl new ↦ subst (λ (o : Option (List (Option Bool))). IfSome o (λ values. length values ≡ F.vars)) (sym new) vars
      | inr old ↦ subst (λ (o : Option (List (Option Bool))). IfSome o (λ values. length values ≡ F.vars)) (sym old) (h.vars q)
    ];
    witnesses = λ q old m e. elim (cases_Bool (q == p)) [
      | inl here ↦
          (let same = eqb-true q p here in
          let v : values ≡ old = some_of values old (sym put.own ∙ ap (witness_at us) (sym same) ∙ e) in
          subst (λ (k : ℕ). IsModel F (all_but S k) (assignment_by old)) (sym same) (subst (λ (vs : List (Option Bool)). IsModel F (all_but S p) (assignment_by vs)) v model))
      | inr other ↦ h.witnesses q old m (sym (put.others q (above q m) (λ s. both_ways (q == p) other (eq-eqb q p s))) ∙ e)
    ];
  };
  kept = λ q e. elim (either ws us p values put q) [
    | inl new ↦ ap is_some new
    | inr old ↦ ap is_some old ∙ e
  ];
}

-- one after the other
pub rotated_then : (F : Cnf) (S : Positions) (ws us vs : List (Option (List (Option Bool)))) → IsRotated F S ws us → IsRotated F S us vs → IsRotated F S ws vs
rotated_then F S ws us vs first second = record { held = second.held; kept = λ q e. second.kept q (first.kept q e) }

-- what is held at a place of the set is a witness for it
pub witness_held : (c : Rotating) (ws : List (Option (List (Option Bool)))) (p : ℕ) (values : List (Option Bool)) → AreHeld c.clauses.now (flag_at c.inside.now) ws
    → flag_at c.inside.now p ≡ true → witness_at ws p ≡ Some values → IsWitnessOf c p values
witness_held c ws p values h there is = record {
  vars = subst (λ (o : Option (List (Option Bool))). IfSome o (λ values. length values ≡ c.clauses.now.vars)) is (h.vars p);
  satisfied = h.witnesses p values there is;
}

-- ONE CLAUSE ALONE

abbrev pub FoundIn : (ℕ → Bool) → List ℕ → Option ℕ → Type 0
FoundIn t ks None = list_all (λ k. not (t k)) ks ≡ true
FoundIn t ks (Some q) = (t q ≡ true) × (list_all (λ k. k == q || not (t k)) ks ≡ true)

pub found_still : (t : ℕ → Bool) (ks : List ℕ) (i k : ℕ) (found : Option ℕ) → i < length ks → k ≡ get_or ks i k → FoundIn t (take i ks) found → t k ≡ false
    → FoundIn t (take (i + 1) ks) found
found_still t ks i k None lt is h e = one_more (λ k. not (t k)) ks i k lt is h (ap not e)
found_still t ks i k (Some q) lt is h e = (h.0, one_more (λ k. k == q || not (t k)) ks i k lt is h.1 (or_right (k == q) (not (t k)) (ap not e)))

pub found_first : (t : ℕ → Bool) (ks : List ℕ) (i k : ℕ) → i < length ks → k ≡ get_or ks i k → FoundIn t (take i ks) None → t k ≡ true
    → FoundIn t (take (i + 1) ks) (Some k)
found_first t ks i k lt is h e = (
  e,
  one_more (λ j. j == k || not (t j)) ks i k lt is (all_weaker (λ j. not (t j)) (λ j. j == k || not (t j)) (λ j n. or_right (j == k) (not (t j)) n) (take i ks) h)
      (or_left (k == k) (not (t k)) (eq-eqb k k refl)),
)

settled : (a b : Bool) → a ≡ true → not (a && not b) ≡ true → b ≡ true
settled true true a n = refl
settled true false a n = absurd (let f : ⊥ = cc in f)
settled false b a n = absurd (let f : ⊥ = cc in f)

pub only : (c : Rotating) (φ : Assignment) (l : ℤ) (ks : List ℕ) (q : ℕ) → IsRotating c
    → ks ≡ filter (λ p. contains (clause_at c.clauses.now p) (complement l)) (positions_of c.clauses.now) → FoundIn (fails c φ l) ks (Some q) → IsOnly c φ l q
only c φ l ks q core is h = record {
  there = (and_true (flag_at c.inside.now q) (not (satisfies (with_made_true φ l) (clause_at G q))) h.0).0;
  others = λ k inside against apart.
      let low = core.first k inside in
      let high = core.last k inside in
      let m = subst (λ (ps : List ℕ). among ps k ≡ true) (sym is)
      (in_filter (λ p. contains (clause_at G p) (complement l)) (positions_of G) k against (among-range 1 (length G.clauses) k (omega (arith, low)) (omega (arith, high)))) in
      elim (or_true (k == q) (not (fails c φ l k)) (one_number (λ k. k == q || not (fails c φ l k)) ks k h.1 m)) [
        | inl same ↦ absurd (apart (eqb-true k q same))
        | inr n ↦ settled (flag_at c.inside.now k) (satisfies (with_made_true φ l) (clause_at G k)) inside n
      ];
}
  where
    G : Cnf
    G = c.clauses.now

pub only_found : (c : Rotating) (φ : Assignment) (l : ℤ) (ks : List ℕ) (found : Option ℕ) → IsRotating c
    → ks ≡ filter (λ p. contains (clause_at c.clauses.now p) (complement l)) (positions_of c.clauses.now) → FoundIn (fails c φ l) ks found → IfSome found (IsOnly c φ l)
only_found c φ l ks None core is h = tt
only_found c φ l ks (Some q) core is h = only c φ l ks q core is h

pub is_none : (o : Option ℕ) → is_some o ≡ false → o ≡ None
is_none None e = refl
is_none (Some q) e = absurd (let f : ⊥ = cc in f)

-- the positions with a literal are positions
pub against_bounds : (G : Cnf) (l : ℤ) (ks : List ℕ) (k : ℕ) → ks ≡ filter (λ p. contains (clause_at G p) (complement l)) (positions_of G) → among ks k ≡ true
    → (0 < k) × (k ≤ length G.clauses)
against_bounds G l ks k is m =
    let w = from_filter (λ p. contains (clause_at G p) (complement l)) (positions_of G) k (subst (λ (ps : List ℕ). among ps k ≡ true) is m) in
    let b = up_to_bounds (length G.clauses) k w.1 in
    let low = b.0 in
    (omega (arith, low), b.1)

-- FLIPPED

pub flipped : (c : Rotating) (p q : ℕ) (l : ℤ) (values copy new : List (Option Bool)) → IsWitnessOf c p values → is_nonzero l ≡ true
    → contains (clause_at c.clauses.now p) l ≡ true → IsOnly c (assignment_by values) l q → copy ≡ values
    → ((v : ℕ) → assignment_by new v ≡ with_made_true (assignment_by copy) l v) → IsModel c.clauses.now (all_but (flag_at c.inside.now) q) (assignment_by new)
flipped c p q l values copy new w real there only_one copied made =
    subst (λ (φ : Assignment). IsModel c.clauses.now (all_but (flag_at c.inside.now) q) φ) (sym same)
    (witness_law.rotates c.clauses.now (flag_at c.inside.now) p q l (assignment_by values) real w.satisfied there only_one.others)
  where
    same : assignment_by new ≡ with_made_true (assignment_by values) l
    same = (λ j v. made v j) ∙ ap (λ (vs : List (Option Bool)). with_made_true (assignment_by vs) l) copied

-- ALL PLACES

-- flags of places say which they are
pub same_set : (flags : List Bool) (places : List ℕ) → ((k : ℕ) → flag_at flags k ≡ among places k) → flag_at flags ≡ among places
same_set flags places h j k = h k j

pub is_rotating : (c : Rotating) (places : List ℕ) → AreOccurrences c.clauses.now c.lists.now → are_positions c.clauses.now places ≡ true
    → flag_at c.inside.now ≡ among places → IsRotating c
is_rotating c places lists rise same = record {
  lists = lists;
  first = λ k e. (bounded 0 (length c.clauses.now.clauses) places k rise (subst (λ (S : Positions). S k ≡ true) same e)).0;
  last = λ k e. (bounded 0 (length c.clauses.now.clauses) places k rise (subst (λ (S : Positions). S k ≡ true) same e)).1;
}

pub rotation_ends : {E : Type 0} (result : Result ⊤ E) (c : Rotating) (places walk : List ℕ) (ws us : List (Option (List (Option Bool))))
    → flag_at c.inside.now ≡ among places → OnOk result (WentOn c ws us walk) → OnOk result (IsRotated c.clauses.now (among places) ws us)
rotation_ends (Ok u) c places walk ws us same h = subst (λ (S : Positions). IsRotated c.clauses.now S ws us) same h.rotated
rotation_ends (Err e) c places walk ws us same h = tt

pub given_ends : {E : Type 0} (result : Result ⊤ E) (F : Cnf) (S : Positions) (ws us vs : List (Option (List (Option Bool)))) (p : ℕ) (values : List (Option Bool))
    → IsRotated F S ws us → witness_at us p ≡ Some values → OnOk result (IsRotated F S us vs)
    → OnOk result (IsRotated F S ws vs) × OnOk result (IsTrue (is_some (witness_at vs p)))
given_ends (Ok u) F S ws us vs p values put own h = (rotated_then F S ws us vs put h, h.kept p (ap is_some own))
given_ends (Err e) F S ws us vs p values put own h = (tt, tt)
