-- The run over the live clauses.
use Rattle.std.proofs.Common.{◌≡◌, ℕ, zero, suc, ◌+◌, ◌<◌, ◌≤◌, ◌∙◌, Bool, true, false, not, ◌&&◌, ◌||◌, List, [], ◌∷◌, ◌++◌, length, append_assoc, refl, sym, ap, subst, arith, ℤ, pos, inl, inr, Some, None}
use Rattle.std.specs.Prelude.{filter, find, count_by, neg_ℤ, ◌==◌, nat_lt, flat_map}
use Rattle.std.specs.List.{list_any, range_with_len, All}
use Rattle.std.proofs.lemmas.List.Elements.{All-filter, All-same}
use Rattle.std.proofs.lemmas.Bool.{cases_Bool, leb-true, le-leb}
use Rattle.std.proofs.lemmas.List.{append-nil}
use Rattle.lk_model.specs.Lists.{among}
use Rattle.lk_model.specs.Formulas.Literal.{variable, complement, contains, mentions, is_literal}
use Rattle.lk_model.specs.Formulas.Formula.{Cnf, clause_at, positions_of, literal_occurs}
use Rattle.lk_model.specs.Formulas.Assignment.{assignment_of, touches}
use Rattle.lk_model.specs.Formulas.Lean.{all_of}
use Rattle.lk_model.specs.Formulas.PureRun.{untouched, is_pure_at, least_pure, literals_to, RunsOn}
use Rattle.lk_model.proofs.Booleans.{and_true, or_true, or_left, or_right}
use Rattle.lk_model.proofs.Literals.{complement_literal, variable_negative}
use Rattle.lk_model.proofs.Counting.{among-filter}
use Rattle.kernel_laws.proofs.Clauses.{mentions_of}
use Rattle.kernel_laws.proofs.Occurrences.{in_positions}
use Rattle.pure_laws.proofs.PureLiterals.{no_complement, least_is_pure, mentions_is, touches_more}
use Rattle.pure_strip.specs.Counted.{Counted, count_of, is_lone, least_lone}
use Rattle.pure_strip.specs.Live.{is_live, AreCounted, AreUntouched, GoDown}
use Rattle.pure_strip.proofs.Selections.{count_by-filter, any_by_count, none_by_count, filter-agree, length-filter-lt}
use Rattle.pure_strip.proofs.ListLemmas.{up_to-bounds}

-- THE LIVE CLAUSES AND THE COUNTS

-- a position of the formula
position : (F : Cnf) (p : ℕ) → 1 ≤ p → p < 1 + length F.clauses → all_of F p ≡ true
position F p low high = rw (le-leb 1 p low, le-leb p (length F.clauses) (omega (arith, high))) refl

-- the live positions are the untouched ones
pub live_is_untouched : (F : Cnf) (order : List ℤ) (live : List Bool) → AreUntouched F order live → filter (is_live live) (positions_of F) ≡ untouched F order
live_is_untouched F order live h = filter-agree 1 (length F.clauses) (is_live live) (λ p. not (touches (assignment_of order) (clause_at F p))) (λ p low high. h.told p (position F p low high))

-- the count of a literal, over the live positions
count_is : (F : Cnf) (live : List Bool) (c : Counted) (l : ℤ) → AreCounted F live c → is_literal F.vars l ≡ true → count_of c.counts l ≡ count_by (λ p. contains (clause_at F p) l) (filter (is_live live) (positions_of F))
count_is F live c l h lit = h.counted l lit ∙ count_by-filter (is_live live) (λ p. contains (clause_at F p) l) (positions_of F)

-- a literal is lone by the counts where it is pure in the live clauses
lone_is_pure : (F : Cnf) (live : List Bool) (c : Counted) (l : ℤ) → AreCounted F live c → is_literal F.vars l ≡ true → is_lone c.counts l ≡ is_pure_at F (filter (is_live live) (positions_of F)) l
lone_is_pure F live c l h lit =
    let ps = filter (is_live live) (positions_of F) in
    let itself : nat_lt 0 (count_of c.counts l) ≡ literal_occurs F ps l = ap (nat_lt 0) (count_is F live c l h lit) ∙ any_by_count (λ p. contains (clause_at F p) l) ps in
    let other : (count_of c.counts (complement l) == 0) ≡ not (literal_occurs F ps (complement l)) =
    ap (λ k. k == 0) (count_is F live c (complement l) h (complement_literal F.vars l lit)) ∙ none_by_count (λ p. contains (clause_at F p) (complement l)) ps in
    ap (λ (b : Bool). b && (count_of c.counts (complement l) == 0)) itself ∙ ap (λ (b : Bool). literal_occurs F ps l && b) other

-- tests that agree on the literals find the same one
find-agree : (s t : ℤ → Bool) (a n : ℕ) → ((l : ℤ) → a ≤ variable l → variable l < a + n → s l ≡ t l)
    → find s (flat_map (λ v. pos v ∷ neg_ℤ (pos v) ∷ []) (range_with_len a n)) ≡ find t (flat_map (λ v. pos v ∷ neg_ℤ (pos v) ∷ []) (range_with_len a n))
find-agree s t a zero h = refl
find-agree s t a (suc n) h =
    let here : s (pos a) ≡ t (pos a) = h (pos a) (omega arith) (omega arith) in
    let there : s (neg_ℤ (pos a)) ≡ t (neg_ℤ (pos a)) = h (neg_ℤ (pos a)) (omega (arith, variable_negative a)) (omega (arith, variable_negative a)) in
    let rest = find-agree s t (a + 1) n (λ l low high. h l (omega (arith, low)) (omega (arith, high))) in
    rw (here, there, rest) refl

within_literal : (n : ℕ) (l : ℤ) → 1 ≤ variable l → variable l < 1 + n → is_literal n l ≡ true
within_literal n l low high = rw (le-leb 1 (variable l) low, le-leb (variable l) n (omega (arith, high))) refl

-- the least lone literal is the least pure one
pub least_is : (F : Cnf) (order : List ℤ) (live : List Bool) (c : Counted) → AreCounted F live c → AreUntouched F order live → least_lone c ≡ least_pure F (untouched F order)
least_is F order live c counted h =
    ap (λ n. find (is_lone c.counts) (literals_to n)) counted.vars
    ∙ find-agree (is_lone c.counts) (is_pure_at F (filter (is_live live) (positions_of F))) 1 F.vars (λ l low high. lone_is_pure F live c l counted (within_literal F.vars l low high))
    ∙ ap (least_pure F) (live_is_untouched F order live h)

-- ONE LITERAL MORE

inside : (F : Cnf) (p : ℕ) → all_of F p ≡ true → (1 ≤ p) × (p ≤ length F.clauses)
inside F p e = let b = and_true _ _ e in (leb-true 1 p b.0, leb-true p (length F.clauses) b.1)

-- the live clauses after one literal more
pub Untouched-more : (F : Cnf) (order : List ℤ) (live after : List Bool) (l : ℤ) (list : List ℕ) → AreUntouched F order live → least_pure F (untouched F order) ≡ Some l
    → list ≡ filter (λ p. contains (clause_at F p) l) (positions_of F) → GoDown list (length F.clauses) live after → AreUntouched F (order ++ l ∷ []) after
Untouched-more F order live after l list h e list_is down = record {
  size = down.size ∙ h.size;
  told = λ p within.
      let b = inside F p within in
      let c = clause_at F p in
      let among_is : among list p ≡ contains c l =
      ap (λ (ns : List ℕ). among ns p) list_is ∙ among-filter (λ q. contains (clause_at F q) l) (positions_of F) p ∙ ap (λ (t : Bool). contains c l && t) (in_positions F p within) ∙ and_yes (contains c l) in
      let left : is_live after p ≡ (not (touches (assignment_of order) c) && not (contains c l)) =
      down.down p b.0 b.1 ∙ ap (λ (t : Bool). t && not (among list p)) (h.told p within) ∙ ap (λ (t : Bool). not (touches (assignment_of order) c) && not t) among_is in
      left ∙ elim (cases_Bool (touches (assignment_of order) c)) [
        | inl y ↦
            ap (λ (t : Bool). not t && not (contains c l)) y
            ∙ sym (ap not (touches_more order c l) ∙ ap (λ (t : Bool). not (t || mentions c (variable l))) y)
        | inr y ↦
            let there : among (untouched F order) p ≡ true =
            among-filter (λ q. not (touches (assignment_of order) (clause_at F q))) (positions_of F) p ∙ ap (λ (t : Bool). not t && among (positions_of F) p) y ∙ in_positions F p within in
            let other = no_complement F (untouched F order) l p (least_is_pure F (untouched F order) l e) there in
            ap (λ (t : Bool). not t && not (contains c l)) y ∙ ap not (sym (mentions_is c l other))
            ∙ sym (ap not (touches_more order c l) ∙ ap (λ (t : Bool). not (t || mentions c (variable l))) y)
      ];
}
  where
    and_yes : (b : Bool) → (b && true) ≡ b
    and_yes true = refl
    and_yes false = refl

-- a weaker test finds one where the other does
any-weaker : (s t : ℕ → Bool) (ps : List ℕ) → ((p : ℕ) → s p ≡ true → t p ≡ true) → list_any s ps ≡ true → list_any t ps ≡ true
any-weaker s t [] h e = absurd (let f : ⊥ = cc in f)
any-weaker s t (p ∷ ps) h e = elim (or_true (s p) (list_any s ps) e) [
  | inl here ↦ or_left (t p) (list_any t ps) (h p here)
  | inr later ↦ or_right (t p) (list_any t ps) (any-weaker s t ps h later)
]

-- some element of a filtered list passes where one passes both tests
any-filter : (s t : ℕ → Bool) (ps : List ℕ) → list_any t (filter s ps) ≡ list_any (λ p. s p && t p) ps
any-filter s t ps = sym (any_by_count t (filter s ps)) ∙ ap (nat_lt 0) (sym (count_by-filter s t ps)) ∙ any_by_count (λ p. s p && t p) ps

-- each literal of the run leaves fewer clauses untouched
pub fewer_untouched : (F : Cnf) (order : List ℤ) (l : ℤ) → least_pure F (untouched F order) ≡ Some l → length (untouched F (order ++ l ∷ [])) < length (untouched F order)
fewer_untouched F order l e =
    let s : ℕ → Bool = λ p. not (touches (assignment_of order) (clause_at F p)) in
    let t : ℕ → Bool = λ p. not (touches (assignment_of (order ++ l ∷ [])) (clause_at F p)) in
    let some : literal_occurs F (untouched F order) l ≡ true = (and_true _ (not (literal_occurs F (untouched F order) (complement l))) (least_is_pure F (untouched F order) l e)).0 in
    let both : list_any (λ p. s p && contains (clause_at F p) l) (positions_of F) ≡ true = sym (any-filter s (λ p. contains (clause_at F p) l) (positions_of F)) ∙ some in
    let stronger : (p : ℕ) → t p ≡ true → s p ≡ true = λ p h. stays (touches (assignment_of order) (clause_at F p)) (mentions (clause_at F p) (variable l)) (ap not (sym (touches_more order (clause_at F p) l)) ∙ h) in
    let lost : (p : ℕ) → (s p && contains (clause_at F p) l) ≡ true → (s p && not (t p)) ≡ true = λ p h.
    let parts = and_true (s p) (contains (clause_at F p) l) h in
    let touched : touches (assignment_of (order ++ l ∷ [])) (clause_at F p) ≡ true =
    touches_more order (clause_at F p) l ∙ or_right (touches (assignment_of order) (clause_at F p)) (mentions (clause_at F p) (variable l)) (mentions_of (clause_at F p) l parts.1) in
    ap (λ (b : Bool). b && not (t p)) parts.0 ∙ ap (λ (b : Bool). not (not b)) touched in
    length-filter-lt s t (positions_of F) stronger (any-weaker (λ p. s p && contains (clause_at F p) l) (λ p. s p && not (t p)) (positions_of F) lost both)
  where
    stays : (a b : Bool) → not (a || b) ≡ true → not a ≡ true
    stays true b h = h
    stays false b h = refl

-- the run goes on by its least pure literal
pub runs_more : (F : Cnf) (order : List ℤ) (l : ℤ) → least_pure F (untouched F order) ≡ Some l → ((later : List ℤ) → RunsOn F order later → RunsOn F [] (order ++ later))
    → (later : List ℤ) → RunsOn F (order ++ l ∷ []) later → RunsOn F [] ((order ++ l ∷ []) ++ later)
runs_more F order l e run later h = subst (λ (ls : List ℤ). RunsOn F [] ls) (sym (append_assoc order (l ∷ []) later)) (run (l ∷ later) (e, h))

-- it ends where there is none
pub runs_end : (F : Cnf) (order : List ℤ) → least_pure F (untouched F order) ≡ None → ((later : List ℤ) → RunsOn F order later → RunsOn F [] (order ++ later)) → RunsOn F [] order
runs_end F order e run = subst (λ (ls : List ℤ). RunsOn F [] ls) (append-nil order) (run [] e)

-- the positions at a literal's rank lie within the formula
pub listed_within : (F : Cnf) (l : ℤ) (list : List ℕ) → list ≡ filter (λ p. contains (clause_at F p) l) (positions_of F) → All (λ p. (0 < p) × (p ≤ length F.clauses)) list
listed_within F l list is =
    let P : ℕ → Type 0 = λ p. (0 < p) × (p ≤ length F.clauses) in
    let tested : ℕ → Bool = λ p. contains (clause_at F p) l in
    All-same P list (filter tested (positions_of F)) is (All-filter tested P (positions_of F) (up_to-bounds (length F.clauses)))
