-- The positions that pairs name, and what kept clauses show of them.
use Rattle.std.proofs.Common.{◌≡◌, ◌≢◌, ◌∙◌, ℕ, zero, suc, ◌+◌, ◌*◌, ◌<◌, ◌≤◌, Bool, true, false, cond, not, ◌&&◌, ◌||◌, List, [], ◌∷◌, ◌++◌, length, get_or, take, map, refl, sym, ap, subst, arith, ℤ, pos, negsuc, Option, Some, None, inl, inr, get_or-set_same, get_or-set_other}
use Rattle.std.specs.Prelude.{find, slice_set, ◌==◌, nat_le, neg_ℤ}
use Rattle.std.specs.List.{list_any, list_all}
use Rattle.std.specs.Option.{option_map_or}
use Rattle.std.proofs.lemmas.Bool.{cases_Bool, cases_eq, eq-eqb, ne_eqb, leb-true, le-leb, cond-true, cond-false}
use Rattle.std.proofs.lemmas.List.{length-set, take_more, get_or-map, length-map}
use Rattle.std.proofs.lemmas.List.Folds.{find-append}
use Rattle.std.proofs.Math.Bool.{or_assoc}
use Rattle.lk_model.specs.Lists.{among, rises_within}
use Rattle.lk_model.specs.Formulas.Literal.{variable, complement, contains, is_literal, is_positive, rank_of}
use Rattle.lk_model.specs.Formulas.Formula.{Cnf, clause_at, variable_occurs, variables_to}
use Rattle.lk_model.specs.Formulas.Crossed.{no_variable}
use Rattle.lk_model.specs.Documents.Documents.{pair_of}
use Rattle.lk_model.specs.Documents.Form.{is_pair}
use Rattle.lk_model.specs.Checks.Check.{line_fails, is_kept_with}
use Rattle.lk_model.specs.Checks.PureChecks.{bad_pair}
use Rattle.lk_model.specs.declared.document.Pair.{Pair}
use Rattle.lk_model.specs.declared.document.DoneDocument.{DoneDocument}
use Rattle.lk_model.proofs.Booleans.{and_true}
use Rattle.lk_model.proofs.Rising.{rises, rising_bounds}
use Rattle.check_tables.specs.LiteralSets.{has_literal}
use Rattle.check_tables.specs.Occurring.{AreOccurring}
use Rattle.check_pure_matching.specs.Pairs.{named_at, AreNamed, is_shown, AreShown, is_bad_at}
use Rattle.check_tables.proofs.KeptFlags.{find_to}

-- A PAIR MORE

-- a pair that rises with the others has a variable of the formula
pub pair_bounds : (n : ℕ) (pairs : List Pair) (i : ℕ) (d : Pair) → rises_within 0 n (map (λ (q : Pair). q.var) pairs) ≡ true → i < length pairs → (1 ≤ (get_or pairs i d).var) × ((get_or pairs i d).var ≤ n)
pair_bounds n pairs i d up lt =
    let b = rising_bounds 0 n (map (λ (q : Pair). q.var) pairs) i up (omega (arith, lt, length-map pairs (λ (q : Pair). q.var))) in
    let at = get_or-map (λ (q : Pair). q.var) pairs i d 0 lt in
    (omega (arith, b.0, at), omega (arith, b.1, at))

-- the rank of its complement
pub rank_against : (v : ℕ) → 1 ≤ v → rank_of (neg_ℤ (pos v)) ≡ 2 * v + 1
rank_against zero low = absurd (omega (arith, low))
rank_against (suc k) low = refl

-- and no earlier pair has it
none_earlier : (low n : ℕ) (pairs : List Pair) (i v : ℕ) (d : Pair) → rises_within low n (map (λ (q : Pair). q.var) pairs) ≡ true → i < length pairs → v ≡ (get_or pairs i d).var → pair_of (take i pairs) v ≡ None
none_earlier low n [] i v d up lt is = absurd (omega (arith, lt))
none_earlier low n (q ∷ pairs) zero v d up lt is = refl
none_earlier low n (q ∷ pairs) (suc i) v d up lt is =
    let r = rises low n q.var (map (λ (p : Pair). p.var) pairs) up in
    let inside : i < length pairs = omega (arith, lt) in
    let b = rising_bounds q.var n (map (λ (p : Pair). p.var) pairs) i r.more (omega (arith, inside, length-map pairs (λ (p : Pair). p.var))) in
    let other : q.var ≢ v = λ e. absurd (omega (arith, e, is, b.0, get_or-map (λ (p : Pair). p.var) pairs i d 0 inside)) in
    rw (ne_eqb q.var v other) (none_earlier q.var n pairs i v d r.more inside is)

-- the pair of a variable among one more
pair_own : (pairs : List Pair) (q : Pair) (v : ℕ) → v ≡ q.var → pair_of pairs v ≡ None → pair_of (pairs ++ q ∷ []) v ≡ Some q
pair_own pairs q v same none = find-append (λ (p : Pair). p.var == v) pairs (q ∷ []) ∙ rw (none, eq-eqb q.var v (sym same)) refl

pair_other : (pairs : List Pair) (q : Pair) (v : ℕ) → v ≢ q.var → pair_of (pairs ++ q ∷ []) v ≡ pair_of pairs v
pair_other [] q v other = rw (ne_eqb q.var v (λ e. other (sym e))) refl
pair_other (p ∷ pairs) q v other = elim (cases_Bool (p.var == v)) [
  | inl y ↦ rw y refl
  | inr n ↦ rw n (pair_other pairs q v other)
]

-- both places of a pair in the table
abbrev pub with_pair : List ℕ → Pair → List ℕ
with_pair named q = slice_set (slice_set named (2 * q.var) q.with) (2 * q.var + 1) q.against

named_own : (named : List ℕ) (q : Pair) (l : ℤ) → 2 * q.var + 1 < length named → variable l ≡ q.var → get_or (with_pair named q) (rank_of l) 0 ≡ cond (is_positive l) q.with q.against
named_own named q (pos v) room same =
    let here : 2 * v ≡ 2 * q.var = omega (arith, same) in
    let apart : 2 * q.var ≢ 2 * q.var + 1 = λ e. absurd (omega (arith, e)) in
    ap (λ (r : ℕ). get_or (with_pair named q) r 0) here
    ∙ get_or-set_other (slice_set named (2 * q.var) q.with) (2 * q.var + 1) (2 * q.var) q.against 0 apart
    ∙ get_or-set_same named (2 * q.var) q.with 0 (omega (arith, room))
named_own named q (negsuc k) room same =
    let here : 2 * suc k + 1 ≡ 2 * q.var + 1 = omega (arith, same) in
    let size = length-set named (2 * q.var) q.with in
    ap (λ (r : ℕ). get_or (with_pair named q) r 0) here
    ∙ get_or-set_same (slice_set named (2 * q.var) q.with) (2 * q.var + 1) q.against 0 (omega (arith, room, size))

named_other : (named : List ℕ) (q : Pair) (l : ℤ) → variable l ≢ q.var → get_or (with_pair named q) (rank_of l) 0 ≡ get_or named (rank_of l) 0
named_other named q (pos v) other =
    let a : 2 * v ≢ 2 * q.var + 1 = λ e. absurd (omega (arith, e)) in
    let b : 2 * v ≢ 2 * q.var = λ e. other (omega (arith, e)) in
    get_or-set_other (slice_set named (2 * q.var) q.with) (2 * q.var + 1) (2 * v) q.against 0 a ∙ get_or-set_other named (2 * q.var) (2 * v) q.with 0 b
named_other named q (negsuc k) other =
    let a : 2 * suc k + 1 ≢ 2 * q.var + 1 = λ e. other (omega (arith, e)) in
    let b : 2 * suc k + 1 ≢ 2 * q.var = λ e. absurd (omega (arith, e)) in
    get_or-set_other (slice_set named (2 * q.var) q.with) (2 * q.var + 1) (2 * suc k + 1) q.against 0 a ∙ get_or-set_other named (2 * q.var) (2 * suc k + 1) q.with 0 b

-- the table of one pair more
pub named_more : (n : ℕ) (pairs : List Pair) (i : ℕ) (d : Pair) (named : List ℕ) → rises_within 0 n (map (λ (q : Pair). q.var) pairs) ≡ true → i < length pairs
    → AreNamed n (take i pairs) named → AreNamed n (take (i + 1) pairs) (with_pair named (get_or pairs i d))
named_more n pairs i d named up lt h =
    let q : Pair = get_or pairs i d in
    let b = pair_bounds n pairs i d up lt in
    let room : 2 * q.var + 1 < length named = omega (arith, h.size, b.1) in
    subst (λ (qs : List Pair). AreNamed n qs (with_pair named q)) (sym (take_more pairs i d lt)) (record {
      size = length-set (slice_set named (2 * q.var) q.with) (2 * q.var + 1) q.against ∙ length-set named (2 * q.var) q.with ∙ h.size;
      told = λ l lit. elim (cases_eq (variable l) q.var) [
        | inl same ↦
            let own = pair_own (take i pairs) q (variable l) same (none_earlier 0 n pairs i (variable l) d up lt same) in
            named_own named q l room same ∙ sym (ap (λ (o : Option Pair). option_map_or (λ (p : Pair). cond (is_positive l) p.with p.against) o 0) own)
        | inr other ↦
            let same = pair_other (take i pairs) q (variable l) other in
            named_other named q l other ∙ h.told l lit ∙ sym (ap (λ (o : Option Pair). option_map_or (λ (p : Pair). cond (is_positive l) p.with p.against) o 0) same)
      ];
    })

-- THE TEST OF A VARIABLE

-- a position that is named is shown where it is kept and holds the literal
pub shown_is : (t : ℕ → Bool) (ks : List ℕ) (x : ℕ) → list_any (λ p. p == x && t p) ks ≡ (among ks x && t x)
shown_is t [] x = refl
shown_is t (k ∷ ks) x = elim (cases_eq k x) [
  | inl same ↦
      let here : (k == x) ≡ true = eq-eqb k x same in
      let at : t k ≡ t x = ap t same in
      rw (here, at, shown_is t ks x) (absorbed (t x) (among ks x))
  | inr other ↦ rw (ne_eqb k x other) (shown_is t ks x)
]
  where
    absorbed : (a b : Bool) → (a || (b && a)) ≡ a
    absorbed true b = refl
    absorbed false true = refl
    absorbed false false = refl

-- what each pair passes, the pair of a variable passes
pair_passes : (s : Pair → Bool) (pairs : List Pair) (v : ℕ) (q : Pair) → list_all s pairs ≡ true → pair_of pairs v ≡ Some q → s q ≡ true
pair_passes s [] v q all e = absurd (let f : ⊥ = cc in f)
pair_passes s (p ∷ pairs) v q all e =
    let both = and_true (s p) (list_all s pairs) all in
    elim (cases_Bool (p.var == v)) [
      | inl y ↦ (let same : p ≡ q = cc (rw y at e) in ap s (sym same) ∙ both.0)
      | inr n ↦ pair_passes s pairs v q both.1 (rw n at e)
    ]

-- the pair of a variable is bad by the check
abbrev pub is_bad_pair : Cnf → List ℕ → List Pair → ℕ → Bool
is_bad_pair F kept pairs v = line_fails (variable_occurs F kept v) (pair_of pairs v) (λ (q : Pair).
    not (is_kept_with F kept q.with (λ c. contains c (pos v))) || not (is_kept_with F kept q.against (λ c. contains c (complement (pos v)))))

-- what the tables say of a variable
pub record AreTables (F : Cnf) (kept : List ℕ) (pairs : List Pair) (named : List ℕ) (occurring shown : List Bool) : Type 0 where
  pub named_so : AreNamed F.vars pairs named
  pub occurring_so : AreOccurring F kept occurring
  pub shown_so : AreShown F kept named shown

-- a literal is shown where its named position is kept and holds it
shown_at : (F : Cnf) (kept : List ℕ) (pairs : List Pair) (named : List ℕ) (occurring shown : List Bool) (l : ℤ) (p : ℕ) → AreTables F kept pairs named occurring shown → is_literal F.vars l ≡ true
    → named_at pairs l ≡ p → has_literal shown l ≡ is_kept_with F kept p (λ c. contains c l)
shown_at F kept pairs named occurring shown l p t lit is =
    t.shown_so.told l lit
    ∙ ap (λ (n : ℕ). is_shown F kept n l) (t.named_so.told l lit ∙ is)
    ∙ shown_is (λ (k : ℕ). contains (clause_at F k) l) kept p

-- so the tables tell whether the pair is bad
bad_told : (F : Cnf) (kept : List ℕ) (pairs : List Pair) (named : List ℕ) (occurring shown : List Bool) (v : ℕ) (o : Option Pair) → AreTables F kept pairs named occurring shown → list_all (is_pair (length F.clauses)) pairs ≡ true
    → 1 ≤ v → v ≤ F.vars → pair_of pairs v ≡ o → is_bad_at named occurring shown v ≡ is_bad_pair F kept pairs v
bad_told F kept pairs named occurring shown zero o t all low high is = absurd (omega (arith, low))
bad_told F kept pairs named occurring shown (suc k) None t all low high is =
    let lit : is_literal F.vars (pos (suc k)) ≡ true = rw (le-leb 1 (suc k) low, le-leb (suc k) F.vars high) refl in
    let none : get_or named (rank_of (pos (suc k))) 0 ≡ 0 = t.named_so.told (pos (suc k)) lit ∙ ap (λ (p : Option Pair). option_map_or (λ (q : Pair). q.with) p 0) is in
    cond-true (get_or named (rank_of (pos (suc k))) 0 == 0) _ _ (eq-eqb (get_or named (rank_of (pos (suc k))) 0) 0 none)
    ∙ t.occurring_so.told (suc k) low high
    ∙ sym (ap (λ (p : Option Pair). line_fails (variable_occurs F kept (suc k)) p (λ (q : Pair). not (is_kept_with F kept q.with (λ c. contains c (pos (suc k)))) || not (is_kept_with F kept q.against (λ c. contains c (complement (pos (suc k))))))) is)
bad_told F kept pairs named occurring shown (suc k) (Some q) t all low high is =
    let l : ℤ = pos (suc k) in
    let lit : is_literal F.vars l ≡ true = rw (le-leb 1 (suc k) low, le-leb (suc k) F.vars high) refl in
    let m : ℕ = length F.clauses in
    let ok = and_true (nat_le 1 q.with && nat_le q.with m) (nat_le 1 q.against && nat_le q.against m) (pair_passes (is_pair m) pairs (suc k) q all is) in
    let least : 1 ≤ q.with = leb-true 1 q.with (and_true (nat_le 1 q.with) (nat_le q.with m) ok.0).0 in
    let with_is : named_at pairs l ≡ q.with = ap (λ (p : Option Pair). option_map_or (λ (r : Pair). r.with) p 0) is in
    let against_is : named_at pairs (complement l) ≡ q.against = ap (λ (p : Option Pair). option_map_or (λ (r : Pair). r.against) p 0) is in
    let some : get_or named (rank_of l) 0 ≢ 0 = λ e. absurd (omega (arith, e, least, t.named_so.told l lit ∙ with_is)) in
    let a = t.occurring_so.told (suc k) low high in
    let b = shown_at F kept pairs named occurring shown l q.with t lit with_is in
    let c = shown_at F kept pairs named occurring shown (complement l) q.against t lit against_is in
    cond-false (get_or named (rank_of l) 0 == 0) _ _ (ne_eqb (get_or named (rank_of l) 0) 0 some)
    ∙ ap (λ (x : Bool). (not x || not (has_literal shown l)) || not (has_literal shown (complement l))) a
    ∙ ap (λ (x : Bool). (not (variable_occurs F kept (suc k)) || not x) || not (has_literal shown (complement l))) b
    ∙ ap (λ (x : Bool). (not (variable_occurs F kept (suc k)) || not (is_kept_with F kept q.with (λ d. contains d l))) || not x) c
    ∙ or_assoc (not (variable_occurs F kept (suc k))) (not (is_kept_with F kept q.with (λ d. contains d l))) (not (is_kept_with F kept q.against (λ d. contains d (complement l))))
    ∙ sym (ap (λ (p : Option Pair). line_fails (variable_occurs F kept (suc k)) p (λ (r : Pair). not (is_kept_with F kept r.with (λ d. contains d l)) || not (is_kept_with F kept r.against (λ d. contains d (complement l))))) is)

-- and by them the first bad pair is found
pub bad_found : (F : Cnf) (d : DoneDocument) (pairs : List Pair) (named : List ℕ) (occurring shown : List Bool) → AreTables F d.kept pairs named occurring shown → list_all (is_pair (length F.clauses)) pairs ≡ true
    → find (is_bad_at named occurring shown) (variables_to F.vars) ≡ (bad_pair no_variable F d pairs).place
unfolding bad_pair
bad_found F d pairs named occurring shown t all =
    find_to F.vars (is_bad_at named occurring shown) (is_bad_pair F d.kept pairs) (λ v low high. bad_told F d.kept pairs named occurring shown v (pair_of pairs v) t all low high refl)
