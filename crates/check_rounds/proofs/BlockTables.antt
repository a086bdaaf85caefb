-- The table of the rounds that block the variables, and what is blocked before a round.
use Rattle.std.proofs.Common.{◌≡◌, ◌≢◌, ◌∙◌, ℕ, zero, suc, ◌+◌, ◌-◌, ◌<◌, ◌≤◌, Bool, true, false, cond, not, ◌&&◌, ◌||◌, ◌==◌, nat_lt, List, [], ◌∷◌, length, get_or, map, take, drop, refl, sym, ap, subst, arith, ℤ, inl, inr, slice_index, slice_index_or, get_or-set_same, get_or-set_other}
use Rattle.std.specs.Prelude.{find, replicate, slice_set}
use Rattle.std.proofs.Math.Bool.{or-false}
use Rattle.std.specs.List.{list_any, flat_map}
use Rattle.std.proofs.lemmas.Bool.{cases_Bool, cases_eq, cond-true, eq-eqb, ne_eqb, lt-ltb, le-ltb, ltb-true, ltb-false}
use Rattle.std.proofs.lemmas.List.{get_or-replicate, length-replicate, length-set, drop_more, drop_all, take_all, get_or_default, get_or_past}
use Rattle.std.proofs.lemmas.List.Folds.{list_any-append, list_any_more}
use Rattle.lk_model.specs.Lists.{among}
use Rattle.lk_model.specs.Formulas.Literal.{variable, mentions}
use Rattle.lk_model.specs.Formulas.Formula.{Cnf, clause_at, is_formula, variable_occurs, variables_to}
use Rattle.lk_model.specs.Formulas.Crossed.{Variables, no_variable, crossed_out}
use Rattle.lk_model.specs.Chains.Rounds.{is_refutation, used_positions, blocked_after_round, blocked_after}
use Rattle.lk_model.specs.Checks.RoundChecks.{not_blocked}
use Rattle.lk_model.specs.declared.document.Round.{Round}
use Rattle.lk_model.specs.declared.document.DoneDocument.{DoneDocument}
use Rattle.lk_model.proofs.Booleans.{and_true, or_right}
use Rattle.lk_model.proofs.Variables.{variable_bound, position_with, among_variables as variables_are}
use Rattle.check_tables.specs.Occurring.{AreOccurring}
use Rattle.check_rounds.specs.Blocking.{blocks, first_block, AreBlocks, is_before, is_unblocked, AreSeen, BlocksClause, BlocksRound}
use Rattle.check_tables.proofs.KeptFlags.{find_to}
use Rattle.kernel_laws.proofs.Crossing.{mentions_crossed as crossed_mentions}

-- WHAT IS BLOCKED AFTER ROUNDS

-- the used variables are those that occur and were not blocked
used_is : (F : Cnf) (blocked : Variables) (ps : List ℕ) (v : ℕ) → among (flat_map (λ p. map variable (crossed_out blocked (clause_at F p))) ps) v ≡ (not (blocked v) && variable_occurs F ps v)
used_is F blocked [] v = nothing (blocked v)
  where
    nothing : (b : Bool) → false ≡ (not b && false)
    nothing true = refl
    nothing false = refl
used_is F blocked (p ∷ ps) v =
    list_any-append (λ (k : ℕ). k == v) (map variable (crossed_out blocked (clause_at F p))) (flat_map (λ q. map variable (crossed_out blocked (clause_at F q))) ps)
    ∙ (λ j. (variables_are (crossed_out blocked (clause_at F p)) v ∙ crossed_mentions blocked (clause_at F p) v) j || used_is F blocked ps v j)
    ∙ either (blocked v) (mentions (clause_at F p) v) (variable_occurs F ps v)
  where
    either : (b x y : Bool) → ((not b && x) || (not b && y)) ≡ (not b && (x || y))
    either true x y = refl
    either false x y = refl

round_blocks : (F : Cnf) (blocked : Variables) (r : Round) (v : ℕ) → blocked_after_round F blocked r v ≡ (blocked v || blocks F r v)
round_blocks F blocked r v =
    ap (λ (b : Bool). blocked v || (is_refutation r.steps && b)) (used_is F blocked (used_positions F r) v)
    ∙ known (blocked v) (is_refutation r.steps) (variable_occurs F (used_positions F r) v)
  where
    known : (b x y : Bool) → (b || (x && (not b && y))) ≡ (b || (x && y))
    known true x y = refl
    known false x y = refl

-- those that one of the rounds blocks
blocked_is : (F : Cnf) (blocked : Variables) (rounds : List Round) (v : ℕ) → blocked_after F blocked rounds v ≡ (blocked v || list_any (λ r. blocks F r v) rounds)
unfolding blocked_after
blocked_is F blocked [] v = nothing (blocked v)
  where
    nothing : (b : Bool) → b ≡ (b || false)
    nothing true = refl
    nothing false = refl
blocked_is F blocked (r ∷ rounds) v =
    blocked_is F (blocked_after_round F blocked r) rounds v
    ∙ ap (λ (b : Bool). b || list_any (λ s. blocks F s v) rounds) (round_blocks F blocked r v)
    ∙ together (blocked v) (blocks F r v) (list_any (λ s. blocks F s v) rounds)
  where
    together : (a b c : Bool) → ((a || b) || c) ≡ (a || (b || c))
    together true b c = refl
    together false b c = refl

-- THE NUMBERS

first_above : (F : Cnf) (k : ℕ) (rounds : List Round) (v : ℕ) → k ≤ first_block F k rounds v
first_above F k [] v = omega arith
first_above F k (r ∷ rounds) v = elim (cases_Bool (blocks F r v)) [
  | inl y ↦ rw y (omega arith)
  | inr n ↦ (let more = first_above F (k + 1) rounds v in rw n (omega (arith, more)))
]

-- a number is below k and j more where one of the first j rounds blocks the variable
first_below : (F : Cnf) (k j : ℕ) (rounds : List Round) (v : ℕ) → j ≤ length rounds → nat_lt (first_block F k rounds v) (k + j) ≡ list_any (λ r. blocks F r v) (take j rounds)
first_below F k zero rounds v le = le-ltb (first_block F k rounds v) (k + zero) (omega (arith, first_above F k rounds v))
first_below F k (suc j) [] v le = absurd (omega (arith, le))
first_below F k (suc j) (r ∷ rounds) v le = elim (cases_Bool (blocks F r v)) [
  | inl y ↦ rw y (lt-ltb k (k + suc j) (omega arith))
  | inr n ↦ rw n (subst (λ (m : ℕ). nat_lt (first_block F (k + 1) rounds v) m ≡ list_any (λ s. blocks F s v) (take j rounds)) (omega arith) (first_below F (k + 1) j rounds v (omega (arith, le))))
]

-- only variables of the formula are blocked
blocks_within : (F : Cnf) (rounds : List Round) (v : ℕ) → is_formula F ≡ true → list_any (λ r. blocks F r v) rounds ≡ true → (0 < v) × (v ≤ F.vars)
blocks_within F [] v form e = absurd (let f : ⊥ = cc in f)
blocks_within F (r ∷ rounds) v form e = elim (cases_Bool (blocks F r v)) [
  | inl y ↦
      (let occurs = and_true (is_refutation r.steps) (variable_occurs F (used_positions F r) v) y in
      let at = position_with F (used_positions F r) v occurs.1 in
      variable_bound F at.0 v form at.2)
  | inr n ↦ blocks_within F rounds v form (rw n at e)
]

outside : (F : Cnf) (rounds : List Round) (v : ℕ) → is_formula F ≡ true → ((0 < v) × (v ≤ F.vars) → ⊥) → list_any (λ r. blocks F r v) rounds ≡ false
outside F rounds v form not_in = elim (cases_Bool (list_any (λ r. blocks F r v) rounds)) [
  | inl y ↦ absurd (not_in (blocks_within F rounds v form y))
  | inr n ↦ n
]

-- so the table tells what is blocked before each round
pub before_is : (F : Cnf) (rounds : List Round) (table : List ℕ) (j : ℕ) → is_formula F ≡ true → AreBlocks F 0 rounds table → j ≤ length rounds
    → is_before j table ≡ blocked_after F no_variable (take j rounds)
before_is F rounds table j form t le = λ i v. at v i
  where
    at : (v : ℕ) → is_before j table v ≡ blocked_after F no_variable (take j rounds) v
    at zero = sym (blocked_is F no_variable (take j rounds) zero ∙ outside F (take j rounds) zero form (λ w. omega (arith, w.0)))
    at (suc k) = elim (cases_Bool (nat_lt k F.vars)) [
      | inl y ↦
          let inside : k < F.vars = ltb-true k F.vars y in
          let read : slice_index_or table k j ≡ first_block F 0 rounds (suc k) =
          get_or_default table k j 0 (omega (arith, inside, t.size)) ∙ ap (λ (m : ℕ). slice_index table m) (omega arith) ∙ t.told (suc k) (omega arith) (omega (arith, inside)) in
          let below : nat_lt (first_block F 0 rounds (suc k)) j ≡ list_any (λ r. blocks F r (suc k)) (take j rounds) =
          subst (λ (m : ℕ). nat_lt (first_block F 0 rounds (suc k)) m ≡ list_any (λ r. blocks F r (suc k)) (take j rounds)) (omega arith) (first_below F 0 j rounds (suc k) le) in
          ap (λ (m : ℕ). nat_lt m j) read ∙ below ∙ sym (blocked_is F no_variable (take j rounds) (suc k))
      | inr n ↦
          let past : F.vars ≤ k = ltb-false k F.vars n in
          ap (λ (m : ℕ). nat_lt m j) (get_or_past table k j (omega (arith, past, t.size))) ∙ le-ltb j j (omega arith)
          ∙ sym (blocked_is F no_variable (take j rounds) (suc k) ∙ outside F (take j rounds) (suc k) form (λ w. omega (arith, w.1, past)))
    ]

-- THE TABLE

pub blocks_none : (F : Cnf) (rounds : List Round) (table : List ℕ) → table ≡ replicate F.vars (length rounds) → AreBlocks F (length rounds) (drop (length rounds) rounds) table
blocks_none F rounds table e = rw (drop_all (length rounds) rounds (omega arith)) (record {
  size = ap length e ∙ length-replicate F.vars (length rounds);
  told = λ v low high. ap (λ (ns : List ℕ). get_or ns (v - 1) 0) e ∙ get_or-replicate F.vars (v - 1) (length rounds) 0 (omega (arith, low, high));
})

-- behind all rounds each position has their number, and so has each variable
pub seen_none : (F : Cnf) (k : ℕ) (seen table : List ℕ) → seen ≡ replicate (length F.clauses) k → table ≡ replicate F.vars k → AreSeen F k seen table
seen_none F k seen table s t = record {
  size = ap length s ∙ length-replicate (length F.clauses) k;
  least = λ p low high.
      let at : get_or seen (p - 1) 0 ≡ k = ap (λ (ns : List ℕ). get_or ns (p - 1) 0) s ∙ get_or-replicate (length F.clauses) (p - 1) k 0 (omega (arith, low, high)) in
      omega (arith, at);
  told = λ p low high is v first last m. ap (λ (ns : List ℕ). get_or ns (v - 1) 0) t ∙ get_or-replicate F.vars (v - 1) k 0 (omega (arith, first, last));
}

-- before a round no position has it
pub seen_next : (F : Cnf) (j k : ℕ) (seen table : List ℕ) → k ≡ j + 1 → AreSeen F k seen table → AreSeen F j seen table
seen_next F j k seen table next h = record {
  size = h.size;
  least = λ p low high. omega (arith, h.least p low high, next);
  told = λ p low high is v first last m. absurd (omega (arith, h.least p low high, next, is));
}

-- a clause is put into the table
pub seen_more : (F : Cnf) (k p : ℕ) (seen table after : List ℕ) → 0 < p → p ≤ length F.clauses → BlocksClause F.vars k (clause_at F p) table after → AreSeen F k seen table → AreSeen F k (slice_set seen (p - 1) k) after
seen_more F k p seen table after first last b h = record {
  size = length-set seen (p - 1) k ∙ h.size;
  least = λ q low high. elim (cases_eq q p) [
    | inl same ↦ (let here = read q same in omega (arith, here))
    | inr other ↦ (let there = unread q low other in omega (arith, there, h.least q low high))
  ];
  told = λ q low high is v one end m. elim (cases_eq q p) [
    | inl same ↦ b.told v one end ∙ cond-true (mentions (clause_at F p) v) k (get_or table (v - 1) 0) (ap (λ (r : ℕ). mentions (clause_at F r) v) (sym same) ∙ m)
    | inr other ↦ b.told v one end ∙ still (mentions (clause_at F p) v) (get_or table (v - 1) 0) (h.told q low high (sym (unread q low other) ∙ is) v one end m)
  ];
}
  where
    read : (q : ℕ) → q ≡ p → get_or (slice_set seen (p - 1) k) (q - 1) 0 ≡ k
    read q same = ap (λ (r : ℕ). get_or (slice_set seen (p - 1) k) (r - 1) 0) same ∙ get_or-set_same seen (p - 1) k 0 (omega (arith, first, last, h.size))

    unread : (q : ℕ) → 1 ≤ q → (q ≡ p → ⊥) → get_or (slice_set seen (p - 1) k) (q - 1) 0 ≡ get_or seen (q - 1) 0
    unread q low other = let apart : q - 1 ≢ p - 1 = λ e. other (omega (arith, e, low, first)) in get_or-set_other seen (p - 1) (q - 1) k 0 apart

    still : (m : Bool) (x : ℕ) → x ≡ k → cond m k x ≡ k
    still true x e = refl
    still false x e = e

-- the variable of one literal more of a clause
pub literal_blocked : (n k : ℕ) (clause : List ℤ) (i : ℕ) (l : ℤ) (before mid : List ℕ) → i < length clause → l ≡ get_or clause i l → 1 ≤ variable l → variable l ≤ length mid
    → BlocksClause n k (take i clause) before mid → BlocksClause n k (take (i + 1) clause) before (slice_set mid (variable l - 1) k)
literal_blocked n k clause i l before mid inside is low high h = record {
  size = length-set mid (variable l - 1) k ∙ h.size;
  told = λ v first last.
      let more : mentions (take (i + 1) clause) v ≡ (mentions (take i clause) v || variable l == v) =
      list_any_more (λ (m : ℤ). variable m == v) clause i l inside ∙ ap (λ (m : ℤ). mentions (take i clause) v || variable m == v) (sym is) in
      elim (cases_eq (variable l) v) [
        | inl same ↦
            ap (λ (m : ℕ). get_or (slice_set mid (variable l - 1) k) (m - 1) 0) (sym same)
            ∙ get_or-set_same mid (variable l - 1) k 0 (omega (arith, low, high))
            ∙ sym (cond-true (mentions (take (i + 1) clause) v) k (get_or before (v - 1) 0) (more ∙ or_right (mentions (take i clause) v) (variable l == v) (eq-eqb (variable l) v same)))
        | inr other ↦
            let apart : v - 1 ≢ variable l - 1 = λ e. other (omega (arith, e, low, first)) in
            get_or-set_other mid (variable l - 1) (v - 1) k 0 apart ∙ h.told v first last
            ∙ sym (ap (λ (b : Bool). cond b k (get_or before (v - 1) 0)) (more ∙ ap (λ (b : Bool). mentions (take i clause) v || b) (ne_eqb (variable l) v other) ∙ or-false (mentions (take i clause) v)))
      ];
}

-- one round more before the others
pub blocks_more : (F : Cnf) (rounds : List Round) (i j : ℕ) (r : Round) (before after : List ℕ) → j ≡ i + 1 → i < length rounds → r ≡ get_or rounds i r → BlocksRound F i r before after
    → AreBlocks F j (drop j rounds) before → AreBlocks F i (drop i rounds) after
blocks_more F rounds i j r before after next lt is b t =
    let here : drop i rounds ≡ r ∷ drop j rounds = drop_more rounds i r lt ∙ (λ m. sym is m ∷ drop (sym next m) rounds) in
    rw here (record {
      size = b.size ∙ t.size;
      told = λ v low high. b.told v low high ∙ (λ m. cond (blocks F r v) i ((t.told v low high ∙ ap (λ (k : ℕ). first_block F k (drop j rounds) v) next) m));
    })

-- so the first variable that is not blocked is found
pub unblocked_found : (F : Cnf) (d : DoneDocument) (rounds : List Round) (occurring : List Bool) (table : List ℕ) → is_formula F ≡ true → AreOccurring F d.kept occurring → AreBlocks F 0 rounds table
    → find (is_unblocked (length rounds) occurring table) (variables_to F.vars) ≡ (not_blocked no_variable F d rounds).place
unfolding not_blocked
unblocked_found F d rounds occurring table form o t =
    find_to F.vars (is_unblocked (length rounds) occurring table) (λ v. variable_occurs F d.kept v && not (blocked_after F no_variable rounds v)) (λ v low high.
    let all : blocked_after F no_variable (take (length rounds) rounds) ≡ blocked_after F no_variable rounds = ap (blocked_after F no_variable) (take_all (length rounds) rounds (omega arith)) in
    (λ m. o.told v low high m && not ((before_is F rounds table (length rounds) form t (omega arith) ∙ all) m v)))
