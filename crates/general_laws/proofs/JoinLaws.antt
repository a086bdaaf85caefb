-- Rounds of two parts, joined.
use Rattle.std.proofs.Common.{◌≡◌, ℕ, suc, ◌<◌, ◌≤◌, ◌+◌, ◌-◌, ◌*◌, ◌^◌, Bool, true, false, ◌&&◌, ◌||◌, ◌==◌, nat_le, nat_lt, List, [], ◌∷◌, ◌++◌, refl, sym, ◌∙◌, ap, subst, None, inl, inr, map, length, arith, option_map}
use Rattle.std.specs.List.{list_all}
use Rattle.std.proofs.lemmas.Bool.{cases_Bool, both_ways, leb-true, leb-false, le-leb, lt-ltb, lt-leb, ltb-true, eqb-true, eq-eqb, ne_eqb, and_from}
use Rattle.std.proofs.lemmas.Grind.{flat_map-append}
use Rattle.std.proofs.lemmas.List.{map-append, length-map}
use Rattle.std.proofs.lemmas.List.Folds.{list_all-append}
use Rattle.lk_model.specs.Lists.{among, is_between, rises_within}
use Rattle.lk_model.specs.Formulas.Literal.{rank_of, is_literal}
use Rattle.lk_model.specs.Formulas.Formula.{Cnf, variable_occurs}
use Rattle.lk_model.specs.Formulas.Crossed.{Variables, no_variable}
use Rattle.lk_model.specs.Chains.Chain.{names_of}
use Rattle.lk_model.specs.Chains.Rounds.{StepAt, used_positions, blocked_after_round, blocked_after, names_within}
use Rattle.lk_model.specs.Checks.RoundChecks.{bad_step, not_learned}
use Rattle.lk_model.specs.Documents.Documents.{steps_of}
use Rattle.lk_model.specs.Documents.Form.{counts_from, is_turn, is_step, are_steps, is_whole}
use Rattle.lk_model.specs.declared.document.Turn.{Turn}
use Rattle.lk_model.specs.declared.document.Step.{Step}
use Rattle.lk_model.specs.declared.document.Round.{Round}
use Rattle.lk_model.proofs.Booleans.{and_true, or_true, or_left, or_right}
use Rattle.lk_model.proofs.Variables.{occurs, position_with}
use Rattle.lk_model.proofs.Founds.{option_map-none}
use Rattle.general_laws.specs.JoinLaw.{renumbered_turn, renumbered, renumbered_round, moved, IsCertified, joined, JoinLaw}
use Rattle.general_laws.proofs.Numbering.{AreRising, counts_rise}
use Rattle.general_laws.proofs.Stated.{NoneIn, none_in, find_in, NoneOf}
use Rattle.general_laws.proofs.Reaching.{is_misstated}
use Rattle.general_laws.proofs.Renumbering.{IsRenumbering, stay, same_rounds, whole_renumbered}
use Rattle.general_laws.proofs.Blocking.{blocked_stays}
use Rattle.general_laws.proofs.Wholes.{over_all}
use Rattle.general_laws.proofs.Carrying.{NamesIn, names_more, names_of_rounds, AgreeOn, used_carried, rounds_carried, blocked_own}
use Rattle.general_laws.proofs.Learning.{is_unlearned}

-- MANY ROUNDS

-- what fails at no step of the rounds and of further ones fails at no step of them together
pub none_joined : (t : StepAt → Bool) (F : Cnf) (part : List ℕ) (blocked : Variables) (rs ss : List Round) → NoneIn t F part blocked rs
    → NoneIn t F part (blocked_after F blocked rs) ss → NoneIn t F part blocked (rs ++ ss)
unfolding blocked_after
none_joined t F part blocked [] ss n h = h
none_joined t F part blocked (r ∷ rs) ss n h = (n.0, none_joined t F part (blocked_after_round F blocked r) rs ss n.1 h)

-- rounds block one after another
pub blocked_joined : (F : Cnf) (blocked : Variables) (rs ss : List Round) → blocked_after F blocked (rs ++ ss) ≡ blocked_after F (blocked_after F blocked rs) ss
unfolding blocked_after
blocked_joined F blocked [] ss = refl
blocked_joined F blocked (r ∷ rs) ss = blocked_joined F (blocked_after_round F blocked r) rs ss

-- RISING NUMBERS OF DOCUMENTS

-- steps in form have rising numbers
pub rising : (F : Cnf) (rounds : List Round) → are_steps F.vars (length F.clauses) (steps_of rounds) ≡ true → AreRising (length F.clauses) (steps_of rounds)
rising F rounds e =
    counts_rise (length F.clauses) (length F.clauses + 1) (steps_of rounds) (omega arith)
    (and_true (counts_from (length F.clauses + 1) (map (λ (s : Step). s.number) (steps_of rounds))) _ e).0

-- where the check finds no place no step is misstated
pub misstated_none : (F : Cnf) (base : Variables) (part : List ℕ) (rounds : List Round) → (bad_step base F part rounds).place ≡ None → NoneIn is_misstated F part base rounds
unfolding bad_step
misstated_none F base part rounds e = none_in is_misstated F part base rounds (option_map-none _ _ e)

-- and the other way round
pub none_misstated : (F : Cnf) (base : Variables) (part : List ℕ) (rounds : List Round) → NoneIn is_misstated F part base rounds → (bad_step base F part rounds).place ≡ None
unfolding bad_step
none_misstated F base part rounds n = ap (option_map (λ (s : StepAt). s.step.number)) (find_in is_misstated F part base rounds n)

-- and where it finds no clause that is not learned none is
pub unlearned_none : (F : Cnf) (part : List ℕ) (r : Round) → (not_learned no_variable F part (r ∷ [])).place ≡ None
    → NoneOf is_unlearned F part no_variable [] r.steps
unfolding not_learned
unlearned_none F part r e = (none_in is_unlearned F part no_variable (r ∷ []) (option_map-none _ _ e)).0

-- OTHER POSITIONS

-- positions that the test says the steps name
names_by_test : (F : Cnf) (P : List ℕ) (steps : List Step)
    → list_all (λ (s : Step). list_all (λ k. nat_lt (length F.clauses) k || among P k) (names_of s)) steps ≡ true → NamesIn F P steps
names_by_test F P [] e = tt
names_by_test F P (s ∷ steps) e =
    let both = and_true (list_all (λ k. nat_lt (length F.clauses) k || among P k) (names_of s)) _ e in
    (λ k m le. at_name (names_of s) both.0 k m le, names_by_test F P steps both.1)
  where
    at_name : (ks : List ℕ) → list_all (λ k. nat_lt (length F.clauses) k || among P k) ks ≡ true → (k : ℕ) → among ks k ≡ true → k ≤ length F.clauses → among P k ≡ true
    at_name [] e k m le = absurd (let f : ⊥ = cc in f)
    at_name (j ∷ ks) e k m le =
        let both = and_true (nat_lt (length F.clauses) j || among P j) (list_all (λ k. nat_lt (length F.clauses) k || among P k) ks) e in
        elim (or_true (j == k) (among ks k) m) [
          | inr later ↦ at_name ks both.1 k later le
          | inl here ↦ (let same = eqb-true j k here in elim (or_true (nat_lt (length F.clauses) j) (among P j) both.0) [
            | inl past ↦ (let lt = ltb-true (length F.clauses) j past in absurd (omega (arith, lt, same, le)))
            | inr inside ↦ subst (λ (i : ℕ). among P i ≡ true) same inside
          ])
        ]

-- steps state their clauses over all positions that they name
other_positions : (F : Cnf) (base : Variables) (part kept : List ℕ) (rounds : List Round) → are_steps F.vars (length F.clauses) (steps_of rounds) ≡ true
    → (bad_step base F part rounds).place ≡ None → names_within F kept rounds ≡ true → (bad_step base F kept rounds).place ≡ None
other_positions F base part kept rounds steps stated names =
    let carried = rounds_carried F (λ k. k) part kept base base (length F.clauses) rounds (stay (length F.clauses)) (λ v there. refl) (omega arith)
    (rising F rounds steps) (names_by_test F kept (steps_of rounds) names) (misstated_none F base part rounds stated) in
    none_misstated F base kept rounds (subst (λ (rs : List Round). NoneIn is_misstated F kept base rs) (same_rounds rounds) carried.0)

-- MOVED NUMBERS

-- a position stays
moved_low : (m up k : ℕ) → k ≤ m → moved m up k ≡ k
moved_low m up k le = rw (le-leb k m le) refl

-- a step moves
moved_high : (m up k : ℕ) → m < k → moved m up k ≡ k + up
moved_high m up k lt = rw (lt-leb k m lt) refl

-- a moved number is at least itself and at most so many more
moved_within : (m up k : ℕ) → (k ≤ moved m up k) × (moved m up k ≤ k + up)
moved_within m up k = elim (cases_Bool (nat_le k m)) [
  | inl le ↦ (let e = moved_low m up k (leb-true k m le) in (omega (arith, e), omega (arith, e)))
  | inr gt ↦ (let e = moved_high m up k (leb-false k m gt) in (omega (arith, e), omega (arith, e)))
]

-- different numbers stay different
moved_same : (m up a b : ℕ) → moved m up a ≡ moved m up b → a ≡ b
moved_same m up a b e = elim (cases_Bool (nat_le a m)) [
  | inl la ↦ (let x = leb-true a m la in let f = moved_low m up a x in elim (cases_Bool (nat_le b m)) [
    | inl lb ↦ (let g = moved_low m up b (leb-true b m lb) in omega (arith, e, f, g))
    | inr gb ↦ (let y = leb-false b m gb in let g = moved_high m up b y in absurd (omega (arith, e, f, g, x, y)))
  ])
  | inr ga ↦ (let x = leb-false a m ga in let f = moved_high m up a x in elim (cases_Bool (nat_le b m)) [
    | inl lb ↦ (let y = leb-true b m lb in let g = moved_low m up b y in absurd (omega (arith, e, f, g, x, y)))
    | inr gb ↦ (let g = moved_high m up b (leb-false b m gb) in omega (arith, e, f, g))
  ])
]

-- so moving is a renumbering
pub move : (m up : ℕ) → IsRenumbering m (moved m up)
move m up = record {
  same = λ a b. elim (cases_Bool (a == b)) [
    | inl e ↦ eq-eqb (moved m up a) (moved m up b) (ap (moved m up) (eqb-true a b e)) ∙ sym e
    | inr n ↦ ne_eqb (moved m up a) (moved m up b) (λ s. both_ways (a == b) n (eq-eqb a b (moved_same m up a b s))) ∙ sym n
  ];
  fixed = λ k le. moved_low m up k le;
  past = λ k lt. let e = moved_high m up k lt in omega (arith, e, lt);
}

-- so a round uses the same positions
used_moved : (F : Cnf) (up : ℕ) (r : Round) → used_positions F (renumbered_round (moved (length F.clauses) up) r) ≡ used_positions F r
used_moved F up r = sym (used_carried F (moved (length F.clauses) up) r (move (length F.clauses) up))

-- STEPS IN FORM

-- the steps of joined rounds
pub steps_joined : (F : Cnf) (f : ℕ → ℕ) (rs ss : List Round) → steps_of (rs ++ map (renumbered_round f) ss) ≡ steps_of rs ++ map (renumbered f) (steps_of ss)
steps_joined F f rs ss = flat_map-append (λ (r : Round). r.steps) rs (map (renumbered_round f) ss) ∙ ap (λ (us : List Step). steps_of rs ++ us) (steps_renumbered ss)
  where
    steps_renumbered : (ss : List Round) → steps_of (map (renumbered_round f) ss) ≡ map (renumbered f) (steps_of ss)
    steps_renumbered [] = refl
    steps_renumbered (r ∷ ss) = ap (λ (us : List Step). map (renumbered f) r.steps ++ us) (steps_renumbered ss) ∙ sym (map-append (renumbered f) r.steps (steps_of ss))

-- numbers that go on from others
pub counts_joined : (next : ℕ) (ns ms : List ℕ) → counts_from next ns ≡ true → counts_from (next + length ns) ms ≡ true → counts_from next (ns ++ ms) ≡ true
counts_joined next [] ms e f = let z : next + 0 ≡ next = omega arith in subst (λ (n : ℕ). counts_from n ms ≡ true) z f
counts_joined next (n ∷ ns) ms e f =
    let both = and_true (n == next) (counts_from (next + 1) ns) e in
    let z : next + suc (length ns) ≡ next + 1 + length ns = omega arith in
    and_from (n == next) _ both.0 (counts_joined (next + 1) ns ms both.1 (subst (λ (k : ℕ). counts_from k ms ≡ true) z f))

-- numbers without a gap have none after they moved
counts_moved : (m up next : ℕ) (steps : List Step) → m < next → counts_from next (map (λ (s : Step). s.number) steps) ≡ true
    → counts_from (next + up) (map (λ (s : Step). s.number) (map (renumbered (moved m up)) steps)) ≡ true
counts_moved m up next [] lt e = refl
counts_moved m up next (s ∷ steps) lt e =
    let both = and_true (s.number == next) (counts_from (next + 1) (map (λ (s : Step). s.number) steps)) e in
    let same = eqb-true s.number next both.0 in
    let z : next + 1 + up ≡ next + up + 1 = omega arith in
    let here : moved m up s.number ≡ next + up = ap (moved m up) same ∙ moved_high m up next lt in
    and_from (moved m up s.number == next + up) _ (eq-eqb (moved m up s.number) (next + up) here)
    (subst (λ (k : ℕ). counts_from k (map (λ (s : Step). s.number) (map (renumbered (moved m up)) steps)) ≡ true) z
    (counts_moved m up (next + 1) steps (omega (arith, lt)) both.1))

-- a moved number stands before a moved one that it stood before
between_moved : (m up number k : ℕ) → m < number → is_between 1 (number - 1) k ≡ true → is_between 1 (moved m up number - 1) (moved m up k) ≡ true
between_moved m up number k lt e =
    let both = and_true (nat_le 1 k) (nat_le k (number - 1)) e in
    let least = leb-true 1 k both.0 in let most = leb-true k (number - 1) both.1 in
    let w = moved_within m up k in let n = moved_high m up number lt in
    let a = w.0 in let b = w.1 in
    and_from (nat_le 1 (moved m up k)) _ (le-leb 1 (moved m up k) (omega (arith, least, a))) (le-leb (moved m up k) (moved m up number - 1) (omega (arith, most, b, n, lt)))

-- moved turns are in form
turns_moved : (n m up number : ℕ) (turns : List Turn) → m < number → list_all (is_turn n number) turns ≡ true
    → list_all (is_turn n (moved m up number)) (map (renumbered_turn (moved m up)) turns) ≡ true
turns_moved n m up number [] lt e = refl
turns_moved n m up number (t ∷ turns) lt e =
    let both = and_true (is_turn n number t) (list_all (is_turn n number) turns) e in
    let this = and_true (is_literal n t.lit) (is_between 1 (number - 1) t.with) both.0 in
    and_from _ _ (and_from _ _ this.0 (between_moved m up number t.with lt this.1)) (turns_moved n m up number turns lt both.1)

-- so is a moved step
step_moved : (n m up : ℕ) (s : Step) → m < s.number → s.number + up < 2 ^ 64 → is_step n s ≡ true → is_step n (renumbered (moved m up) s) ≡ true
step_moved n m up s lt fits e =
    let a = and_true (nat_lt s.number (2 ^ 64) && rises_within 1 (2 * n + 1) (map rank_of s.clause) && is_between 1 (s.number - 1) s.first) (list_all (is_turn n s.number) s.turns) e in
    let b = and_true (nat_lt s.number (2 ^ 64) && rises_within 1 (2 * n + 1) (map rank_of s.clause)) (is_between 1 (s.number - 1) s.first) a.0 in
    let c = and_true (nat_lt s.number (2 ^ 64)) (rises_within 1 (2 * n + 1) (map rank_of s.clause)) b.0 in
    let small : nat_lt (moved m up s.number) (2 ^ 64) ≡ true = lt-ltb (moved m up s.number) (2 ^ 64) (subst (λ (k : ℕ). k < 2 ^ 64) (sym (moved_high m up s.number lt)) fits) in
    and_from _ _ (and_from _ _ (and_from _ _ small c.1) (between_moved m up s.number s.first lt b.1)) (turns_moved n m up s.number s.turns lt a.1)

-- and so are all
steps_moved : (n m up next : ℕ) (steps : List Step) → m < next → next + length steps + up ≤ 2 ^ 64 → counts_from next (map (λ (s : Step). s.number) steps) ≡ true
    → list_all (is_step n) steps ≡ true → list_all (is_step n) (map (renumbered (moved m up)) steps) ≡ true
steps_moved n m up next [] lt fits e f = refl
steps_moved n m up next (s ∷ steps) lt fits e f =
    let counts = and_true (s.number == next) (counts_from (next + 1) (map (λ (s : Step). s.number) steps)) e in
    let forms = and_true (is_step n s) (list_all (is_step n) steps) f in
    let same = eqb-true s.number next counts.0 in
    and_from _ _ (step_moved n m up s (omega (arith, lt, same)) (small next (length steps) s.number (2 ^ 64) same fits) forms.0)
    (steps_moved n m up (next + 1) steps (omega (arith, lt)) (shift next (length steps) (2 ^ 64) fits) counts.1 forms.1)
  where
    small : (next len number top : ℕ) → number ≡ next → next + suc len + up ≤ top → number + up < top
    small next len number top e h = omega (arith, e, h)

    shift : (next len top : ℕ) → next + suc len + up ≤ top → next + 1 + len + up ≤ top
    shift next len top h = omega (arith, h)

-- the steps of joined rounds are in form
form_joined : (F : Cnf) (rs ss : List Round) → are_steps F.vars (length F.clauses) (steps_of rs) ≡ true → are_steps F.vars (length F.clauses) (steps_of ss) ≡ true
    → length F.clauses + length (steps_of rs) + length (steps_of ss) < 2 ^ 64 → are_steps F.vars (length F.clauses) (steps_of (joined F rs ss)) ≡ true
form_joined F rs ss e f fits =
    let m = length F.clauses in
    let up = length (steps_of rs) in
    let a = and_true (counts_from (m + 1) (map (λ (s : Step). s.number) (steps_of rs))) (list_all (is_step F.vars) (steps_of rs)) e in
    let b = and_true (counts_from (m + 1) (map (λ (s : Step). s.number) (steps_of ss))) (list_all (is_step F.vars) (steps_of ss)) f in
    let len : length (map (λ (s : Step). s.number) (steps_of rs)) ≡ up = length-map (steps_of rs) (λ (s : Step). s.number) in
    let counts = counts_joined (m + 1) (map (λ (s : Step). s.number) (steps_of rs)) (map (λ (s : Step). s.number) (map (renumbered (moved m up)) (steps_of ss))) a.0
    (subst (λ (k : ℕ). counts_from (m + 1 + k) (map (λ (s : Step). s.number) (map (renumbered (moved m up)) (steps_of ss))) ≡ true) (sym len)
    (counts_moved m up (m + 1) (steps_of ss) (omega arith) b.0)) in
    let numbers : counts_from (m + 1) (map (λ (s : Step). s.number) (steps_of rs ++ map (renumbered (moved m up)) (steps_of ss))) ≡ true =
    subst (λ (ns : List ℕ). counts_from (m + 1) ns ≡ true) (sym (map-append (λ (s : Step). s.number) (steps_of rs) (map (renumbered (moved m up)) (steps_of ss)))) counts in
    let forms : list_all (is_step F.vars) (steps_of rs ++ map (renumbered (moved m up)) (steps_of ss)) ≡ true =
    list_all-append (is_step F.vars) (steps_of rs) (map (renumbered (moved m up)) (steps_of ss))
    ∙ and_from _ _ a.1 (steps_moved F.vars m up (m + 1) (steps_of ss) (omega arith) (room m up (length (steps_of ss)) (2 ^ 64) fits) b.0 b.1) in
    subst (λ (us : List Step). are_steps F.vars m us ≡ true) (sym (steps_joined F (moved m up) rs ss)) (and_from _ _ numbers forms)
  where
    room : (m up len top : ℕ) → m + up + len < top → m + 1 + len + up ≤ top
    room m up len top h = omega (arith, h)

-- joined whole rounds are whole
whole_joined : (F : Cnf) (rs ss : List Round) → list_all is_whole rs ≡ true → list_all is_whole ss ≡ true → list_all is_whole (joined F rs ss) ≡ true
whole_joined F rs ss e f =
    list_all-append is_whole rs (map (renumbered_round (moved (length F.clauses) (length (steps_of rs)))) ss) ∙ and_from _ _ e (all_whole (moved (length F.clauses) (length (steps_of rs))) ss f)
  where
    all_whole : (g : ℕ → ℕ) (ss : List Round) → list_all is_whole ss ≡ true → list_all is_whole (map (renumbered_round g) ss) ≡ true
    all_whole g [] f = refl
    all_whole g (r ∷ ss) f =
        let both = and_true (is_whole r) (list_all is_whole ss) f in
        and_from _ _ (whole_renumbered g r.steps ∙ both.0) (all_whole g ss both.1)

-- TWO PARTS

-- what occurs in both together occurs in one of them
pub occurs_either : (F : Cnf) (ps qs both : List ℕ) → ((p : ℕ) → among both p ≡ (among ps p || among qs p)) → (v : ℕ) → variable_occurs F both v ≡ true
    → (variable_occurs F ps v || variable_occurs F qs v) ≡ true
occurs_either F ps qs both union v e =
    let w = position_with F both v e in
    elim (or_true (among ps w.0) (among qs w.0) (sym (union w.0) ∙ w.1)) [
      | inl m ↦ or_left _ _ (occurs F ps w.0 v m w.2)
      | inr m ↦ or_right (variable_occurs F ps v) _ (occurs F qs w.0 v m w.2)
    ]

-- on the variables of the one part the rounds of the other block nothing
agree_apart : (F : Cnf) (base : Variables) (ps qs : List ℕ) (rs : List Round) → are_steps F.vars (length F.clauses) (steps_of rs) ≡ true
    → NoneIn is_misstated F ps base rs → ((v : ℕ) → variable_occurs F ps v ≡ true → variable_occurs F qs v ≡ true → base v ≡ true)
    → AgreeOn F qs base (blocked_after F base rs)
agree_apart F base ps qs rs steps none apart v there = at_test (blocked_after F base rs v) refl
  where
    at_test : (b : Bool) → blocked_after F base rs v ≡ b → base v ≡ b
    at_test true e = elim (blocked_own F ps base (length F.clauses) rs (omega arith) (rising F rs steps) none v e) [
      | inl before ↦ before
      | inr own ↦ apart v own there
    ]
    at_test false e = elim (cases_Bool (base v)) [
      | inl b ↦ absurd (both_ways (blocked_after F base rs v) e (blocked_stays F base rs v b))
      | inr n ↦ n
    ]

-- the rounds of two parts show together that both are lean
pub joined_certified : (F : Cnf) (base : Variables) (ps qs both : List ℕ) (rs ss : List Round) → IsCertified F base ps rs → IsCertified F base qs ss
    → ((v : ℕ) → variable_occurs F ps v ≡ true → variable_occurs F qs v ≡ true → base v ≡ true) → ((p : ℕ) → among both p ≡ (among ps p || among qs p))
    → length F.clauses + length (steps_of rs) + length (steps_of ss) < 2 ^ 64 → IsCertified F base both (joined F rs ss)
joined_certified F base ps qs both rs ss first second apart union fits =
    let m = length F.clauses in
    let f = moved m (length (steps_of rs)) in
    let nr = misstated_none F base ps rs first.stated in
    let ns = misstated_none F base qs ss second.stated in
    let in_left : (p : ℕ) → among ps p ≡ true → among both p ≡ true = λ p e. union p ∙ or_left (among ps p) (among qs p) e in
    let in_right : (p : ℕ) → among qs p ≡ true → among both p ≡ true = λ p e. union p ∙ or_right (among ps p) (among qs p) e in
    let left = rounds_carried F (λ k. k) ps both base base m rs (stay m) (λ v there. refl) (omega arith) (rising F rs first.steps)
    (names_more F ps both (steps_of rs) in_left (names_of_rounds F ps base rs nr)) nr in
    let right = rounds_carried F f qs both base (blocked_after F base rs) m ss (move m (length (steps_of rs))) (agree_apart F base ps qs rs first.steps nr apart) (omega arith)
    (rising F ss second.steps) (names_more F qs both (steps_of ss) in_right (names_of_rounds F qs base ss ns)) ns in
    record {
      steps = form_joined F rs ss first.steps second.steps fits;
      whole = whole_joined F rs ss first.whole second.whole;
      stated = none_misstated F base both (joined F rs ss)
          (none_joined is_misstated F both base rs (map (renumbered_round f) ss) (subst (λ (us : List Round). NoneIn is_misstated F both base us) (same_rounds rs) left.0) right.0);
      blocked = λ v e. subst (λ (b : Variables). b v ≡ true) (sym (blocked_joined F base rs (map (renumbered_round f) ss)))
          (elim (or_true (variable_occurs F ps v) (variable_occurs F qs v) (occurs_either F ps qs both union v e)) [
            | inl there ↦ blocked_stays F (blocked_after F base rs) (map (renumbered_round f) ss) v (first.blocked v there)
            | inr there ↦ sym (right.1 v there) ∙ second.blocked v there
          ]);
    }

-- all of it
pub join_law : JoinLaw
join_law = record { positions = other_positions; used = used_moved; together = joined_certified; whole = over_all }
