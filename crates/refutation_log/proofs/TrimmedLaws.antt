-- A trimmed refutation stands.
use Rattle.std.proofs.Common.{◌≡◌, ℕ, suc, ◌+◌, ◌-◌, ◌<◌, ◌≤◌, Bool, true, false, cond, not, ◌||◌, ◌==◌, nat_lt, List, [], ◌∷◌, ◌++◌, refl, sym, ◌∙◌, ap, subst, arith, ℤ, Option, Some, None, length, map, filter, find, option_map, IsTrue}
use Rattle.std.specs.List.{list_all, range_with_len}
use Rattle.std.specs.Prelude.{option_and_then}
use Rattle.std.specs.Option.{option_map_or}
use Rattle.std.proofs.lemmas.Bool.{le-leb, eq-eqb, eqb-true, and_from}
use Rattle.std.proofs.lemmas.List.{append-nil, map-append, length-map}
use Rattle.std.proofs.lemmas.List.Sums.{length-filter, count_by-le-length}
use Rattle.std.proofs.lemmas.List.Elements.{filter-append}
use Rattle.lk_model.specs.Lists.{among, is_empty}
use Rattle.lk_model.specs.Formulas.Literal.{is_same_set}
use Rattle.lk_model.specs.Chains.Chain.{Premises, clause_named, after_turns, chain_clause, names_of, states_its_clause, resolvent}
use Rattle.lk_model.specs.Held.VariableSets.{premises_of}
use Rattle.lk_model.specs.Chains.Rounds.{reached, is_refutation}
use Rattle.lk_model.specs.Laws.{last_number}
use Rattle.lk_model.specs.declared.crossed.Crossed.{Crossed}
use Rattle.lk_model.specs.declared.document.Turn.{Turn}
use Rattle.lk_model.specs.declared.document.Step.{Step}
use Rattle.refutation_log.specs.Derivation.{are_numbered, are_chains, names_lower, is_ascending, clause_of_step, IsDerivation}
use Rattle.refutation_log.specs.Trimmed.{with_numbers, are_filled_before_last, TrimsTo, TrimmedLaw}
use Rattle.refutation_log.proofs.Steps.{head_number}
use Rattle.lk_model.proofs.Booleans.{and_true}
use Rattle.lk_model.proofs.Counting.{among-filter, among-range}
use Rattle.lk_model.proofs.Lists.{among_later, name_lower, among_append}
use Rattle.refutation_log.proofs.Chains.{step_named}
use Rattle.refutation_log.proofs.ChainNames.{state_clauses, from_chains, to_chains, chain_sides}
use Rattle.refutation_log.proofs.Marking.{at_rest}
use Rattle.refutation_log.proofs.Renumbering.{same_in_range}
use Rattle.refutation_log.proofs.Keeping.{Valid, a_position, a_step, new_of, count_kept, count_more, new_position, new_step, new_less, new_apart}
use Rattle.refutation_log.proofs.Trimming.{EachFits, each_fits, reached_last, reached_names, with_number, trimmed_is}
use Rattle.refutation_log.proofs.KeptNames.{kept_of, names_new, all_mapped, names_kept, clauses_kept, fewer_kept, low_names}

-- THEIR NUMBERS

numbered_new : (K : ℕ → Bool) (first next : ℕ) (xs : List Step) (a i : ℕ) → first + i ≡ a → are_numbered a xs ≡ true
    → are_numbered (next + count_kept K first i) (kept_of K first next xs) ≡ true
numbered_new K first next [] a i e n = refl
numbered_new K first next (x ∷ xs) a i e n =
    let h = head_number a x xs n in
    at (K x.number) refl h.0 (count_more K i first a e) (numbered_new K first next xs (a + 1) (suc i) (omega (arith, e)) h.1)
  where
    at : (b : Bool) → K x.number ≡ b → x.number ≡ a → count_kept K first (suc i) ≡ count_kept K first i + cond (K a) 1 0
        → are_numbered (next + count_kept K first (suc i)) (kept_of K first next xs) ≡ true
        → are_numbered (next + count_kept K first i) (map (with_numbers (new_of K first next)) (cond (K x.number) (x ∷ filter (λ (s : Step). K s.number) xs) (filter (λ (s : Step). K s.number) xs))) ≡ true
    at true is same more h =
        let one : count_kept K first (suc i) ≡ count_kept K first i + 1 = more ∙ ap (λ b. count_kept K first i + cond b 1 0) (ap K (sym same) ∙ is) in
        let place : x.number - first ≡ i = omega (arith, same, e) in
        let number : new_of K first next x.number ≡ next + count_kept K first i =
        new_step K first next x.number (omega (arith, same, e)) ∙ ap (λ j. next + count_kept K first j) place in
        let next_one : next + count_kept K first (suc i) ≡ next + count_kept K first i + 1 = omega (arith, one) in
        rw (is, eq-eqb (new_of K first next x.number) (next + count_kept K first i) number)
        (subst (λ j. are_numbered j (kept_of K first next xs) ≡ true) next_one h)
    at false is same more h =
        let none : count_kept K first (suc i) ≡ count_kept K first i + 0 = more ∙ ap (λ b. count_kept K first i + cond b 1 0) (ap K (sym same) ∙ is) in
        let next_one : next + count_kept K first (suc i) ≡ next + count_kept K first i = omega (arith, none) in
        rw (is) (subst (λ j. are_numbered j (kept_of K first next xs) ≡ true) next_one h)

lower_new : (K : ℕ → Bool) (bound first next top : ℕ) (xs : List Step) (a : ℕ) → bound ≤ next → next ≤ first → first ≤ a → are_numbered a xs ≡ true
    → list_all names_lower xs ≡ true → EachFits K bound first top xs → list_all names_lower (kept_of K first next xs) ≡ true
lower_new K bound first next top [] a b n le number lower fits = refl
lower_new K bound first next top (x ∷ xs) a b n le number lower fits =
    let h = head_number a x xs number in
    let both = and_true (names_lower x) (list_all names_lower xs) lower in
    at (K x.number) refl h.0 both.0 fits.0 (lower_new K bound first next top xs (a + 1) b n (omega arith) h.1 both.1 fits.1)
  where
    at : (t : Bool) → K x.number ≡ t → x.number ≡ a → names_lower x ≡ true
        → (K x.number ≡ true → (k : ℕ) → among (x.number ∷ names_of x) k ≡ true → Valid K bound first top k)
        → list_all names_lower (kept_of K first next xs) ≡ true
        → list_all names_lower (map (with_numbers (new_of K first next)) (cond (K x.number) (x ∷ filter (λ (s : Step). K s.number) xs) (filter (λ (s : Step). K s.number) xs))) ≡ true
    at true is same low fit h =
        let here : names_lower (with_numbers (new_of K first next) x) ≡ true =
        subst (λ ns. list_all (λ k. nat_lt k (new_of K first next x.number)) ns ≡ true) (sym (names_new (new_of K first next) x))
        (all_mapped (λ k. nat_lt k (new_of K first next x.number)) (new_of K first next) (names_of x)
        (λ k m. (let less = new_less K bound first next top k x.number b n (fit is k (among_later x.number k (names_of x) m)) (omega (arith, same, le)) (name_lower x.number (names_of x) k low m) in
        le-leb (suc (new_of K first next k)) (new_of K first next x.number) less))) in
        rw (is, here) h
    at false is same low fit h = rw (is) h

clauses_new : (K : ℕ → Bool) (first next : ℕ) (xs : List Step) → list_all (λ (s : Step). is_ascending s.clause) xs ≡ true
    → list_all (λ (s : Step). is_ascending s.clause) (kept_of K first next xs) ≡ true
clauses_new K first next [] h = refl
clauses_new K first next (x ∷ xs) h =
    let both = and_true (is_ascending x.clause) (list_all (λ (s : Step). is_ascending s.clause) xs) h in
    at (K x.number) both.0 (clauses_new K first next xs both.1)
  where
    at : (t : Bool) → is_ascending x.clause ≡ true → list_all (λ (s : Step). is_ascending s.clause) (kept_of K first next xs) ≡ true
        → list_all (λ (s : Step). is_ascending s.clause) (map (with_numbers (new_of K first next)) (cond t (x ∷ filter (λ (s : Step). K s.number) xs) (filter (λ (s : Step). K s.number) xs))) ≡ true
    at true here more = rw (here) more
    at false here more = more

-- THE LAST STEP

refutes_later : (x : Step) (ys : List Step) → 0 < length ys → is_refutation (x ∷ ys) ≡ is_refutation ys
refutes_later x [] some = absurd (omega arith)
refutes_later x (y ∷ ys) some = refl

refutes_new : (K : ℕ → Bool) (first next : ℕ) (x : Step) (xs : List Step) → K (last_number (x ∷ xs)) ≡ true
    → (0 < length (kept_of K first next (x ∷ xs))) × (is_refutation (kept_of K first next (x ∷ xs)) ≡ is_refutation (x ∷ xs))
refutes_new K first next x [] is = rw (is) (omega arith, refl)
refutes_new K first next x (y ∷ ys) is = at (K x.number) (refutes_new K first next y ys is)
  where
    at : (t : Bool) → (0 < length (kept_of K first next (y ∷ ys))) × (is_refutation (kept_of K first next (y ∷ ys)) ≡ is_refutation (y ∷ ys))
        → (0 < length (map (with_numbers (new_of K first next)) (cond t (x ∷ filter (λ (s : Step). K s.number) (y ∷ ys)) (filter (λ (s : Step). K s.number) (y ∷ ys)))))
        × (is_refutation (map (with_numbers (new_of K first next)) (cond t (x ∷ filter (λ (s : Step). K s.number) (y ∷ ys)) (filter (λ (s : Step). K s.number) (y ∷ ys)))) ≡ is_refutation (y ∷ ys))
    at true h = (omega arith, refutes_later (with_numbers (new_of K first next) x) (kept_of K first next (y ∷ ys)) h.0 ∙ h.1)
    at false h = h

-- no clause before the last one lost its literals
filled_more : (x : Step) (ys : List Step) → not (is_empty x.clause) ≡ true → are_filled_before_last ys ≡ true → are_filled_before_last (x ∷ ys) ≡ true
filled_more x [] here more = refl
filled_more x (y ∷ ys) here more = rw (here) more

filled_new : (K : ℕ → Bool) (first next : ℕ) (x : Step) (xs : List Step) → K (last_number (x ∷ xs)) ≡ true
    → are_filled_before_last (x ∷ xs) ≡ true → are_filled_before_last (kept_of K first next (x ∷ xs)) ≡ true
filled_new K first next x [] is h = rw (is) refl
filled_new K first next x (y ∷ ys) is h =
    let both = and_true (not (is_empty x.clause)) (are_filled_before_last (y ∷ ys)) h in
    at (K x.number) both.0 (filled_new K first next y ys is both.1)
  where
    at : (t : Bool) → not (is_empty x.clause) ≡ true → are_filled_before_last (kept_of K first next (y ∷ ys)) ≡ true
        → are_filled_before_last (map (with_numbers (new_of K first next)) (cond t (x ∷ filter (λ (s : Step). K s.number) (y ∷ ys)) (filter (λ (s : Step). K s.number) (y ∷ ys)))) ≡ true
    at true here more = filled_more (with_numbers (new_of K first next) x) (kept_of K first next (y ∷ ys)) here more
    at false here more = more

-- WHAT IS REACHED

-- A step is kept if it is reached from later ones; the last one is kept.
abbrev Matches : (ℕ → Bool) → List Step → Type 0
Matches K [] = Unit {0}
Matches K (s ∷ []) = K s.number ≡ true
Matches K (s ∷ t ∷ later) = (K s.number ≡ among (reached (t ∷ later)) s.number) × Matches K (t ∷ later)

not_named : (n : ℕ) (ns : List ℕ) (k : ℕ) → list_all (λ j. nat_lt j n) ns ≡ true → n ≤ k → among ns k ≡ false
not_named n ns k lower le = at (among ns k) refl
  where
    at : (b : Bool) → among ns k ≡ b → b ≡ false
    at true e = let h = name_lower n ns k lower e in absurd (omega (arith, h, le))
    at false e = refl

reached_above : (s t : Step) (later : List Step) (k : ℕ) → names_lower s ≡ true → s.number ≤ k
    → among (reached (s ∷ t ∷ later)) k ≡ among (reached (t ∷ later)) k
unfolding reached
reached_above s t later k lower le = at (among (reached (t ∷ later)) s.number)
  where
    at : (b : Bool) → among (cond b (names_of s ++ reached (t ∷ later)) (reached (t ∷ later))) k ≡ among (reached (t ∷ later)) k
    at true = among_append (names_of s) (reached (t ∷ later)) k ∙ ap (λ b. b || among (reached (t ∷ later)) k) (not_named s.number (names_of s) k lower le)
    at false = refl

matches_from : (K : ℕ → Bool) (s : Step) (xs : List Step) (a : ℕ) → are_numbered a (s ∷ xs) ≡ true → list_all names_lower (s ∷ xs) ≡ true
    → ((k : ℕ) → a ≤ k → K k ≡ among (reached (s ∷ xs)) k) → Matches K (s ∷ xs)
unfolding reached
matches_from K s [] a n lower same =
    let h = head_number a s [] n in same s.number (omega (arith, h.0)) ∙ rw (eq-eqb s.number s.number refl) refl
matches_from K s (t ∷ later) a n lower same =
    let h = head_number a s (t ∷ later) n in
    let both = and_true (names_lower s) (list_all names_lower (t ∷ later)) lower in (
      same s.number (omega (arith, h.0)) ∙ reached_above s t later s.number both.0 (omega arith),
      matches_from K t later (a + 1) h.1 both.1 (λ k le. same k (omega arith) ∙ reached_above s t later k both.0 (omega (arith, h.0, le))),
    )

-- numbers keep their places among new ones
among_new : (K : ℕ → Bool) (bound first next top : ℕ) (ns : List ℕ) (k : ℕ) → bound ≤ next → next ≤ first
    → ((j : ℕ) → among ns j ≡ true → Valid K bound first top j) → Valid K bound first top k
    → among (map (new_of K first next) ns) (new_of K first next k) ≡ among ns k
among_new K bound first next top [] k b n valid v = refl
among_new K bound first next top (j ∷ ns) k b n valid v =
    rw (
      new_apart K bound first next top j k b n (valid j (rw (eq-eqb j j refl) refl)) v,
      among_new K bound first next top ns k b n (λ i m. valid i (among_later j i ns m)) v,
    ) refl

reached_new : (K : ℕ → Bool) (bound first next top : ℕ) (s : Step) (xs : List Step) → bound ≤ next → next ≤ first
    → Matches K (s ∷ xs) → EachFits K bound first top (s ∷ xs) → (k : ℕ) → Valid K bound first top k
    → (0 < length (kept_of K first next (s ∷ xs)))
    × (among (reached (kept_of K first next (s ∷ xs))) (new_of K first next k) ≡ among (reached (s ∷ xs)) k)
unfolding reached
reached_new K bound first next top s [] b n match fits k v =
    let f = new_of K first next in
    rw (match) (
      omega arith,
      ap (λ ns. among (f s.number ∷ ns) (f k)) (names_new f s) ∙ among_new K bound first next top (s.number ∷ names_of s) k b n (fits.0 match) v,
    )
reached_new K bound first next top s (t ∷ later) b n match fits k v =
    at (K s.number) refl match.0 fits.0
    (reached_new K bound first next top t later b n match.1 fits.1 k v)
    (λ w. (reached_new K bound first next top t later b n match.1 fits.1 s.number w).1)
  where
    at : (x : Bool) → K s.number ≡ x → K s.number ≡ among (reached (t ∷ later)) s.number
        → (K s.number ≡ true → (j : ℕ) → among (s.number ∷ names_of s) j ≡ true → Valid K bound first top j)
        → (0 < length (kept_of K first next (t ∷ later))) × (among (reached (kept_of K first next (t ∷ later))) (new_of K first next k) ≡ among (reached (t ∷ later)) k)
        → (Valid K bound first top s.number → among (reached (kept_of K first next (t ∷ later))) (new_of K first next s.number) ≡ among (reached (t ∷ later)) s.number)
        → (0 < length (map (with_numbers (new_of K first next)) (cond (K s.number) (s ∷ filter (λ (u : Step). K u.number) (t ∷ later)) (filter (λ (u : Step). K u.number) (t ∷ later)))))
        × (among (reached (map (with_numbers (new_of K first next)) (cond (K s.number) (s ∷ filter (λ (u : Step). K u.number) (t ∷ later)) (filter (λ (u : Step). K u.number) (t ∷ later))))) (new_of K first next k)
        ≡ among (cond (among (reached (t ∷ later)) s.number) (names_of s ++ reached (t ∷ later)) (reached (t ∷ later))) k)
    at true is match fit rest own =
        let f = new_of K first next in
        let kept = kept_of K first next (t ∷ later) in
        let known : among (reached (t ∷ later)) s.number ≡ true = sym match ∙ is in
        let own_known : among (reached kept) (f s.number) ≡ true = own (fit is s.number (rw (eq-eqb s.number s.number refl) refl)) ∙ known in
        let names : among (names_of (with_numbers f s)) (f k) ≡ among (names_of s) k =
        ap (λ ns. among ns (f k)) (names_new f s) ∙ among_new K bound first next top (names_of s) k b n (λ j m. fit is j (among_later s.number j (names_of s) m)) v in
        rw (is, known) (
          omega arith,
          ap (λ ns. among ns (f k)) (at_rest (with_numbers f s) kept rest.0)
              ∙ ap (λ x. among (cond x (names_of (with_numbers f s) ++ reached kept) (reached kept)) (f k)) own_known
              ∙ among_append (names_of (with_numbers f s)) (reached kept) (f k)
              ∙ ap (λ x. x || among (reached kept) (f k)) names ∙ ap (λ x. among (names_of s) k || x) rest.1
              ∙ sym (among_append (names_of s) (reached (t ∷ later)) k),
        )
    at false is match fit rest own =
        let unknown : among (reached (t ∷ later)) s.number ≡ false = sym match ∙ is in rw (is, unknown) rest

-- what holds of the new number of each kept one holds of each kept step
needed_new : (K t : ℕ → Bool) (bound first next top : ℕ) (xs : List Step) → EachFits K bound first top xs
    → ((k : ℕ) → Valid K bound first top k → K k ≡ true → t (new_of K first next k) ≡ true)
    → list_all (λ (s : Step). t s.number) (kept_of K first next xs) ≡ true
needed_new K t bound first next top [] fits h = refl
needed_new K t bound first next top (x ∷ xs) fits h = at (K x.number) refl (needed_new K t bound first next top xs fits.1 h)
  where
    at : (b : Bool) → K x.number ≡ b → list_all (λ (s : Step). t s.number) (kept_of K first next xs) ≡ true
        → list_all (λ (s : Step). t s.number)
        (map (with_numbers (new_of K first next)) (cond b (x ∷ filter (λ (s : Step). K s.number) xs) (filter (λ (s : Step). K s.number) xs))) ≡ true
    at true is more =
        let valid = fits.0 is x.number (rw (eq-eqb x.number x.number refl) refl) in
        and_from (t (new_of K first next x.number)) (list_all (λ (s : Step). t s.number) (kept_of K first next xs)) (h x.number valid is) more
    at false is more = more

-- THE CHAINS

found_new : (K : ℕ → Bool) (bound first next top : ℕ) (pre : List Step) (k : ℕ) → bound ≤ next → next ≤ first → EachFits K bound first top pre
    → Valid K bound first top k → K k ≡ true → clause_of_step (kept_of K first next pre) (new_of K first next k) ≡ clause_of_step pre k
found_new K bound first next top [] k b n fits v is = refl
found_new K bound first next top (u ∷ pre) k b n fits v is =
    at (K u.number) refl (u.number == k) refl fits.0 (found_new K bound first next top pre k b n fits.1 v is)
  where
    at : (x : Bool) → K u.number ≡ x → (y : Bool) → (u.number == k) ≡ y
        → (K u.number ≡ true → (j : ℕ) → among (u.number ∷ names_of u) j ≡ true → Valid K bound first top j)
        → clause_of_step (kept_of K first next pre) (new_of K first next k) ≡ clause_of_step pre k
        → option_map (λ (s : Step). s.clause) (find (λ (s : Step). s.number == new_of K first next k)
        (map (with_numbers (new_of K first next)) (cond (K u.number) (u ∷ filter (λ (s : Step). K s.number) pre) (filter (λ (s : Step). K s.number) pre))))
        ≡ option_map (λ (s : Step). s.clause) (cond (u.number == k) (Some u) (find (λ (s : Step). s.number == k) pre))
    at true kept true e fit h =
        rw (kept, new_apart K bound first next top u.number k b n (fit kept u.number (rw (eq-eqb u.number u.number refl) refl)) v, e) refl
    at true kept false e fit h =
        rw (kept, new_apart K bound first next top u.number k b n (fit kept u.number (rw (eq-eqb u.number u.number refl) refl)) v, e) h
    at false kept true e fit h =
        let same : K u.number ≡ K k = ap K (eqb-true u.number k e) in let f : false ≡ true = sym kept ∙ same ∙ is in absurd (let g : ⊥ = cc in g)
    at false kept false e fit h = rw (kept, e) h

named_new : (over : Crossed) (K : ℕ → Bool) (first next top : ℕ) (pre : List Step) (k : ℕ)
    → length over.formula.now.clauses < next → next ≤ first → EachFits K (suc (length over.formula.now.clauses)) first top pre
    → Valid K (suc (length over.formula.now.clauses)) first top k
    → clause_named (premises_of over (kept_of K first next pre)) (new_of K first next k) ≡ clause_named (premises_of over pre) k
named_new over K first next top pre k past n fits (a_position lt) =
    rw (new_position K first next k (omega (arith, lt, past, n)), le-leb k (length over.formula.now.clauses) (omega (arith, lt))) refl
named_new over K first next top pre k past n fits (a_step le below is) =
    let number = new_step K first next k le in
    step_named (premises_of over (kept_of K first next pre)) (new_of K first next k) (omega (arith, number, past))
    ∙ found_new K (suc (length over.formula.now.clauses)) first next top pre k (omega arith) n fits (a_step le below is) is
    ∙ sym (step_named (premises_of over pre) k (omega (arith, past, n, le)))

turns_new : (P Q : Premises) (f : ℕ → ℕ) (turns : List Turn) → ((k : ℕ) → among (map (λ (t : Turn). t.with) turns) k ≡ true → clause_named Q (f k) ≡ clause_named P k)
    → (c : List ℤ) → after_turns Q c (map (with_number f) turns) ≡ after_turns P c turns
turns_new P Q f [] same c = refl
turns_new P Q f (t ∷ turns) same c =
    rw (same t.with (rw (eq-eqb t.with t.with refl) refl))
    (at_clause (turns_new P Q f turns (λ k m. same k (among_later t.with k (map (λ (t : Turn). t.with) turns) m))) (clause_named P t.with))
  where
    at_resolvent : ((c : List ℤ) → after_turns Q c (map (with_number f) turns) ≡ after_turns P c turns) → (o : Option (List ℤ))
        → option_and_then (λ r. after_turns Q r (map (with_number f) turns)) o ≡ option_and_then (λ r. after_turns P r turns) o
    at_resolvent h None = refl
    at_resolvent h (Some r) = h r

    at_clause : ((c : List ℤ) → after_turns Q c (map (with_number f) turns) ≡ after_turns P c turns) → (o : Option (List ℤ))
        → option_and_then (λ d. option_and_then (λ r. after_turns Q r (map (with_number f) turns)) (resolvent t.lit c d)) o
        ≡ option_and_then (λ d. option_and_then (λ r. after_turns P r turns) (resolvent t.lit c d)) o
    at_clause h None = refl
    at_clause h (Some d) = at_resolvent h (resolvent t.lit c d)

-- the clause of a chain, where its new numbers stand for what its numbers stood for
pub chain_new : (P Q : Premises) (f : ℕ → ℕ) (first : ℕ) (turns : List Turn)
    → ((k : ℕ) → among (first ∷ map (λ (t : Turn). t.with) turns) k ≡ true → clause_named Q (f k) ≡ clause_named P k)
    → chain_clause Q (f first) (map (with_number f) turns) ≡ chain_clause P first turns
chain_new P Q f first turns same =
    rw (same first (rw (eq-eqb first first refl) refl))
    (at (turns_new P Q f turns (λ k m. same k (among_later first k (map (λ (t : Turn). t.with) turns) m))) (clause_named P first))
  where
    at : ((c : List ℤ) → after_turns Q c (map (with_number f) turns) ≡ after_turns P c turns) → (o : Option (List ℤ))
        → option_and_then (λ c. after_turns Q c (map (with_number f) turns)) o ≡ option_and_then (λ c. after_turns P c turns) o
    at h None = refl
    at h (Some c) = h c

states_new : (P Q : Premises) (f : ℕ → ℕ) (s : Step) → ((k : ℕ) → among (names_of s) k ≡ true → clause_named Q (f k) ≡ clause_named P k)
    → states_its_clause Q (with_numbers f s) ≡ states_its_clause P s
unfolding states_its_clause
states_new P Q f s same = ap (λ (o : Option (List ℤ)). option_map_or (is_same_set s.clause) o false) (chain_new P Q f s.first s.turns same)

kept_push : (K : ℕ → Bool) (first next : ℕ) (pre : List Step) (x : Step) (b : Bool) → K x.number ≡ b
    → kept_of K first next (pre ++ x ∷ []) ≡ kept_of K first next pre ++ map (with_numbers (new_of K first next)) (cond b (x ∷ []) [])
kept_push K first next pre x b is =
    ap (map (with_numbers (new_of K first next))) (filter-append (λ (s : Step). K s.number) pre (x ∷ []) ∙ ap (λ c. filter (λ (s : Step). K s.number) pre ++ cond c (x ∷ []) []) is)
    ∙ map-append (with_numbers (new_of K first next)) (filter (λ (s : Step). K s.number) pre) (cond b (x ∷ []) [])

fits_push : (K : ℕ → Bool) (bound first top : ℕ) (pre : List Step) (x : Step) → EachFits K bound first top pre
    → (K x.number ≡ true → (k : ℕ) → among (x.number ∷ names_of x) k ≡ true → Valid K bound first top k) → EachFits K bound first top (pre ++ x ∷ [])
fits_push K bound first top [] x fits one = (one, tt)
fits_push K bound first top (s ∷ pre) x fits one = (fits.0, fits_push K bound first top pre x fits.1 one)

chains_new : (over : Crossed) (K : ℕ → Bool) (first next top : ℕ) (pre xs : List Step) → length over.formula.now.clauses < next → next ≤ first
    → EachFits K (suc (length over.formula.now.clauses)) first top pre → EachFits K (suc (length over.formula.now.clauses)) first top xs
    → state_clauses over pre xs ≡ true → state_clauses over (kept_of K first next pre) (kept_of K first next xs) ≡ true
chains_new over K first next top pre [] past n before fits e = refl
chains_new over K first next top pre (x ∷ xs) past n before fits e =
    let both = and_true (states_its_clause (premises_of over pre) x) (state_clauses over (pre ++ x ∷ []) xs) e in
    at (K x.number) refl both.0 fits.0
    (chains_new over K first next top (pre ++ x ∷ []) xs past n (fits_push K (suc (length over.formula.now.clauses)) first top pre x before fits.0) fits.1 both.1)
  where
    at : (b : Bool) → K x.number ≡ b → states_its_clause (premises_of over pre) x ≡ true
        → (K x.number ≡ true → (k : ℕ) → among (x.number ∷ names_of x) k ≡ true → Valid K (suc (length over.formula.now.clauses)) first top k)
        → state_clauses over (kept_of K first next (pre ++ x ∷ [])) (kept_of K first next xs) ≡ true
        → state_clauses over (kept_of K first next pre) (map (with_numbers (new_of K first next)) (cond (K x.number) (x ∷ filter (λ (s : Step). K s.number) xs) (filter (λ (s : Step). K s.number) xs))) ≡ true
    at true is here fit h =
        let f = new_of K first next in
        let stated : states_its_clause (premises_of over (kept_of K first next pre)) (with_numbers f x) ≡ true =
        states_new (premises_of over pre) (premises_of over (kept_of K first next pre)) f x
        (λ k m. named_new over K first next top pre k past n before (fit is k (among_later x.number k (names_of x) m))) ∙ here in
        let later : state_clauses over (kept_of K first next pre ++ with_numbers f x ∷ []) (kept_of K first next xs) ≡ true =
        subst (λ (ss : List Step). state_clauses over ss (kept_of K first next xs) ≡ true) (kept_push K first next pre x true is) h in
        rw (is, stated) later
    at false is here fit h =
        rw (is) (subst (λ (ss : List Step). state_clauses over ss (kept_of K first next xs) ≡ true) (kept_push K first next pre x false is ∙ append-nil (kept_of K first next pre)) h)

-- THE LAW

-- a position that is reached is used
used_there : (K : ℕ → Bool) (m k : ℕ) → 0 < k → k ≤ m → K k ≡ true → among (filter K (range_with_len 1 m)) k ≡ true
used_there K m k low high is = among-filter K (range_with_len 1 m) k ∙ and_from (K k) (among (range_with_len 1 m) k) is (among-range 1 m k (omega arith) (omega (arith, high)))

kept_stand : (over : Crossed) (first next : ℕ) (steps : List Step) → IsDerivation first steps → IsTrue (are_chains over steps) → IsTrue (is_refutation steps)
    → length over.formula.now.clauses < next → next ≤ first → TrimsTo over next steps (kept_of (among (reached steps)) first next steps)
kept_stand over first next [] d chains whole past n = absurd (let f : ⊥ = cc in f)
kept_stand over first next (s ∷ xs) d chains whole past n =
    let steps = s ∷ xs in
    let K : ℕ → Bool = among (reached steps) in
    let m = length over.formula.now.clauses in
    let top = first + length steps in
    let fits = each_fits (suc m) first steps d (chain_sides over first steps d.numbers chains) in
    let match = matches_from K s xs first d.numbers d.names (λ k le. refl) in
    let start : next + count_kept K first 0 ≡ next = omega arith in
    record {
      derivation = record {
        numbers = subst (λ j. are_numbered j (kept_of K first next steps) ≡ true) start (numbered_new K first next steps first 0 (omega arith) d.numbers);
        names = lower_new K (suc m) first next top steps first (omega arith) n (omega arith) d.numbers d.names fits;
        clauses = clauses_new K first next steps d.clauses;
      };
      shorter = omega (arith, length-map (filter (λ (s : Step). K s.number) steps) (with_numbers (new_of K first next)), length-filter (λ (s : Step). K s.number) steps, count_by-le-length (λ (s : Step). K s.number) steps);
      chains = to_chains over (kept_of K first next steps) (chains_new over K first next top [] steps past n tt fits (from_chains over steps chains));
      refutation = (refutes_new K first next s xs (reached_last first s xs d)).1 ∙ whole;
      positions = same_in_range (among (reached (kept_of K first next steps))) (among (reached steps)) m 1
          (λ p le lt. (let v : Valid K (suc m) first top p = a_position (omega (arith, lt)) in
          ap (among (reached (kept_of K first next steps))) (sym (new_position K first next p (omega (arith, lt, past, n))))
          ∙ (reached_new K (suc m) first next top s xs (omega arith) n match fits p v).1));
      names = λ crossed.
          subst (λ (ss : List Step). list_all (λ (u : Step). list_all (λ k. nat_lt m k || among (filter K (range_with_len 1 m)) k) (names_of u)) ss ≡ true)
          (sym (append-nil (kept_of K first next steps)))
          (names_kept K m first next top (filter K (range_with_len 1 m)) steps past n fits
          (λ u c is k mem low. used_there K m k (low_names over steps crossed.part (from_chains over steps chains) u c k mem (omega (arith, low))) (omega (arith, low)) (reached_names first steps u k d c is mem)));
      clauses = clauses_kept K first next steps;
      filled = filled_new K first next s xs (reached_last first s xs d);
      fewer = fewer_kept K first next steps;
      needed = needed_new K (among (reached (kept_of K first next steps))) (suc m) first next top steps fits
          (λ k v is. (reached_new K (suc m) first next top s xs (omega arith) n match fits k v).1 ∙ is);
    }

pub trimmed_law : TrimmedLaw
trimmed_law over first next steps d chains whole past n =
    subst (λ (after : List Step). TrimsTo over next steps after) (sym (trimmed_is first next steps d)) (kept_stand over first next steps d chains whole past n)
