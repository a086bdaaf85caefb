-- What kept steps name and state, with new numbers.
use Rattle.std.proofs.Common.{◌≡◌, ℕ, zero, suc, ◌<◌, ◌≤◌, Bool, true, false, cond, not, ◌||◌, ◌==◌, nat_lt, List, [], ◌∷◌, ◌++◌, refl, sym, ap, subst, arith, ℤ, length, map, filter, Contains}
use Rattle.std.specs.List.{list_all}
use Rattle.std.proofs.lemmas.Bool.{le-leb, eq-eqb}
use Rattle.lk_model.specs.Lists.{among, is_empty, rises_within}
use Rattle.lk_model.specs.Chains.Chain.{names_of, states_its_clause}
use Rattle.lk_model.specs.Held.VariableSets.{premises_of}
use Rattle.lk_model.specs.declared.crossed.Crossed.{Crossed}
use Rattle.lk_model.specs.declared.document.Turn.{Turn}
use Rattle.lk_model.specs.declared.document.Step.{Step}
use Rattle.lk_model.proofs.Booleans.{and_true, or_left, or_right}
use Rattle.lk_model.proofs.Lists.{among_later}
use Rattle.refutation_log.specs.Trimmed.{with_numbers, count_filled}
use Rattle.refutation_log.proofs.Chains.{position_first}
use Rattle.refutation_log.proofs.ChainNames.{state_clauses, names_stand}
use Rattle.refutation_log.proofs.Keeping.{Valid, a_position, a_step, new_of, new_position, new_step}
use Rattle.refutation_log.proofs.Trimming.{EachFits, with_number, contains_later}

-- the kept steps, with new numbers
abbrev pub kept_of : (ℕ → Bool) → ℕ → ℕ → List Step → List Step
kept_of K first next xs = map (with_numbers (new_of K first next)) (filter (λ (s : Step). K s.number) xs)

-- THEIR NAMES

turn_names : (f : ℕ → ℕ) (turns : List Turn) → map (λ (t : Turn). t.with) (map (with_number f) turns) ≡ map f (map (λ (t : Turn). t.with) turns)
turn_names f [] = refl
turn_names f (t ∷ turns) = ap (λ ns. f t.with ∷ ns) (turn_names f turns)

pub names_new : (f : ℕ → ℕ) (s : Step) → names_of (with_numbers f s) ≡ map f (names_of s)
names_new f s = ap (λ ns. f s.first ∷ ns) (turn_names f s.turns)

pub all_mapped : (t : ℕ → Bool) (f : ℕ → ℕ) (ns : List ℕ) → ((k : ℕ) → among ns k ≡ true → t (f k) ≡ true) → list_all t (map f ns) ≡ true
all_mapped t f [] h = refl
all_mapped t f (n ∷ ns) h =
    rw (h n (rw (eq-eqb n n refl) refl), all_mapped t f ns (λ k m. h k (rw m (or_yes (n == k))))) refl
  where
    or_yes : (b : Bool) → (b || true) ≡ true
    or_yes true = refl
    or_yes false = refl

-- a kept step names steps, or positions of a list that has those that it named
pub names_kept : (K : ℕ → Bool) (m first next top : ℕ) (used : List ℕ) (xs : List Step) → m < next → next ≤ first → EachFits K (suc m) first top xs
    → ((s : Step) → Contains xs s → K s.number ≡ true → (k : ℕ) → among (names_of s) k ≡ true → k < suc m → among used k ≡ true)
    → list_all (λ (s : Step). list_all (λ k. nat_lt m k || among used k) (names_of s)) (kept_of K first next xs) ≡ true
names_kept K m first next top used [] past n fits has = refl
names_kept K m first next top used (x ∷ xs) past n fits has =
    at (K x.number) refl fits.0
    (names_kept K m first next top used xs past n fits.1 (λ s c is k named low. has s (contains_later s x xs c) is k named low))
  where
    f : ℕ → ℕ
    f = new_of K first next

    passes : ℕ → Bool
    passes k = nat_lt m k || among used k

    valid : (k : ℕ) → K x.number ≡ true → among (names_of x) k ≡ true → Valid K (suc m) first top k → passes (f k) ≡ true
    valid k is named (a_position lt) =
        subst (λ j. passes j ≡ true) (sym (new_position K first next k (omega (arith, lt, past, n))))
        (or_right (nat_lt m k) (among used k) (has x (0, omega arith, refl) is k named lt))
    valid k is named (a_step le within kept) =
        let number = new_step K first next k le in
        or_left (nat_lt m (f k)) (among used (f k)) (le-leb (suc m) (f k) (omega (arith, number, past)))

    at : (b : Bool) → K x.number ≡ b → (K x.number ≡ true → (k : ℕ) → among (x.number ∷ names_of x) k ≡ true → Valid K (suc m) first top k)
        → list_all (λ (s : Step). list_all passes (names_of s)) (kept_of K first next xs) ≡ true
        → list_all (λ (s : Step). list_all passes (names_of s)) (map (with_numbers f) (cond b (x ∷ filter (λ (s : Step). K s.number) xs) (filter (λ (s : Step). K s.number) xs))) ≡ true
    at true is fit rest =
        let here : list_all passes (names_of (with_numbers f x)) ≡ true =
        subst (λ ns. list_all passes ns ≡ true) (sym (names_new f x))
        (all_mapped passes f (names_of x) (λ k named. valid k is named (fit is k (among_later x.number k (names_of x) named)))) in
        rw (here) rest
    at false is fit rest = rest

low_after : (over : Crossed) (before steps : List Step) → rises_within 0 (length over.formula.now.clauses) over.part.now ≡ true
    → state_clauses over before steps ≡ true → (s : Step) → Contains steps s → (k : ℕ) → among (names_of s) k ≡ true
    → k ≤ length over.formula.now.clauses → 0 < k
low_after over before [] part stated s (i, lt, same) k named le = absurd (omega (arith, lt))
low_after over before (u ∷ steps) part stated s (zero, lt, same) k named le =
    let both = and_true (states_its_clause (premises_of over before) u) (state_clauses over (before ++ u ∷ []) steps) stated in
    position_first (premises_of over before) k part le
    (names_stand (premises_of over before) u k both.0 (subst (λ (v : Step). among (names_of v) k ≡ true) (sym same) named))
low_after over before (u ∷ steps) part stated s (suc i, lt, same) k named le =
    let both = and_true (states_its_clause (premises_of over before) u) (state_clauses over (before ++ u ∷ []) steps) stated in
    low_after over (before ++ u ∷ []) steps part both.1 s (i, omega (arith, lt), same) k named le

-- no chain over positions names 0
pub low_names : (over : Crossed) (steps : List Step) → rises_within 0 (length over.formula.now.clauses) over.part.now ≡ true
    → state_clauses over [] steps ≡ true → (s : Step) → Contains steps s → (k : ℕ) → among (names_of s) k ≡ true
    → k ≤ length over.formula.now.clauses → 0 < k
low_names over steps part stated s c k named le = low_after over [] steps part stated s c k named le

-- THEIR CLAUSES

pub clauses_kept : (K : ℕ → Bool) (first next : ℕ) (xs : List Step)
    → map (λ (s : Step). s.clause) (kept_of K first next xs) ≡ map (λ (s : Step). s.clause) (filter (λ (s : Step). K s.number) xs)
clauses_kept K first next xs = same (filter (λ (s : Step). K s.number) xs)
  where
    same : (ys : List Step) → map (λ (s : Step). s.clause) (map (with_numbers (new_of K first next)) ys) ≡ map (λ (s : Step). s.clause) ys
    same [] = refl
    same (y ∷ ys) = ap (λ (cs : List (List ℤ)). y.clause ∷ cs) (same ys)

pub fewer_kept : (K : ℕ → Bool) (first next : ℕ) (xs : List Step) → count_filled (kept_of K first next xs) ≤ count_filled xs
fewer_kept K first next [] = omega arith
fewer_kept K first next (x ∷ xs) = at (K x.number) (not (is_empty x.clause)) refl (fewer_kept K first next xs)
  where
    rest : List Step
    rest = filter (λ (s : Step). K s.number) xs

    renumbered : List Step → List Step
    renumbered steps = map (with_numbers (new_of K first next)) steps

    filled : List Step → List Step
    filled steps = filter (λ (s : Step). not (is_empty s.clause)) steps

    at : (a b : Bool) → not (is_empty x.clause) ≡ b → length (filled (renumbered rest)) ≤ length (filled xs)
        → length (filled (renumbered (cond a (x ∷ rest) rest))) ≤ length (cond (not (is_empty x.clause)) (x ∷ filled xs) (filled xs))
    at true true e h = rw (e) (omega (arith, h))
    at true false e h = rw (e) h
    at false true e h = rw (e) (omega (arith, h))
    at false false e h = rw (e) h
