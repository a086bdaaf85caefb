-- Kept steps with new numbers are the trimmed ones.
use Rattle.std.proofs.Common.{◌≡◌, ℕ, zero, suc, ◌+◌, ◌-◌, ◌<◌, ◌≤◌, Bool, true, false, cond, ◌||◌, ◌==◌, nat_lt, List, [], ◌∷◌, refl, sym, ◌∙◌, ap, subst, arith, length, map, filter, take, count_by, slice_index, slice_index_or, Contains, ◌⊎◌, inl, inr}
use Rattle.std.specs.List.{list_all, range_with_len}
use Rattle.std.proofs.lemmas.Bool.{leb-true, leb-false, le-leb, eq-eqb, eqb-true, le-ltb}
use Rattle.std.proofs.lemmas.List.Sums.{length-filter}
use Rattle.lk_model.specs.Lists.{among}
use Rattle.lk_model.specs.Chains.Chain.{names_of}
use Rattle.lk_model.specs.Chains.Rounds.{reached}
use Rattle.lk_model.specs.Laws.{itself, named, are_in_order, last_number}
use Rattle.lk_model.specs.declared.document.Turn.{Turn}
use Rattle.lk_model.specs.declared.document.Step.{Step}
use Rattle.lk_model.proofs.ReachedLaws.{reached_law}
use Rattle.refutation_log.specs.Derivation.{are_numbered, names_lower, IsDerivation}
use Rattle.refutation_log.specs.Trimmed.{trimmed, new_number, with_numbers}
use Rattle.refutation_log.specs.Numbers.{number_by_table, is_marked}
use Rattle.refutation_log.proofs.Steps.{head_number}
use Rattle.lk_model.proofs.Booleans.{and_true, or_true}
use Rattle.lk_model.proofs.Lists.{name_lower}
use Rattle.refutation_log.proofs.Keeping.{Valid, a_position, a_step, new_of, count_kept, kept_numbers, new_number_is}

-- THE NAMES OF KEPT STEPS

in_order : (low first : ℕ) (steps : List Step) → low < first → are_numbered first steps ≡ true → list_all names_lower steps ≡ true
    → are_in_order low steps ≡ true
in_order low first [] lt n l = refl
in_order low first (s ∷ steps) lt n l =
    let h = head_number first s steps n in
    let both = and_true (names_lower s) (list_all names_lower steps) l in
    rw (le-leb (suc low) s.number (omega (arith, h.0, lt)), both.0)
    (in_order s.number (first + 1) steps (omega (arith, h.0)) h.1 both.1)

pub in_order_from_0 : (first : ℕ) (s : Step) (steps : List Step) → are_numbered first (s ∷ steps) ≡ true → list_all names_lower (s ∷ steps) ≡ true
    → are_in_order 0 (s ∷ steps) ≡ true
in_order_from_0 first s steps n l =
    let h = head_number first s steps n in
    let both = and_true (names_lower s) (list_all names_lower steps) l in
    let below = leb-true (suc s.first) s.number (and_true (nat_lt s.first s.number) (list_all (λ k. nat_lt k s.number) (map (λ (t : Turn). t.with) s.turns)) both.0).0 in
    in_order 0 first (s ∷ steps) (omega (arith, h.0, below)) n l

-- what a reached step names is reached
pub reached_names : (first : ℕ) (steps : List Step) (s : Step) (k : ℕ) → IsDerivation first steps → Contains steps s
    → among (reached steps) s.number ≡ true → among (names_of s) k ≡ true → among (reached steps) k ≡ true
reached_names first [] s k d (i, lt, e) r m = absurd (omega (arith, lt))
reached_names first (t ∷ steps) s k d c r m =
    let law = reached_law 0 t steps (in_order_from_0 first t steps d.numbers d.names) in
    (law k).1 (named s k c ((law s.number).0 r) m)

-- the last step is reached
pub reached_last : (first : ℕ) (s : Step) (steps : List Step) → IsDerivation first (s ∷ steps)
    → among (reached (s ∷ steps)) (last_number (s ∷ steps)) ≡ true
reached_last first s steps d = (reached_law 0 s steps (in_order_from_0 first s steps d.numbers d.names) (last_number (s ∷ steps))).1 itself

-- Each kept step names numbers that it may name, and has such a number.
abbrev pub EachFits : (ℕ → Bool) → ℕ → ℕ → ℕ → List Step → Type 0
EachFits K bound first top [] = Unit {0}
EachFits K bound first top (s ∷ steps) =
    (K s.number ≡ true → (k : ℕ) → among (s.number ∷ names_of s) k ≡ true → Valid K bound first top k) × EachFits K bound first top steps

pub contains_later : (s t : Step) (steps : List Step) → Contains steps s → Contains (t ∷ steps) s
contains_later s t steps (i, lt, e) = (suc i, omega (arith, lt), e)

fits_within : (bound first a top : ℕ) (K : ℕ → Bool) (xs : List Step) → first ≤ a → a + length xs ≤ top
    → are_numbered a xs ≡ true → list_all names_lower xs ≡ true
    → ((s : Step) → Contains xs s → K s.number ≡ true → (k : ℕ) → among (names_of s) k ≡ true → (k < bound) ⊎ ((first ≤ k) × (K k ≡ true)))
    → EachFits K bound first top xs
fits_within bound first a top K [] le within n l side = tt
fits_within bound first a top K (s ∷ xs) le within n l side =
    let h = head_number a s xs n in
    let both = and_true (names_lower s) (list_all names_lower xs) l in (
      λ is k m. elim (or_true (s.number == k) (among (names_of s) k) m) [
        | inl here ↦
            (let same = eqb-true s.number k here in
            subst (λ j. Valid K bound first top j) same (a_step (omega (arith, h.0, le)) (omega (arith, h.0, within)) is))
        | inr more ↦
            (let lower = name_lower s.number (names_of s) k both.0 more in
            by_side k (omega (arith, lower, h.0, within)) (side s (0, omega arith, refl) is k more))
      ],
      fits_within bound first (a + 1) top K xs (omega arith) (omega arith) h.1 both.1 (λ u c is k m. side u (contains_later u s xs c) is k m),
    )
  where
    by_side : (k : ℕ) → k < top → (k < bound) ⊎ ((first ≤ k) × (K k ≡ true)) → Valid K bound first top k
    by_side k lt (inl low) = a_position low
    by_side k lt (inr (high, is)) = a_step high lt is

-- a name below the bound, or of a step
pub each_fits : (bound first : ℕ) (steps : List Step) → IsDerivation first steps
    → ((s : Step) → Contains steps s → (k : ℕ) → among (names_of s) k ≡ true → (k < bound) ⊎ (first ≤ k))
    → EachFits (among (reached steps)) bound first (first + length steps) steps
each_fits bound first steps d side =
    fits_within bound first first (first + length steps) (among (reached steps)) steps (omega arith) (omega arith) d.numbers d.names
    (λ s c is k m. by_side k (reached_names first steps s k d c is m) (side s c k m))
  where
    by_side : (k : ℕ) → among (reached steps) k ≡ true → (k < bound) ⊎ (first ≤ k) → (k < bound) ⊎ ((first ≤ k) × (among (reached steps) k ≡ true))
    by_side k is (inl low) = inl low
    by_side k is (inr high) = inr (high, is)

pub fits_below_first : (first : ℕ) (steps : List Step) → IsDerivation first steps
    → EachFits (among (reached steps)) first first (first + length steps) steps
fits_below_first first steps d = each_fits first first steps d (λ s c k m. by_test k (nat_lt k first) refl)
  where
    by_test : (k : ℕ) (x : Bool) → nat_lt k first ≡ x → (k < first) ⊎ (first ≤ k)
    by_test k true e = inl (let h = leb-true (suc k) first e in omega (arith, h))
    by_test k false e = inr (let h = leb-false (suc k) first e in omega (arith, h))

-- THE SAME NEW NUMBERS

-- a turn with the new number of its clause
abbrev pub with_number : (ℕ → ℕ) → Turn → Turn
with_number f t = record { lit = t.lit; with = f t.with }

same_turns : (f g : ℕ → ℕ) (turns : List Turn) → ((k : ℕ) → among (map (λ (t : Turn). t.with) turns) k ≡ true → f k ≡ g k)
    → map (with_number f) turns ≡ map (with_number g) turns
same_turns f g [] same = refl
same_turns f g (t ∷ turns) same =
    rw (same t.with (rw (eq-eqb t.with t.with refl) refl), same_turns f g turns (λ k m. same k (rw m (or_yes (t.with == k))))) refl
  where
    or_yes : (b : Bool) → (b || true) ≡ true
    or_yes true = refl
    or_yes false = refl

same_step : (f g : ℕ → ℕ) (s : Step) → ((k : ℕ) → among (s.number ∷ names_of s) k ≡ true → f k ≡ g k) → with_numbers f s ≡ with_numbers g s
same_step f g s same =
    rw (
      same s.number (rw (eq-eqb s.number s.number refl) refl),
      same s.first (rw (eq-eqb s.first s.first refl) (or_yes (s.number == s.first))),
      same_turns f g s.turns (λ k m. same k (rw m (both (s.number == k) (s.first == k)))),
    ) refl
  where
    or_yes : (b : Bool) → (b || true) ≡ true
    or_yes true = refl
    or_yes false = refl

    both : (a b : Bool) → (a || (b || true)) ≡ true
    both true b = refl
    both false true = refl
    both false false = refl

-- kept steps get the same numbers by two functions that agree on what they may name
same_numbers : (K : ℕ → Bool) (bound first top : ℕ) (f g : ℕ → ℕ) (xs : List Step) → EachFits K bound first top xs
    → ((k : ℕ) → Valid K bound first top k → f k ≡ g k)
    → map (with_numbers f) (filter (λ (s : Step). K s.number) xs) ≡ map (with_numbers g) (filter (λ (s : Step). K s.number) xs)
same_numbers K bound first top f g [] fits same = refl
same_numbers K bound first top f g (s ∷ xs) fits same = at (K s.number) refl (same_numbers K bound first top f g xs fits.1 same)
  where
    at : (x : Bool) → K s.number ≡ x
        → map (with_numbers f) (filter (λ (s : Step). K s.number) xs) ≡ map (with_numbers g) (filter (λ (s : Step). K s.number) xs)
        → map (with_numbers f) (cond (K s.number) (s ∷ filter (λ (s : Step). K s.number) xs) (filter (λ (s : Step). K s.number) xs))
        ≡ map (with_numbers g) (cond (K s.number) (s ∷ filter (λ (s : Step). K s.number) xs) (filter (λ (s : Step). K s.number) xs))
    at true e h = rw (e, same_step f g s (λ k m. same k (fits.0 e k m)), h) refl
    at false e h = rw (e) h

-- the steps that are kept, by the numbers that they get
pub trimmed_is : (first next : ℕ) (steps : List Step) → IsDerivation first steps
    → trimmed next steps ≡ map (with_numbers (new_of (among (reached steps)) first next)) (filter (λ (s : Step). among (reached steps) s.number) steps)
unfolding trimmed
trimmed_is first next steps d =
    let K : ℕ → Bool = among (reached steps) in
    rw (kept_numbers K steps first d.numbers)
    (same_numbers K first first (first + length steps) (new_number (filter K (range_with_len first (length steps))) next) (new_of K first next) steps
    (fits_below_first first steps d)
    (λ k v. new_number_is K first first next (length steps) k (omega arith) v))

-- THE MARKS

-- marks count what is kept
marks_count : (K : ℕ → Bool) (first : ℕ) (marks : List Bool) → ((k : ℕ) → k < length marks → slice_index_or marks k false ≡ K (first + k))
    → (i : ℕ) → i ≤ length marks → length (filter (λ b. b) (take i marks)) ≡ count_kept K first i
marks_count K first marks is zero le = refl
marks_count K first [] is (suc i) le = absurd (omega arith)
marks_count K first (b ∷ marks) is (suc i) le =
    let here : b ≡ K first = is 0 (omega arith) ∙ ap K (let e : first + 0 ≡ first = omega arith in e) in
    let later = marks_count K (first + 1) marks
    (λ k lt. is (suc k) (omega (arith, lt)) ∙ ap K (let e : first + suc k ≡ first + 1 + k = omega arith in e)) i (omega arith) in
    at b (K first) here later
  where
    at : (b x : Bool) → b ≡ x → length (filter (λ b. b) (take i marks)) ≡ count_kept K (first + 1) i
        → length (cond b (b ∷ filter (λ b. b) (take i marks)) (filter (λ b. b) (take i marks)))
        ≡ length (cond x (first ∷ filter K (range_with_len (first + 1) i)) (filter K (range_with_len (first + 1) i)))
    at true true e h = omega (arith, h)
    at false false e h = h
    at true false e h = absurd (let f : ⊥ = cc in f)
    at false true e h = absurd (let f : ⊥ = cc in f)

-- a table of new numbers
pub numbers_are : (K : ℕ → Bool) (first next bound : ℕ) (marks : List Bool) (numbers : List ℕ)
    → ((k : ℕ) → k < length marks → slice_index_or marks k false ≡ K (first + k))
    → ((i : ℕ) → i < length marks → slice_index numbers i ≡ next + count_by (λ b. b) (take i marks))
    → bound ≤ first → (k : ℕ) → Valid K bound first (first + length marks) k → number_by_table first numbers k ≡ new_of K first next k
numbers_are K first next bound marks numbers is each b k (a_position lt) = rw (le-leb (suc k) first (omega (arith, lt, b))) refl
numbers_are K first next bound marks numbers is each b k (a_step le below kept) =
    rw (le-ltb k first le)
    (each (k - first) (omega arith) ∙ ap (λ n. next + n) (sym (length-filter (λ b. b) (take (k - first) marks)) ∙ marks_count K first marks is (k - first) (omega arith)))

-- the steps that have a mark
pub marked_steps : (K : ℕ → Bool) (first : ℕ) (marks : List Bool) → ((k : ℕ) → k < length marks → slice_index_or marks k false ≡ K (first + k))
    → (a : ℕ) (xs : List Step) → first ≤ a → a + length xs ≤ first + length marks → are_numbered a xs ≡ true
    → filter (is_marked first marks) xs ≡ filter (λ (s : Step). K s.number) xs
marked_steps K first marks is a [] le within n = refl
marked_steps K first marks is a (s ∷ xs) le within n =
    let h = head_number a s xs n in
    let back : first + (s.number - first) ≡ s.number = omega (arith, h.0, le) in
    let here : is_marked first marks s ≡ K s.number = is (s.number - first) (omega (arith, h.0, le, within)) ∙ ap K back in
    rw (here, marked_steps K first marks is (a + 1) xs (omega arith) (omega arith) h.1) refl

-- what `trim` leaves
pub trims : (first next : ℕ) (steps kept : List Step) (marks : List Bool) (numbers : List ℕ) → IsDerivation first steps
    → length marks ≡ length steps
    → ((k : ℕ) → k < length marks → slice_index_or marks k false ≡ among (reached steps) (first + k))
    → ((i : ℕ) → i < length marks → slice_index numbers i ≡ next + count_by (λ b. b) (take i marks))
    → kept ≡ map (with_numbers (number_by_table first numbers)) (filter (is_marked first marks) steps)
    → kept ≡ trimmed next steps
trims first next steps kept marks numbers d count is each e =
    let K : ℕ → Bool = among (reached steps) in
    let fits : EachFits K first first (first + length marks) steps = subst (λ n. EachFits K first first (first + n) steps) (sym count) (fits_below_first first steps d) in
    e ∙ ap (map (with_numbers (number_by_table first numbers))) (marked_steps K first marks is first steps (omega arith) (omega (arith, count)) d.numbers)
    ∙ same_numbers K first first (first + length marks) (number_by_table first numbers) (new_of K first next) steps fits
    (numbers_are K first next first marks numbers is each (omega arith))
    ∙ sym (trimmed_is first next steps d)
