-- Marks of what is reached.
use Rattle.std.proofs.Common.{◌≡◌, ℕ, zero, suc, ◌+◌, ◌-◌, ◌<◌, ◌≤◌, Bool, true, false, cond, ◌||◌, ◌==◌, nat_lt, List, [], ◌∷◌, ◌++◌, refl, sym, ◌∙◌, ap, subst, arith, length, map, get_or, take, drop, drop-cons, slice_index_or}
use Rattle.std.specs.List.{list_all}
use Rattle.std.proofs.lemmas.Bool.{leb-true, le-leb}
use Rattle.std.proofs.lemmas.List.{take_more, map_push, drop_more, drop_all, get_or_default, length-drop}
use Rattle.lk_model.specs.Lists.{among}
use Rattle.lk_model.specs.Chains.Chain.{names_of}
use Rattle.lk_model.specs.Chains.Rounds.{reached}
use Rattle.lk_model.specs.declared.document.Turn.{Turn}
use Rattle.lk_model.specs.declared.document.Step.{Step}
use Rattle.refutation_log.specs.declared.reach.Marks.{Marks}
use Rattle.refutation_log.specs.Marks.{AreMarks, HaveSameShape, names_at}
use Rattle.refutation_log.specs.Derivation.{are_numbered, names_lower}
use Rattle.refutation_log.proofs.Steps.{number_get}
use Rattle.lk_model.proofs.Booleans.{and_true}
use Rattle.lk_model.proofs.ListTests.{all_weaker, all_at}
use Rattle.lk_model.proofs.Lists.{among_append}

pub AreMarks-same : (xs ys : List ℕ) (m : Marks) → ((k : ℕ) → among xs k ≡ among ys k) → AreMarks xs m → AreMarks ys m
AreMarks-same xs ys m same h = record {
  apart = h.apart;
  positions = λ k lt. h.positions k lt ∙ same k;
  steps = λ k lt. h.steps k lt ∙ same (m.first + k);
}

-- the clause number of a turn is below what all names are below
pub turn_below : (bound : ℕ) (turns : List Turn) (i : ℕ) (t : Turn) → list_all (λ k. nat_lt k bound) (map (λ (u : Turn). u.with) turns) ≡ true
    → i < length turns → t ≡ get_or turns i t → t.with < bound
turn_below bound [] i t all lt e = absurd (omega arith)
turn_below bound (u ∷ turns) zero t all lt e =
    let here = leb-true (suc u.with) bound (and_true (nat_lt u.with bound) (list_all (λ k. nat_lt k bound) (map (λ (u : Turn). u.with) turns)) all).0 in
    subst (λ (v : Turn). v.with < bound) (sym e) (omega (arith, here))
turn_below bound (u ∷ turns) (suc i) t all lt e =
    turn_below bound turns i t (and_true (nat_lt u.with bound) (list_all (λ k. nat_lt k bound) (map (λ (u : Turn). u.with) turns)) all).1 (omega arith) e

-- one more turn is marked
pub turn_marked : (first : ℕ) (turns : List Turn) (i : ℕ) (t : Turn) (known : List ℕ) (m : Marks) → i < length turns → t ≡ get_or turns i t
    → AreMarks (t.with ∷ ((first ∷ map (λ (u : Turn). u.with) (take i turns)) ++ known)) m
    → AreMarks ((first ∷ map (λ (u : Turn). u.with) (take (i + 1) turns)) ++ known) m
turn_marked first turns i t known m lt e =
    let names = map (λ (u : Turn). u.with) (take i turns) in
    let more : map (λ (u : Turn). u.with) (take (i + 1) turns) ≡ names ++ t.with ∷ [] =
    ap (map (λ (u : Turn). u.with)) (take_more turns i t lt ∙ ap (λ (u : Turn). take i turns ++ u ∷ []) (sym e))
    ∙ map_push (λ (u : Turn). u.with) (take i turns) t in
    rw (more) (AreMarks-same (t.with ∷ ((first ∷ names) ++ known)) ((first ∷ (names ++ t.with ∷ [])) ++ known) m
    (λ k. moved (t.with == k) (first == k) (among names k) (among known k) ((among_append names known k)) (among_append (names ++ t.with ∷ []) known k ∙ ap (λ b. b || among known k) (among_append names (t.with ∷ []) k))))
  where
    moved : {x y : Bool} (a b c d : Bool) → x ≡ (c || d) → y ≡ ((c || (a || false)) || d) → (a || (b || x)) ≡ (b || y)
    moved true true c d e f = refl
    moved true false true d e f = sym f
    moved true false false d e f = sym f
    moved false true c d e f = refl
    moved false false true d e f = e ∙ sym f
    moved false false false d e f = e ∙ sym f

pub HaveSameShape-trans : (a b c : Marks) → HaveSameShape a b → HaveSameShape b c → HaveSameShape a c
HaveSameShape-trans a b c h j = record { first = j.first ∙ h.first; positions = j.positions ∙ h.positions; steps = j.steps ∙ h.steps }

-- lower names are below what the number of the step is at most
pub names_below : (s : Step) (bound : ℕ) → names_lower s ≡ true → s.number ≤ bound → list_all (λ k. nat_lt k bound) (names_of s) ≡ true
names_below s bound lower le =
    all_weaker (λ k. nat_lt k s.number) (λ k. nat_lt k bound) (λ k t. (let below = leb-true (suc k) s.number t in le-leb (suc k) bound (omega arith))) (names_of s) lower

-- the names at a place are those of the step there
pub names_there : (steps : List Step) (at : ℕ) (s : Step) → at < length steps → s ≡ get_or steps at s → names_at steps at ≡ names_of s
names_there [] at s lt e = absurd (omega arith)
names_there (t ∷ steps) zero s lt e = ap names_of (sym e)
names_there (t ∷ steps) (suc at) s lt e = names_there steps at s (omega arith) e

-- a step that stands at no place
no_step : Step
no_step = record { number = 0; clause = []; first = 0; turns = [] }

-- names at a place are below what the number there is at most
pub names_at_below : (first : ℕ) (steps : List Step) (at bound : ℕ) → are_numbered first steps ≡ true → list_all names_lower steps ≡ true
    → at < length steps → first + at ≤ bound → list_all (λ k. nat_lt k bound) (names_at steps at) ≡ true
names_at_below first steps at bound numbers lower lt le =
    let s = get_or steps at no_step in
    let e : s ≡ get_or steps at s = get_or_default steps at no_step s lt in
    let number = number_get first steps at s numbers lt e in
    rw (names_there steps at s lt e)
    (names_below s bound (subst (λ (u : Step). names_lower u ≡ true) (sym e) (all_at names_lower steps at s lower lt)) (omega (arith, number, le)))

-- what is reached before a list that is not empty
pub at_rest : (s : Step) (later : List Step) → 0 < length later
    → reached (s ∷ later) ≡ cond (among (reached later) s.number) (names_of s ++ reached later) (reached later)
unfolding reached
at_rest s [] some = absurd (omega arith)
at_rest s (t ∷ later) some = refl

-- so is the number itself, if the bound is above it
pub names_all : (s : Step) (bound : ℕ) → names_lower s ≡ true → s.number < bound → list_all (λ k. nat_lt k bound) (s.number ∷ names_of s) ≡ true
names_all s bound lower lt = rw (le-leb (suc s.number) bound lt) (names_below s bound lower (omega arith))

-- what is reached from one step more
reached_at : (steps : List Step) (at : ℕ) (s : Step) → suc at < length steps → s ≡ get_or steps at s
    → reached (drop at steps) ≡ cond (among (reached (drop (suc at) steps)) s.number) (names_of s ++ reached (drop (suc at) steps)) (reached (drop (suc at) steps))
reached_at steps at s within e =
    let here : drop at steps ≡ s ∷ drop (suc at) steps = drop-cons steps at s (omega arith) ∙ ap (λ (u : Step). u ∷ drop (suc at) steps) (sym e) in
    ap reached here ∙ at_rest s (drop (suc at) steps) (omega (arith, length-drop (suc at) steps))

pub reached_more : (steps : List Step) (at : ℕ) (s : Step) → 0 < at → at < length steps → s ≡ get_or steps (at - 1) s
    → reached (drop (at - 1) steps) ≡ cond (among (reached (drop at steps)) s.number) (names_of s ++ reached (drop at steps)) (reached (drop at steps))
reached_more steps at s lt within e =
    let back : suc (at - 1) ≡ at = omega arith in
    subst (λ j. reached (drop (at - 1) steps) ≡ cond (among (reached (drop j steps)) s.number) (names_of s ++ reached (drop j steps)) (reached (drop j steps))) back
    (reached_at steps (at - 1) s (omega arith) e)

-- a mark that is read
pub read_mark : (marks : List Bool) (i : ℕ) (x b : Bool) → i < length marks → x ≡ get_or marks i x → x ≡ b → get_or marks i false ≡ b
read_mark marks i x b lt e is = get_or_default marks i false x lt ∙ sym e ∙ is

-- the marks with those of one step more
pub more_marked : (steps : List Step) (at : ℕ) (m n : Marks) → are_numbered m.first steps ≡ true → length m.steps.items ≡ length steps
    → 0 < at → at < length steps
    → slice_index_or m.steps.items (at - 1) false ≡ true → AreMarks (reached (drop at steps)) m
    → ((known : List ℕ) → AreMarks known m → AreMarks (names_at steps (at - 1) ++ known) n) → AreMarks (reached (drop (at - 1) steps)) n
more_marked steps at m n numbers count lt within marked h step =
    let s = get_or steps (at - 1) no_step in
    let e : s ≡ get_or steps (at - 1) s = get_or_default steps (at - 1) no_step s (omega arith) in
    let number : s.number ≡ m.first + (at - 1) = number_get m.first steps (at - 1) s numbers (omega arith) e in
    let known : among (reached (drop at steps)) s.number ≡ true = rw number (sym (h.steps (at - 1) (omega arith)) ∙ marked) in
    rw (reached_more steps at s lt within e, known)
    (subst (λ (ns : List ℕ). AreMarks (ns ++ reached (drop at steps)) n) (names_there steps (at - 1) s (omega arith) e) (step (reached (drop at steps)) h))

pub none_marked : (steps : List Step) (at : ℕ) (m : Marks) → are_numbered m.first steps ≡ true → length m.steps.items ≡ length steps
    → 0 < at → at < length steps
    → slice_index_or m.steps.items (at - 1) false ≡ false → AreMarks (reached (drop at steps)) m
    → AreMarks (reached (drop (at - 1) steps)) m
none_marked steps at m numbers count lt within marked h =
    let s = get_or steps (at - 1) no_step in
    let e : s ≡ get_or steps (at - 1) s = get_or_default steps (at - 1) no_step s (omega arith) in
    let number : s.number ≡ m.first + (at - 1) = number_get m.first steps (at - 1) s numbers (omega arith) e in
    let known : among (reached (drop at steps)) s.number ≡ false = rw number (sym (h.steps (at - 1) (omega arith)) ∙ marked) in
    rw (reached_more steps at s lt within e, known) h

-- what is reached at the last step
pub last_reached : (steps : List Step) (s : Step) → 0 < length steps → s ≡ get_or steps (length steps - 1) s
    → reached (drop (length steps - 1) steps) ≡ s.number ∷ names_of s
unfolding reached
last_reached steps s some e =
    let here : drop (length steps - 1) steps ≡ s ∷ [] =
    drop_more steps (length steps - 1) s (omega arith) ∙ ap (λ (u : Step). u ∷ drop (length steps - 1 + 1) steps) (sym e)
    ∙ ap (λ us. s ∷ us) (drop_all (length steps - 1 + 1) steps (omega arith)) in
    ap reached here

pub last_marked : (first : ℕ) (steps : List Step) (m : Marks) → are_numbered first steps ≡ true → 0 < length steps
    → AreMarks (names_at steps (length steps - 1) ++ (first + (length steps - 1)) ∷ []) m → AreMarks (reached (drop (length steps - 1) steps)) m
last_marked first steps m numbers some marked =
    let s = get_or steps (length steps - 1) no_step in
    let e : s ≡ get_or steps (length steps - 1) s = get_or_default steps (length steps - 1) no_step s (omega arith) in
    let number = number_get first steps (length steps - 1) s numbers (omega arith) e in
    let h : AreMarks (names_of s ++ s.number ∷ []) m =
    subst (λ (k : ℕ). AreMarks (names_of s ++ k ∷ []) m) (sym number)
    (subst (λ (ns : List ℕ). AreMarks (ns ++ (first + (length steps - 1)) ∷ []) m) (names_there steps (length steps - 1) s (omega arith) e) marked) in
    rw (last_reached steps s some e) (AreMarks-same (names_of s ++ s.number ∷ []) (s.number ∷ names_of s) m
    (λ k. among_append (names_of s) (s.number ∷ []) k ∙ moved (among (names_of s) k) (s.number == k)) h)
  where
    moved : (a b : Bool) → (a || (b || false)) ≡ (b || a)
    moved true true = refl
    moved true false = refl
    moved false true = refl
    moved false false = refl

pub nothing_marked : (steps : List Step) (m : Marks) → length steps ≤ 0 → AreMarks [] m → AreMarks (reached steps) m
unfolding reached
nothing_marked [] m none h = h
nothing_marked (s ∷ steps) m none h = absurd (omega arith)
