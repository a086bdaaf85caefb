-- The two literals that a clause watches, and what a clause asks for.
use Rattle.std.specs.Prelude.{◌≡◌, ◌&&◌, ◌||◌, Bool, not, if◌then◌else◌, List, ℤ, IsTrue, Option, Some, None, ℕ, pos, ◌<◌, ◌≤◌, length, slice_index_or}
use Rattle.std.specs.List.{list_all, list_any}
use Rattle.std.specs.Ordering.{int_eq}
use Rattle.lk_model.specs.Formulas.Literal.{contains}
use Rattle.watch_prop.specs.declared.entry.Entry.{Entry}
use Rattle.watch_prop.specs.declared.watch.Watch.{Watch}
use Rattle.watch_prop.specs.declared.watch.Found.{Found}
use Rattle.watch_prop.specs.declared.watch.Found.TheVariants.{AllFalse, One, Two}
use Rattle.watch_prop.specs.declared.watch.Demand.{Demand}
use Rattle.watch_prop.specs.declared.watch.Demand.TheVariants.{Move, Truth, Conflict}
use Rattle.watch_prop.specs.Trail.{true_in, false_in}

-- the other one of the two literals
abbrev pub other_of : Watch → ℤ → ℤ
other_of w l = if int_eq w.first l then w.second else w.first

-- a clause has a true literal
abbrev pub has_true : List Entry → List ℤ → Bool
has_true trail c = list_any (true_in trail) c

-- The watch of a clause is upheld under a trail of which some literals were passed on: the clause has a true literal,
-- or neither literal of the watch is false by what was passed on.
abbrev pub is_upheld : List Entry → List Entry → List ℤ → Watch → Bool
is_upheld trail passed c w = has_true trail c || not (false_in passed w.first) && not (false_in passed w.second)

-- the literal at a place is false
abbrev pub false_at : List Entry → List ℤ → ℕ → Bool
false_at trail c place = false_in trail (slice_index_or c place (pos 0))

-- the first place at which a literal stands that is not false
abbrev pub IsFirstNotFalse : List Entry → List ℤ → Option ℕ → Type 0
IsFirstNotFalse trail c (Some at) = (at < length c) × IsTrue (not (false_at trail c at)) × ((k : ℕ) → k < at → IsTrue (false_at trail c k))
IsFirstNotFalse trail c None = (k : ℕ) → k < length c → IsTrue (false_at trail c k)

-- A place of the clause at which a literal stands that is not false, other than one; none where each from a first place on up to
-- an end is false or that one.
abbrev pub IsPlaceOfAnother : List Entry → List ℤ → ℤ → ℕ → ℕ → Option ℕ → Type 0
IsPlaceOfAnother trail c b begin end (Some at) = (at < length c) × IsTrue (not (int_eq (slice_index_or c at (pos 0)) b) && not (false_at trail c at))
IsPlaceOfAnother trail c b begin end None = (k : ℕ) → begin ≤ k → k < end → IsTrue (int_eq (slice_index_or c k (pos 0)) b || false_at trail c k)

-- each literal of the clause but one is false
abbrev pub all_false_but : List Entry → List ℤ → ℤ → Bool
all_false_but trail c l = list_all (λ k. int_eq k l || false_in trail k) c

-- which literals of a clause are not false: none, just one, or two and perhaps others
abbrev pub IsWatchChoice : List Entry → List ℤ → Found → Type 0
IsWatchChoice trail c AllFalse = IsTrue (list_all (false_in trail) c)
IsWatchChoice trail c (One l) = IsTrue (contains c l) × IsTrue (not (false_in trail l)) × IsTrue (all_false_but trail c l)
IsWatchChoice trail c (Two w) = IsTrue (contains c w.first) × IsTrue (contains c w.second) × IsTrue (not (int_eq w.second w.first))
    × IsTrue (not (false_in trail w.first)) × IsTrue (not (false_in trail w.second))

-- What a clause asks for of which one watched literal is false, and the other one, b, is not true: to watch a literal that is
-- not false, if there is one but b; else that b becomes true, or it is false.
abbrev pub IsDemand : List Entry → List ℤ → ℤ → Demand → Type 0
IsDemand trail c b (Move r at) = IsTrue (contains c r) × IsTrue (not (int_eq r b)) × IsTrue (not (false_in trail r))
IsDemand trail c b (Truth f) = (f ≡ b) × IsTrue (not (false_in trail b)) × IsTrue (all_false_but trail c b)
IsDemand trail c b Conflict = IsTrue (list_all (false_in trail) c)
