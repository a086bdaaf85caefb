-- Places that are searched in ranges.
use Rattle.std.specs.Prelude.{◌≡◌, ℕ, ◌+◌, ◌/◌, ◌<◌, ◌≤◌, max, min, Bool, List, [], ◌∷◌, ◌++◌, find, option_map, Option, IfOk}
use Rattle.std.specs.List.{range_with_len}
use Rattle.std.specs.declared.result.Result.{Result}
use Rattle.std.specs.Fn.{FnReturns}
use denote.Param.Members.{Shared}
use denote.Ref.{Bor}
use Rattle.lk_model.specs.declared.list.OutOfMemory.{OutOfMemory}
use Rattle.check_tables.specs.declared.places.Span.{Span}

-- what a search returns: a place, or none
abbrev pub Answer : Type 0
Answer = Result (Option ℕ) OutOfMemory

-- the places of a range
abbrev pub places_in : Span → List ℕ
places_in span = range_with_len span.first span.count

-- the ranges, one after another, have the places from a first one to n
abbrev pub AreCut : ℕ → ℕ → List Span → Type 0
AreCut first n [] = first ≡ n + 1
AreCut first n (span ∷ spans) = (span.first ≡ first) × AreCut (first + span.count) n spans

-- HOW MANY PIECES

-- How many pieces a search is cut into at most, if each makes tables of `bytes` bytes: two for two items or more; and
-- one, with one more for each item for every 128 bytes of them.
abbrev pub pieces_for : ℕ → ℕ → ℕ
pieces_for items bytes = max (min 2 items) (items / (bytes / 128 + 1) + 1)

-- A TEST OF PLACES

module _ {F : Type 0} (g : Shared F (ℕ × Unit {0}) Bool) (f : F) (first end : ℕ) where
  -- f may be called on each place from the first one to before the end
  abbrev pub AcceptsPlaces : Type 0
  AcceptsPlaces = (p : ℕ) → first ≤ p → p < end → g.pre f (p, tt)

  -- f returns on each of these places what the test says
  abbrev pub Decides : (ℕ → Bool) → Type 0
  Decides by = (p : ℕ) (b : Bool) → first ≤ p → p < end → FnReturns g f (p, tt) b → b ≡ by p

-- A SEARCH IN RANGES

module _ {F : Type 0} (g : Shared F (Span × Unit {0}) Answer) (f : F) (n : ℕ) where
  -- f may be called on each range within 1 to n
  abbrev pub AcceptsSpans : Type 0
  AcceptsSpans = (span : Span) → 0 < span.first → span.first + span.count ≤ n + 1 → g.pre f (span, tt)

  -- f returns the first place of each of these ranges at which the test says yes
  abbrev pub Finds : (ℕ → Bool) → Type 0
  Finds by = (span : Span) (r : Answer) → 0 < span.first → span.first + span.count ≤ n + 1 → FnReturns g f (span, tt) r → IfOk r (λ place. place ≡ find by (places_in span))

-- A SEARCH IN PIECES OF A LIST

-- what the pieces have, one after another
abbrev pub joined : {T : Type 0} → List (Bor (List T)) → List T
joined [] = []
joined (part ∷ parts) = part.now ++ joined parts

-- the items stand in the list one after another
abbrev pub IsPart : {T : Type 0} → List T → List T → Type 0
IsPart {T} part items = (before : List T) × (after : List T) × (items ≡ before ++ (part ++ after))

module _ {F T : Type 0} (g : Shared F (Bor (List T) × Unit {0}) Answer) (f : F) (items : List T) where
  -- f may be called on each piece of the list
  abbrev pub AcceptsParts : Type 0
  AcceptsParts = (part : Bor (List T)) → IsPart part.now items → g.pre f (part, tt)

  -- f returns what is found of the first item of each piece at which the test says yes
  abbrev pub FindsItems : (T → Bool) → (T → ℕ) → Type 0
  FindsItems by tell = (part : Bor (List T)) (r : Answer) → IsPart part.now items → FnReturns g f (part, tt) r → IfOk r (λ place. place ≡ option_map tell (find by part.now))
