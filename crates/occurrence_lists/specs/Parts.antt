-- Lists of numbers that stand one after another.
use Rattle.std.specs.Prelude.{◌≡◌, ◌≤◌, ℕ, ◌-◌, List, [], ◌∷◌, ◌++◌, slice_range, slice_set, slice_index_or}
use Rattle.lk_model.specs.Limits.{max_literals}

-- the lists from a place on, each up to its end
abbrev pub cut : ℕ → List ℕ → List ℕ → List (List ℕ)
cut start ps [] = []
cut start ps (end ∷ ends) = slice_range ps start end ∷ cut end ps ends

-- lists that are being filled, and the sizes that they will have
pub record Filled : Type 0 where
  pub lists : List (List ℕ)
  pub sizes : List ℕ

-- the lists from a place on, each as far as it is filled
abbrev pub begun : ℕ → List ℕ → List ℕ → List ℕ → List (List ℕ)
begun start ps (end ∷ ends) (at ∷ ats) = slice_range ps start at ∷ begun end ps ends ats
begun start ps _ _ = []

-- the sizes of lists with these ends
abbrev pub sizes_of : ℕ → List ℕ → List ℕ
sizes_of start [] = []
sizes_of start (end ∷ ends) = (end - start) ∷ sizes_of end ends

-- each list is filled up to a place between its begin and its end, and the last one ends at the stop
abbrev pub AreWithin : ℕ → List ℕ → List ℕ → ℕ → Type 0
AreWithin start [] [] stop = start ≡ stop
AreWithin start (end ∷ ends) (at ∷ ats) stop = (start ≤ at) × (at ≤ end) × AreWithin end ends ats stop
AreWithin start _ _ stop = ⊥

pub record IsFilling (ends ats : List ℕ) (stop : ℕ) : Type 0 where
  pub within : AreWithin 0 ends ats stop
  pub few : stop ≤ max_literals

-- one more position in one of the lists
abbrev pub placed : ℕ → ℕ → Filled → Filled
placed k p t = record t { lists = slice_set t.lists k (slice_index_or t.lists k [] ++ p ∷ []) }
